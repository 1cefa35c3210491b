use Rattle.indexed_replay.proofs.Telling.{flawless_loaded}
use Rattle.indexed_replay.proofs.laws.flawless_files_are_loaded.Goals as goal

pub returns : goal.returns
returns c = flawless_loaded
