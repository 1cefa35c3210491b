use Rattle.indexed_replay.proofs.Roomy.{full_files_have_room}
use Rattle.indexed_replay.proofs.laws.full_files_have_room.Goals as goal

pub returns : goal.returns
returns c = full_files_have_room
