use Rattle.recorder.proofs.FeedsGiven.{recordings_are_given}
use Rattle.recorder.proofs.laws.recordings_are_given.Goals as goal

pub returns : goal.returns
returns c = recordings_are_given
