use Rattle.recorder.proofs.Unfull.{lossless_refuses_none_as_full}
use Rattle.recorder.proofs.laws.lossless_refuses_none_as_full.Goals as goal

pub returns : goal.returns
returns c = lossless_refuses_none_as_full
