use Rattle.recorder.proofs.Unfull.{full_buffers_were_full}
use Rattle.recorder.proofs.laws.full_buffers_were_full.Goals as goal

pub returns : goal.returns
returns c = full_buffers_were_full
