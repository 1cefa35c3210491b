use Rattle.recorder.proofs.Unfull.{full_buffers_are_needed}
use Rattle.recorder.proofs.laws.full_buffers_are_needed.Goals as goal

pub returns : goal.returns
returns c = full_buffers_are_needed
