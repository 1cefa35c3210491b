use Rattle.command_base.specs.Texts.{said}
use Rattle.command_base.specs.ComplaintTroubles.{complained}
use Rattle.command_base.proofs.Behind.{puts_more}
use Rattle.command_base.proofs.complaining.put_lines.Goals as goal

pub complaints-preserved : goal.complaints-preserved
complaints-preserved g c = puts_more (λ x. said (complained x)) c.args.complaints.now c.complaints.complaint-index _ _ _ _ _ _ _ c.complaints-test.true c.complaints.invariant c.put_some.ensures
