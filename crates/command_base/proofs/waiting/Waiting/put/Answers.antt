use Rattle.command_base.proofs.Behind.{puts_next}
use Rattle.command_base.proofs.waiting.Waiting.put.Goals as goal

pub text-preserved : goal.text-preserved
text-preserved g c = puts_next c.args.text.now c.text.byte-index _ _ _ _ _ _ _ c.text-test.true c.text.invariant c.put_byte.ensures
