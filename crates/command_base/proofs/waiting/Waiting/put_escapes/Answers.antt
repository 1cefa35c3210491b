use Rattle.json.specs.Print.{escape_byte}
use Rattle.command_base.proofs.Behind.{puts_more}
use Rattle.command_base.proofs.waiting.Waiting.put_escapes.Goals as goal

pub text-preserved : goal.text-preserved
text-preserved g c = puts_more escape_byte c.args.text.now c.text.byte-index _ _ _ _ _ _ _ c.text-test.true c.text.invariant c.put_escaped.ensures
