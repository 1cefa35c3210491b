use Rattle.std.proofs.Common.{ap}
use Rattle.json.specs.Print.{escape}
use Rattle.command_base.proofs.Behind.{puts_behind, puts_same}
use Rattle.command_base.proofs.waiting.Waiting.put_quoted.Goals as goal

pub returns : goal.returns
returns g c = puts_behind _ _ _ _ _ _ _ _ c.put_byte.ensures (puts_behind _ _ _ _ _ _ _ _ (puts_same _ _ _ _ _ _ (ap escape c.as_bytes.ensures.value) c.put_escapes.ensures) c.put_byte-2.ensures)
