use Rattle.command_base.proofs.Behind.{puts_behind}
use Rattle.command_base.proofs.complaint.put_about.Goals as goal

pub returns : goal.returns
returns g c = puts_behind _ _ _ _ _ _ _ _ c.put_text.ensures (puts_behind _ _ _ _ _ _ _ _ c.put_quoted.ensures c.put_text-2.ensures)
