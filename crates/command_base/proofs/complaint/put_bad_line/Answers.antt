use Rattle.command_base.specs.Texts.{trouble_line}
use Rattle.command_base.proofs.About.{puts_about}
use Rattle.command_base.proofs.Behind.{puts_behind}
use Rattle.command_base.proofs.complaint.put_bad_line.Goals as goal

pub returns : goal.returns
unfolding trouble_line
returns g c = puts_about _ _ _ _ _ _ _ _ _ c.put_about.ensures (puts_behind _ _ _ _ _ _ _ _ c.put_number.ensures c.put_text.ensures)
