use Rattle.command_base.proofs.About.{puts_about}
use Rattle.command_base.proofs.complaint.put_file.Goals as goal

pub returns : goal.returns
returns g c = puts_about _ _ _ _ _ _ _ _ _ c.put_about.ensures c.put_text.ensures
