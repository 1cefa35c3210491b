use Rattle.std.proofs.Common.{sym, ap}
use Rattle.command_base.specs.Texts.{trouble_line}
use Rattle.command_base.specs.ComplaintTroubles.{trouble_of}
use Rattle.command_base.proofs.Behind.{puts_same}
use Rattle.command_base.proofs.complaint.put_line.Goals as goal

pub returns-in-OutputFault : goal.returns-in-OutputFault
unfolding trouble_line
returns-in-OutputFault g c = puts_same _ _ _ _ _ _ (sym (ap (λ x. trouble_line (trouble_of x)) c.in-OutputFault.is)) c.put_text.ensures

pub returns-in-NoMemory : goal.returns-in-NoMemory
unfolding trouble_line
returns-in-NoMemory g c = puts_same _ _ _ _ _ _ (sym (ap (λ x. trouble_line (trouble_of x)) c.in-NoMemory.is)) c.put_text-in-NoMemory.ensures
