use Rattle.std.proofs.Common.{List, subst}
use Rattle.command_base.specs.Texts.{Trouble}
use Rattle.command_base.specs.Ran.{Complains}
use Rattle.command_read.proofs.TwoDue.{two_due}
use Rattle.command_read.proofs.two_files.complain_of_two.Goals as goal

pub returns : goal.returns
returns g c =
    subst (λ (l : List Trouble). Complains l (g.E.Sink.state c.args.err.now) (g.E.Sink.state c.complain_of.new.err) c.complain_of.result)
    (two_due c.args.names.file.now c.args.names.other.now c.args.faults c.args.found.lacked _ _ _ _ _ _ c.due_when.ensures c.due_when-2.ensures c.due_when-3.ensures c.due_when-4.ensures)
    c.complain_of.ensures
