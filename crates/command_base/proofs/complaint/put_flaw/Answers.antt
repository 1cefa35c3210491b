use Rattle.std.proofs.Common.{ℕ, ◌++◌, subst}
use Rattle.std.specs.Prelude.{codes, decimal}
use Rattle.command_base.specs.Putting.{PutsText}
use Rattle.command_base.specs.Texts.{trouble_line, about, at_offset}
use Rattle.command_base.proofs.About.{puts_about}
use Rattle.command_base.proofs.Behind.{puts_behind}
use Rattle.command_base.proofs.complaint.put_flaw.Goals as goal

pub returns : goal.returns
unfolding trouble_line
returns g c =
    subst (λ (n : ℕ). PutsText (g.E.Sink.state c.args.err.now) c.args.waiting.now (g.E.Sink.state c.put_offset.new.err) c.put_offset.new.waiting (about c.args.name.now (codes ": flaw V" ++ (decimal n ++ at_offset c.args.offset))))
    c.number.ensures
    (puts_about _ _ _ _ _ _ _ _ _ c.put_about.ensures (puts_behind _ _ _ _ _ _ _ _ c.put_number.ensures c.put_offset.ensures))
