use Rattle.std.proofs.Common.{Bool, List, subst, ap, ◌∙◌}
use Rattle.command_base.specs.Texts.{Trouble, no_memory}
use Rattle.command_base.specs.Ran.{when, Complains}
use Rattle.command_base.specs.OneFile.{troubles_in, is_lack}
use Rattle.command_base.proofs.Due.{one_due}
use Rattle.command_base.proofs.one_file.answer_file.Goals as goal

pub returns : goal.returns
returns g c = λ ending halts lacks.
    let due = one_due c.args.file.now (troubles_in ending) c.args.faults.file c.args.faults.printing (is_lack ending) _ _ _ _ halts c.due_when.ensures c.due_when-2.ensures (c.due_when-3.ensures ∙ ap (λ (b : Bool). when b no_memory) lacks) in
    subst (λ (l : List Trouble). Complains l (g.E.Sink.state c.args.err.now) (g.E.Sink.state c.complain_of.new.err) c.complain_of.result) due c.complain_of.ensures
