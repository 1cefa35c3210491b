-- The troubles of the command are told.
use Rattle.std.proofs.Common.{Bool, List, [], ◌∷◌, ◌++◌, subst, sym, ap, ◌∙◌}
use Rattle.std.specs.List.{flat_map}
use Rattle.command_base.specs.Texts.{Trouble, output_limit, no_memory}
use Rattle.command_base.specs.ComplaintTroubles.{complained}
use Rattle.command_base.specs.Ran.{when, told_of, Complains}
use Rattle.command_base.specs.OutputSteps.{flags_of}
use Rattle.command_base.proofs.DueComplaints.{four_more, told_behind}
use Rattle.command_base.proofs.file_writing.complain_of_writing.Goals as goal

pub returns : goal.returns
returns g c = λ kind.
    let out = c.args.out_name.now in
    let inputs = c.args.inputs.now in
    let flags = flags_of inputs c.args.failed in
    let some = c.is_part_failed-some_failed.result in
    let ending = g.K.FileWriting.ending c.args.what.now inputs some in
    let over = c.due_when-2.ensures ∙ ap (λ (b : Bool). when b (output_limit out)) (c.passes_limit.ensures inputs some) in
    let lack = c.due_when-4.ensures ∙ ap (λ (b : Bool). when b no_memory) (c.lacks_memory.ensures inputs) in
    let items = c.push-4.ensures.items ∙ ap (λ l. l ++ c.due_when-4.result ∷ []) (c.push-3.ensures.items ∙ ap (λ l. l ++ c.due_when-3.result ∷ []) (c.push-2.ensures.items ∙ ap (λ l. l ++ c.due_when-2.result ∷ []) c.push.ensures.items)) in
    let all = four_more c.input_complaints-complaints.result.items c.push-4.new.self.items (told_of inputs ending.halts flags []) _ _ _ _ _ _ _ _ (c.input_complaints-complaints.ensures.troubles some) c.due_when.ensures over c.due_when-3.ensures lack items in
    let due = ap (flat_map complained) c.as_slice.ensures.value ∙ all ∙ sym (told_behind inputs ending.halts flags _) in
    record {
      some = some;
      some_is = c.is_part_failed-some_failed.ensures;
      told = subst (λ (l : List Trouble). Complains l (g.E.Sink.state c.args.err.now) (g.E.Sink.state c.complain_of.new.err) c.complain_of.result) due c.complain_of.ensures;
    }
