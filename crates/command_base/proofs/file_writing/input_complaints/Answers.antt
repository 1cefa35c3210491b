-- The complaints of one input more.
use Rattle.std.proofs.Common.{◌≡◌, ℕ, ◌+◌, ◌∙◌, ◌∷◌, ◌++◌, [], List, Option, ap, sym, drop, rules}
use Rattle.std.proofs.lemmas.List.{drop_more}
use Rattle.command_base.specs.declared.complaint.Complaint.{Complaint}
use Rattle.command_base.specs.OutputSteps.{flags_of}
use Rattle.command_base.proofs.DueComplaints.{input_due, drop_again, told_from}
use Rattle.command_base.proofs.file_writing.input_complaints.Goals as goal

pub inputs-preserved : goal.inputs-preserved
inputs-preserved g c =
    let inputs = c.args.inputs.now in
    let flags = flags_of inputs c.args.failed in
    let i = c.inputs.i in
    let next : drop i inputs ≡ c.as_str-name.result.now ∷ drop (i + 1) inputs =
    drop_more inputs i c.index-inputs-i.result c.inputs-test.true ∙ ap (λ (x : List ℕ). x ∷ drop (i + 1) inputs) (sym (c.as_str-name.ensures.same ∙ c.index-inputs-i.is)) in
    record {
      troubles = λ some.
          let halts = (g.K.FileWriting.ending c.args.what.now inputs some).halts in
          input_due c.inputs.complaints.items (told_from 0 inputs halts flags) i inputs halts flags c.as_str-name.result.now c.halt.result c.due_when.result c.push-in-inputs.new.self.items (c.inputs.invariant.troubles some) next (drop_again halts i) (drop_again flags i)
          (c.halt.ensures some) (c.due_when.ensures ∙ search rules) (c.push-in-inputs.ensures.items ∙ ap (λ (l : List (Option Complaint)). l ++ c.due_when.result ∷ []) c.push.ensures.items);
      many = search rules;
    }
