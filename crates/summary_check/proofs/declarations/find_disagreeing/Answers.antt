use Rattle.std.proofs.Common.{ℕ, List, [], ◌∷◌, ◌++◌, sym, ap, subst, ◌∙◌, append_assoc, arith}
use Rattle.std.specs.Prelude.{take}
use Rattle.std.proofs.lemmas.List.{take_all}
use Rattle.mcap_model.specs.Tops.{Top, flat}
use Rattle.mcap_model.specs.Rules.{V7}
use Rattle.mcap_model.specs.Declarations.{TablesOf}
use Rattle.mcap_model.specs.Made.{top}
use Rattle.mcap_model.proofs.OneMore.{taken_more}
use Rattle.summary_read.specs.PartSteps.{cut_tops}
use Rattle.summary_check.specs.Declaring.{DeclarationTaken}
use Rattle.summary_check.proofs.Onward.{tops_within, length-tops, onward}
use Rattle.summary_check.proofs.declarations.find_disagreeing.Goals as goal

pub returns-in-Ok-false : goal.returns-in-Ok-false
returns-in-Ok-false c = λ tops are judged.
    let body = cut_tops c.args.bytes.now c.args.cuts.now in
    let i = c.records.i in
    let found = c.record_at-record.result in
    let t = top found.op found.content.now in
    let at = c.record_at-record.ensures in
    let w = c.records.invariant tops are judged in
    (t, at, subst (DeclarationTaken (tops ++ take i body) t c.take_declaration.new.tables) c.in-Ok-false.field-0-test (c.in-Ok-false.ensures (tops ++ take i body) w.0 (judged i t at)))

pub records-preserved : goal.records-preserved
records-preserved c = λ tops are judged.
    let body = cut_tops c.args.bytes.now c.args.cuts.now in
    let i = c.records.i in
    let found = c.record_at-record.result in
    let t = top found.op found.content.now in
    let at = c.record_at-record.ensures in
    let w = c.records.invariant tops are judged in
    let new = c.take_declaration.new.tables in
    let taken = subst (DeclarationTaken (tops ++ take i body) t new) c.in-Ok-true.field-0-test (c.in-Ok-true.ensures (tops ++ take i body) w.0 (judged i t at)) in (
      subst (λ (l : List Top). TablesOf (flat l) new) (append_assoc tops (take i body) (t ∷ []) ∙ ap (λ (l : List Top). tops ++ l) (sym (taken_more body i t at))) taken.1,
      onward (λ (k : ℕ) (u : Top). V7 (tops ++ take k body) u) body i t w.1 at taken.0,
    )

pub returns : goal.returns
returns c = λ tops are judged.
    let body = cut_tops c.args.bytes.now c.args.cuts.now in
    let w = c.records.invariant tops are judged in (
      (λ k t at. let within = tops_within c.args.bytes.now c.args.cuts.now k t at in w.1 k t at (omega (arith, within, c.records-test.false))),
      subst (λ (l : List Top). TablesOf (flat (tops ++ l)) c.records.tables) (take_all c.records.i body (omega (arith, length-tops c.args.bytes.now c.args.cuts.now, c.records-test.false))) w.0,
    )
