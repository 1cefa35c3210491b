-- What the first magic, the last one and the records between them say; and what was asked for.
use Rattle.std.proofs.Common.{ℕ, ◌+◌, ◌-◌, Ok, inl, inr, subst, sym, ◌∙◌, arith}
use Rattle.std.proofs.lemmas.Bool.{both_ways}
use Rattle.mcap_model.specs.Valid.{Flaw, flaw_1}
use Rattle.mcap_model.specs.declared.checked.Verdict.TheVariants as verdicts
use Rattle.mcap_model.specs.declared.rules.Rule.TheVariants as rules
use Rattle.file_check.specs.Checking.{CheckCause}
use Rattle.file_check.specs.CutFiles.{NamesCut}
use Rattle.file_check.proofs.Refusing.{too_short}
use Rattle.file_check.proofs.CutTold.{short_told}
use Rattle.file_check.proofs.Lacked.{lack_later}
use Rattle.file_check.proofs.whole.check.Goals as goal

pub returns-in-Ok-false-clause-checks : goal.returns-in-Ok-false-clause-checks
returns-in-Ok-false-clause-checks g c = λ file told.
    let measured = c.in-Ok.ensures in
    let is = c.in-Ok-false.ensures.tells file (measured.bytes ∙ told) (sym (measured.tells file told)) in
    flaw_1 (λ v1. both_ways c.in-Ok-false.field-0 c.in-Ok-false.field-0-test (is.1 v1))

pub returns-in-Ok-false-clause-cause : goal.returns-in-Ok-false-clause-cause
returns-in-Ok-false-clause-cause g c = c.in-Ok-false.ensures.cause ∙ c.in-Ok.ensures.cause.still

pub returns-then-len-lt16-clause-checks : goal.returns-then-len-lt16-clause-checks
returns-then-len-lt16-clause-checks g c = λ file told. subst (λ (n : ℕ). Flaw file rules.V2 n) (sym c.saturating_sub-offset.ensures) (too_short file c.in-Ok.len (c.in-Ok.ensures.tells file told) c.if-len-lt16.true)

pub returns-then-len-lt16-clause-cause : goal.returns-then-len-lt16-clause-cause
returns-then-len-lt16-clause-cause g c = c.in-Ok-true.ensures.cause ∙ c.in-Ok.ensures.cause.still

pub returns-in-Ok-true-ends_with_magic-clause-cause : goal.returns-in-Ok-true-ends_with_magic-clause-cause
returns-in-Ok-true-ends_with_magic-clause-cause g c =
    subst (λ (n : ℕ). CheckCause n (g.T.Store.state c.check_records.new.store).faults c.check_records.result) (c.in-Ok-true-ends_with_magic.ensures.cause ∙ c.in-Ok-true.ensures.cause ∙ c.in-Ok.ensures.cause.still) c.check_records.ensures.cause

pub returns-in-Ok-true-ends_with_magic-clause-asks : goal.returns-in-Ok-true-ends_with_magic-clause-asks
returns-in-Ok-true-ends_with_magic-clause-asks g c = λ file told.
    let measured = c.in-Ok.ensures in
    let first = c.in-Ok-true.ensures in
    let last = c.in-Ok-true-ends_with_magic.ensures in
    let size = measured.tells file told in
    let front = c.check_records.ensures.asks file (last.keeps.bytes ∙ first.keeps.bytes ∙ measured.bytes ∙ told) (omega (arith, size)) in
    omega (arith, front, last.asks, first.asks, measured.asked, size, c.if-len-lt16.false)

pub returns-in-Ok-true-ends_with_magic-clause-leaves : goal.returns-in-Ok-true-ends_with_magic-clause-leaves
returns-in-Ok-true-ends_with_magic-clause-leaves g c = record {
  bytes = c.check_records.ensures.keeps.bytes ∙ c.in-Ok-true-ends_with_magic.ensures.keeps.bytes ∙ c.in-Ok-true.ensures.keeps.bytes ∙ c.in-Ok.ensures.bytes;
  known = omega (arith, c.check_records.ensures.keeps.known, c.in-Ok-true-ends_with_magic.ensures.keeps.known, c.in-Ok-true.ensures.keeps.known, c.in-Ok.ensures.known);
}

pub returns-in-Ok-false-ends_with_magic-clause-checks : goal.returns-in-Ok-false-ends_with_magic-clause-checks
returns-in-Ok-false-ends_with_magic-clause-checks g c = λ file told.
    let measured = c.in-Ok.ensures in
    let first = c.in-Ok-true.ensures in
    let last = c.in-Ok-false-ends_with_magic.ensures in
    let size = measured.tells file told in
    let is = last.tells file (first.keeps.bytes ∙ measured.bytes ∙ told) (sym size) in
    c.check_unended.ensures.tells file (last.keeps.bytes ∙ first.keeps.bytes ∙ measured.bytes ∙ told)
    (record { size = sym size; none = λ ends. both_ways c.in-Ok-false-ends_with_magic.field-0 c.in-Ok-false-ends_with_magic.field-0-test (is.1 ends) })

pub returns-in-Ok-false-ends_with_magic-clause-cause : goal.returns-in-Ok-false-ends_with_magic-clause-cause
returns-in-Ok-false-ends_with_magic-clause-cause g c =
    subst (λ (n : ℕ). CheckCause n (g.T.Store.state c.check_unended.new.store).faults c.check_unended.result) (c.in-Ok-false-ends_with_magic.ensures.cause ∙ c.in-Ok-true.ensures.cause ∙ c.in-Ok.ensures.cause.still) c.check_unended.ensures.cause

pub returns-in-Ok-false-ends_with_magic-clause-asks : goal.returns-in-Ok-false-ends_with_magic-clause-asks
returns-in-Ok-false-ends_with_magic-clause-asks g c = λ file told.
    let measured = c.in-Ok.ensures in
    let first = c.in-Ok-true.ensures in
    let last = c.in-Ok-false-ends_with_magic.ensures in
    let size = measured.tells file told in
    let front = c.check_unended.ensures.asks file (last.keeps.bytes ∙ first.keeps.bytes ∙ measured.bytes ∙ told) (omega (arith, size)) in
    omega (arith, front, last.asks, first.asks, measured.asked, size)

pub returns-in-Ok-false-ends_with_magic-clause-leaves : goal.returns-in-Ok-false-ends_with_magic-clause-leaves
returns-in-Ok-false-ends_with_magic-clause-leaves g c = record {
  bytes = c.check_unended.ensures.keeps.bytes ∙ c.in-Ok-false-ends_with_magic.ensures.keeps.bytes ∙ c.in-Ok-true.ensures.keeps.bytes ∙ c.in-Ok.ensures.bytes;
  known = omega (arith, c.check_unended.ensures.keeps.known, c.in-Ok-false-ends_with_magic.ensures.keeps.known, c.in-Ok-true.ensures.keeps.known, c.in-Ok.ensures.known);
}

-- ---- files without one of the magics

pub returns-in-Ok-true-ends_with_magic-clause-begun : goal.returns-in-Ok-true-ends_with_magic-clause-begun
returns-in-Ok-true-ends_with_magic-clause-begun g c = λ file told unbegun.
    let measured = c.in-Ok.ensures in
    let is = c.in-Ok-true.ensures.tells file (measured.bytes ∙ told) (sym (measured.tells file told)) in
    absurd (unbegun (is.0 c.in-Ok-true.field-0-test))

pub returns-then-len-lt16-clause-begun : goal.returns-then-len-lt16-clause-begun
returns-then-len-lt16-clause-begun g c = λ file told unbegun.
    let measured = c.in-Ok.ensures in
    let is = c.in-Ok-true.ensures.tells file (measured.bytes ∙ told) (sym (measured.tells file told)) in
    absurd (unbegun (is.0 c.in-Ok-true.field-0-test))

pub returns-in-Ok-false-ends_with_magic-clause-begun : goal.returns-in-Ok-false-ends_with_magic-clause-begun
returns-in-Ok-false-ends_with_magic-clause-begun g c = λ file told unbegun.
    let measured = c.in-Ok.ensures in
    let is = c.in-Ok-true.ensures.tells file (measured.bytes ∙ told) (sym (measured.tells file told)) in
    absurd (unbegun (is.0 c.in-Ok-true.field-0-test))

pub returns-then-len-lt16-clause-cut : goal.returns-then-len-lt16-clause-cut
returns-then-len-lt16-clause-cut g c = λ file told v1 v2.
    subst (λ (n : ℕ). NamesCut file (Ok (verdicts.Flawed rules.V2 n))) (sym c.saturating_sub-offset.ensures) (short_told file c.in-Ok.len v1 (sym (c.in-Ok.ensures.tells file told)) c.if-len-lt16.true)

-- ---- want of memory

pub returns-in-Ok-true-ends_with_magic-clause-lacks : goal.returns-in-Ok-true-ends_with_magic-clause-lacks
returns-in-Ok-true-ends_with_magic-clause-lacks g c = λ is file told.
    let measured = c.in-Ok.ensures in
    let first = c.in-Ok-true.ensures in
    let last = c.in-Ok-true-ends_with_magic.ensures in
    let size = measured.tells file told in
    let ends = last.tells file (first.keeps.bytes ∙ measured.bytes ∙ told) (sym size) in
    let lacks = c.check_records.ensures.lacks is file (last.keeps.bytes ∙ first.keeps.bytes ∙ measured.bytes ∙ told) (omega (arith, size)) in (
      c.in-Ok.len - 8,
      inl (ends.0 c.in-Ok-true-ends_with_magic.field-0-test, omega (arith, size, c.if-len-lt16.false)),
      lack_later (c.in-Ok.len - 8) file ((g.T.Store.state c.args.store.now).asked + 16) (g.T.Store.state c.ends_with_magic.new.store).asked (g.T.Store.state c.check_records.new.store).asked (omega (arith, last.asks, first.asks, measured.asked)) lacks,
    )

pub returns-in-Ok-false-ends_with_magic-clause-lacks : goal.returns-in-Ok-false-ends_with_magic-clause-lacks
returns-in-Ok-false-ends_with_magic-clause-lacks g c = λ is file told.
    let measured = c.in-Ok.ensures in
    let first = c.in-Ok-true.ensures in
    let last = c.in-Ok-false-ends_with_magic.ensures in
    let size = measured.tells file told in
    let ends = last.tells file (first.keeps.bytes ∙ measured.bytes ∙ told) (sym size) in
    let lacks = c.check_unended.ensures.lacks is file (last.keeps.bytes ∙ first.keeps.bytes ∙ measured.bytes ∙ told) (omega (arith, size)) in (
      c.in-Ok.len,
      inr (λ magic. both_ways c.in-Ok-false-ends_with_magic.field-0 c.in-Ok-false-ends_with_magic.field-0-test (ends.1 magic), sym size),
      lack_later c.in-Ok.len file ((g.T.Store.state c.args.store.now).asked + 16) (g.T.Store.state c.ends_with_magic.new.store).asked (g.T.Store.state c.check_unended.new.store).asked (omega (arith, last.asks, first.asks, measured.asked)) lacks,
    )
