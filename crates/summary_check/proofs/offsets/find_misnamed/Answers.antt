use Rattle.std.proofs.Common.{◌≡◌, ◌+◌, ℕ, suc, length, sym, subst, arith}
use Rattle.mcap_model.specs.Tops.{Top}
use Rattle.mcap_model.specs.Made.{top}
use Rattle.mcap_model.specs.Whole.{V15}
use Rattle.summary_read.specs.PartSteps.{cut_tops}
use Rattle.summary_check.specs.Laid.{all_of}
use Rattle.summary_check.specs.Offsets.{AreNamedOpcodes, OffsetTaken}
use Rattle.summary_check.proofs.Laying.{body_there}
use Rattle.summary_check.proofs.Naming.{none_yet}
use Rattle.summary_check.proofs.Onward.{tops_within, onward}
use Rattle.summary_check.proofs.offsets.find_misnamed.Goals as goal

pub records-init : goal.records-init
records-init c = λ tops foot laid. (
  subst (AreNamedOpcodes (all_of tops (cut_tops c.args.bytes.now c.args.cuts.now) foot) (length tops + 0)) (sym c.new-names.ensures) (none_yet tops (cut_tops c.args.bytes.now c.args.cuts.now) foot laid.kinds),
  λ k t at less. absurd (omega (arith, less)),
)

pub returns-in-Ok-false : goal.returns-in-Ok-false
returns-in-Ok-false c = λ tops foot laid.
    let body = cut_tops c.args.bytes.now c.args.cuts.now in
    let i = c.records.i in
    let found = c.record_at-record.result in
    let t = top found.op found.content.now in
    let at = c.record_at-record.ensures in
    let w = c.records.invariant tops foot laid in
    (t, at, subst (OffsetTaken (all_of tops body foot) (length tops + i) t c.take_offset.new.names) c.in-Ok-false.field-0-test (c.in-Ok-false.ensures tops c.args.bytes.now foot (length tops + i) laid w.0 (body_there tops body foot i t at)))

pub records-preserved : goal.records-preserved
records-preserved c = λ tops foot laid.
    let body = cut_tops c.args.bytes.now c.args.cuts.now in
    let all = all_of tops body foot in
    let i = c.records.i in
    let found = c.record_at-record.result in
    let t = top found.op found.content.now in
    let at = c.record_at-record.ensures in
    let w = c.records.invariant tops foot laid in
    let new = c.take_offset.new.names in
    let taken = subst (OffsetTaken all (length tops + i) t new) c.in-Ok-true.field-0-test (c.in-Ok-true.ensures tops c.args.bytes.now foot (length tops + i) laid w.0 (body_there tops body foot i t at)) in
    let next : suc (length tops + i) ≡ length tops + (i + 1) = omega arith in (
      subst (λ (n : ℕ). AreNamedOpcodes all n new) next taken.1,
      onward (λ (k : ℕ) (u : Top). V15 all (length tops + k) u) body i t w.1 at taken.0,
    )

pub returns : goal.returns
returns c = λ tops foot laid k t at.
    let w = c.records.invariant tops foot laid in
    let within = tops_within c.args.bytes.now c.args.cuts.now k t at in
    w.1 k t at (omega (arith, within, c.records-test.false))
