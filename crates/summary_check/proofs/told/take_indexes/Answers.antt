use Rattle.std.proofs.Common.{◌≡◌, ◌+◌, ℕ, suc, subst, arith}
use Rattle.mcap_model.specs.Tops.{Top}
use Rattle.mcap_model.specs.Made.{top}
use Rattle.mcap_model.specs.Whole.{V12, V13}
use Rattle.summary_read.specs.PartSteps.{cut_tops}
use Rattle.summary_check.specs.Told.{ToldOf}
use Rattle.summary_check.proofs.Onward.{tops_within, tops_end, onward}
use Rattle.summary_check.proofs.told.take_indexes.Goals as goal

pub records-preserved : goal.records-preserved
records-preserved c = λ all base stand was.
    let body = cut_tops c.args.bytes.now c.args.cuts.now in
    let i = c.records.i in
    let found = c.record_at-record.result in
    let t = top found.op found.content.now in
    let at = c.record_at-record.ensures in
    let w = c.records.invariant all base stand was in
    let taken = c.in-None.ensures all (base + i) w.0 (stand i t at) in
    let next : suc (base + i) ≡ base + (i + 1) = omega arith in (
      subst (λ (n : ℕ). ToldOf all n c.take_index.new.chunks c.take_index.new.attachments c.take_index.new.metadata) next taken.2,
      onward (λ (k : ℕ) (u : Top). V12 all (base + k) u × V13 all (base + k) u) body i t w.1 at (taken.0, taken.1),
    )

pub returns : goal.returns
returns c = λ all base stand was.
    let w = c.records.invariant all base stand was in
    let end = tops_end c.args.bytes.now c.args.cuts.now c.records.i (omega (arith, c.records-test.false)) (omega (arith, c.records.auto.i-end)) in (
      (λ k t at. let within = tops_within c.args.bytes.now c.args.cuts.now k t at in w.1 k t at (omega (arith, within, c.records-test.false))),
      subst (λ (n : ℕ). ToldOf all (base + n) c.records.chunks c.records.attachments c.records.metadata) end w.0,
    )
