use Rattle.std.proofs.Common.{◌+◌, ℕ, arith}
use Rattle.std.proofs.lemmas.Bool.{both_ways}
use Rattle.mcap_model.specs.Tops.{Top}
use Rattle.mcap_model.specs.Made.{top}
use Rattle.mcap_model.specs.Whole.{V14}
use Rattle.summary_read.specs.PartSteps.{cut_tops}
use Rattle.summary_check.proofs.Onward.{tops_within, onward}
use Rattle.summary_check.proofs.statistics.find_miscounted.Goals as goal

pub returns-then-not-counts_right : goal.returns-then-not-counts_right
returns-then-not-counts_right c = λ all section base was.
    let found = c.record_at-record.result in (
      top found.op found.content.now,
      c.record_at-record.ensures,
      λ right. both_ways c.counts_right.result c.if-not-counts_right.true ((c.counts_right.ensures all section (base + c.records.i) was).1 right),
    )

pub records-preserved : goal.records-preserved
records-preserved c = λ all section base was.
    let found = c.record_at-record.result in
    onward (λ (k : ℕ) (t : Top). V14 all (base + k) t) (cut_tops c.args.bytes.now c.args.cuts.now) c.records.i (top found.op found.content.now) (c.records.invariant all section base was) c.record_at-record.ensures
    ((c.counts_right.ensures all section (base + c.records.i) was).0 c.if-not-counts_right.false)

pub returns : goal.returns
returns c = λ all section base was k t at.
    let within = tops_within c.args.bytes.now c.args.cuts.now k t at in
    c.records.invariant all section base was k t at (omega (arith, within, c.records-test.false))
