use Rattle.std.proofs.Common.{ℕ, false, refl, arith}
use Rattle.std.proofs.lemmas.Bool.{both_ways}
use Rattle.mcap_model.specs.Tops.{Top}
use Rattle.mcap_model.specs.Made.{top}
use Rattle.summary_read.specs.PartSteps.{cut_tops}
use Rattle.summary_check.specs.FullIndex.{EmptyRight}
use Rattle.summary_check.proofs.Onward.{tops_within, onward}
use Rattle.summary_check.proofs.indexing.are_right.Goals as goal

pub returns-then-not-is_right : goal.returns-then-not-is_right
returns-then-not-is_right c = λ all kept rules.
    let found = c.record_at-record.result in
    let t = top found.op found.content.now in
    let at = c.record_at-record.ensures in
    let rule = rules c.records.i t at in
    ((λ e. absurd (both_ways false refl e)), λ each. absurd (both_ways c.is_right.result c.if-not-is_right.true ((c.is_right.ensures all rule.0 kept rule.1).1 (each c.records.i t at))))

pub records-preserved : goal.records-preserved
records-preserved c = λ all kept rules.
    let found = c.record_at-record.result in
    let t = top found.op found.content.now in
    let at = c.record_at-record.ensures in
    let rule = rules c.records.i t at in
    onward (λ (k : ℕ) (u : Top). EmptyRight all u) (cut_tops c.args.bytes.now c.args.cuts.now) c.records.i t (c.records.invariant all kept rules) at ((c.is_right.ensures all rule.0 kept rule.1).0 c.if-not-is_right.false)

pub returns : goal.returns
returns c = λ all kept rules. (
  (λ e k t at. let within = tops_within c.args.bytes.now c.args.cuts.now k t at in c.records.invariant all kept rules k t at (omega (arith, within, c.records-test.false))),
  λ each. refl,
)
