use Rattle.std.proofs.Common.{ℕ, None, arith}
use Rattle.mcap_model.specs.Tops.{Top}
use Rattle.mcap_model.specs.Made.{top}
use Rattle.summary_read.specs.PartSteps.{cut_tops}
use Rattle.summary_read.specs.Steps.{Judged}
use Rattle.summary_check.proofs.Onward.{tops_within, onward}
use Rattle.summary_check.proofs.kinds.find_broken.Goals as goal

pub records-preserved : goal.records-preserved
records-preserved c =
    let record_there = c.record_at-record.result in
    onward (λ (k : ℕ) (t : Top). Judged t None) (cut_tops c.args.bytes.now c.args.cuts.now) c.records.i (top record_there.op record_there.content.now) c.records.invariant c.record_at-record.ensures c.in-None.ensures

pub returns : goal.returns
returns c = λ k t at.
    let within = tops_within c.args.bytes.now c.args.cuts.now k t at in
    c.records.invariant k t at (omega (arith, within, c.records-test.false))

pub returns-in-Some : goal.returns-in-Some
returns-in-Some c =
    let record_there = c.record_at-record.result in
    (top record_there.op record_there.content.now, c.record_at-record.ensures, c.in-Some.ensures)
