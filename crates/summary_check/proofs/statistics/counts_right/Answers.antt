use Rattle.std.proofs.Common.{refl, subst, arith}
use Rattle.rec_index.specs.Parsed.{statistics_fields}
use Rattle.mcap_model.specs.Made.{top}
use Rattle.mcap_model.specs.Fields.{IsStatistics}
use Rattle.mcap_model.specs.Whole.{StatisticsAreRight}
use Rattle.mcap_model.proofs.Once.{statistics_once}
use Rattle.summary_check.proofs.statistics.counts_right.Goals as goal

pub returns-in-Ok : goal.returns-in-Ok
returns-in-Ok c = λ all section n was.
    let t = top c.args.op c.args.content.now in
    let f = statistics_fields c.in-Ok.statistics in
    let is : IsStatistics t f = record { kind = c.if-op-ne-STATISTICS.false; layout = c.in-Ok.ensures.shown } in
    let right = c.is_right.ensures all section was in (
      λ e g other. subst (StatisticsAreRight all) (statistics_once t f g is other) (right.0 e),
      λ v14. right.1 (v14 f is),
    )

pub returns-in-Err : goal.returns-in-Err
returns-in-Err c = λ all section n was. (λ e f is. absurd (c.in-Err.ensures.none f is.layout), λ v14. refl)

pub returns-then-op-ne-STATISTICS : goal.returns-then-op-ne-STATISTICS
returns-then-op-ne-STATISTICS c = λ all section n was. (λ e f is. absurd (omega (arith, is.kind, c.if-op-ne-STATISTICS.true)), λ v14. refl)
