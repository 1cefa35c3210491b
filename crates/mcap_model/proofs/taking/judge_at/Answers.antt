use Rattle.mcap_model.specs.Tops.{flat}
use Rattle.mcap_model.specs.Rules.{HasDataEnd}
use Rattle.mcap_model.specs.Declarations.{TablesOf}
use Rattle.mcap_model.specs.Made.{top}
use Rattle.mcap_model.specs.Judging.{JudgedAs}
use Rattle.mcap_model.proofs.TakenRecords.{first_judged, later_judged}
use Rattle.mcap_model.proofs.taking.judge_at.Goals as goal

pub returns-then-at-eq-FIRST_OFFSET : goal.returns-then-at-eq-FIRST_OFFSET
returns-then-at-eq-FIRST_OFFSET c = λ tops unended place are.
    first_judged tops c.args.at c.args.op c.args.content.now c.args.tables.now c.judge_first.result c.if-at-eq-FIRST_OFFSET.true place c.judge_first.ensures are

pub returns : goal.returns
returns c = λ tops unended place are.
    later_judged (λ l. (HasDataEnd l → ⊥) → TablesOf (flat l) c.args.tables.now → JudgedAs l (top c.args.op c.args.content.now) c.judge.new.tables c.judge.result) tops c.args.at c.if-at-eq-FIRST_OFFSET.false place (λ first more. c.judge.ensures first more) unended are
