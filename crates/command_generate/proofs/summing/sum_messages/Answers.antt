use Rattle.std.proofs.Common.{◌∷◌, [], List, ℕ, sym, subst}
use Rattle.mcap_model.specs.Made.{top}
use Rattle.mcap_model.specs.Rules.{V6}
use Rattle.mcap_scan.specs.Walking.{placed_at}
use Rattle.command_generate.specs.SumSteps.{AddsToSums}
use Rattle.command_generate.proofs.Summed.{sums_begin, sums_on, sums_end}
use Rattle.command_generate.proofs.summing.sum_messages.Goals as goal

pub records-init : goal.records-init
records-init g c = (
  sums_begin c.in-Ok.flat (g.S.Source.state c.args.source.now) c.none-sums.result (c.in-Ok.ensures _) c.none-sums.ensures,
  g.S.Source.stays_so c.args.source.now,
)

pub add_record-requires : goal.add_record-requires
add_record-requires g c =
    let was = c.records.invariant.0 in
    let step = c.in-Record.ensures.steps (g.S.Source.state c.args.source.now) was.tops was.given was.stands in
    subst (λ (l : List ℕ). V6 (top c.in-Record.op l)) (sym c.content.ensures) step.v6

pub records-preserved : goal.records-preserved
records-preserved g c =
    let before = g.S.Source.state c.args.source.now in
    let was = c.records.invariant.0 in
    let step = c.in-Record.ensures.steps before was.tops was.given was.stands in
    let place = c.in-Record.place in
    let adds = subst (λ (l : List ℕ). AddsToSums (placed_at place c.in-Record.op l ∷ []) c.records.sums c.add_record.new.sums) c.content.ensures (c.add_record.ensures place) in (
      sums_on c.records.flat c.advance.new.self before (g.S.Source.state c.records.source) (g.S.Source.state c.advance.new.source) c.records.sums c.add_record.new.sums c.in-Record.op place was step adds,
      g.S.Source.stays_on c.args.source.now c.records.source c.advance.new.source c.records.invariant.1 c.in-Record.ensures.stays,
    )

pub returns-in-End-clause-sums : goal.returns-in-End-clause-sums
returns-in-End-clause-sums g c =
    let before = g.S.Source.state c.args.source.now in
    let was = c.records.invariant.0 in
    let step = c.in-End.ensures.steps before was.tops was.given was.stands in
    sums_end c.records.flat c.advance.new.self before (g.S.Source.state c.records.source) (g.S.Source.state c.advance.new.source) c.records.sums _ was step
