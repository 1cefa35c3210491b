use Rattle.std.proofs.Common.{◌++◌, ◌∷◌, [], arith}
use Rattle.mcap_model.specs.Made.{top}
use Rattle.mcap_scan.specs.Scanning.{content_of}
use Rattle.mcap_scan.proofs.Scanning.{lacks_behind}
use Rattle.mcap_merge.proofs.Held.{held_at_end, marks_sized}
use Rattle.mcap_sort.proofs.Held.{held_of, gathers_begin, gathers_on}
use Rattle.mcap_sort.proofs.gathering.gather.Goals as goal

pub records-init : goal.records-init
records-init g c = (
  gathers_begin c.in-Ok.reader (g.S.Source.state c.args.source.now) c.in-Ok-hold_nothing.held c.new-declared.result (c.in-Ok.ensures.stands _) c.in-Ok-hold_nothing.ensures c.new-declared.ensures.schemas c.new-declared.ensures.channels,
  omega (arith, c.in-Ok.ensures.begins),
  g.S.Source.stays_so c.args.source.now,
)

pub hold_more-requires : goal.hold_more-requires
hold_more-requires g c =
    let was = c.records.invariant.0 in
    marks_sized was.tops c.records.held.used.items was.used_are

pub records-preserved : goal.records-preserved
records-preserved g c =
    let before = g.S.Source.state c.args.source.now in
    let was = c.records.invariant.0 in
    let step = c.in-Record.ensures.steps before was.tops was.stands in (
      gathers_on c.records.reader c.advance.new.self before (g.S.Source.state c.records.source) (g.S.Source.state c.advance.new.source) c.records.held c.hold_more.new.held c.records.declared c.hold_more.new.declared c.in-Record.op c.in-Record.offset was step
          c.in-Ok-hold_more.ensures.holds c.in-Ok-hold_more.ensures.notes,
      c.in-Record.ensures.moves.1,
      g.S.Source.stays_on c.args.source.now c.records.source c.advance.new.source c.records.invariant.2 c.in-Record.ensures.stays,
    )

pub returns-in-Err-hold_more-clause-reads : goal.returns-in-Err-hold_more-clause-reads
returns-in-Err-hold_more-clause-reads g c =
    let before = g.S.Source.state c.args.source.now in
    let was = c.records.invariant.0 in
    let step = c.in-Record.ensures.steps before was.tops was.stands in
    let tops = was.tops ++ top c.in-Record.op (content_of c.advance.new.self) ∷ [] in
    (tops, lacks_behind c.advance.new.self before (g.S.Source.state c.advance.new.source) tops step.going step.stands)

pub returns-in-End-clause-reads : goal.returns-in-End-clause-reads
returns-in-End-clause-reads g c =
    let before = g.S.Source.state c.args.source.now in
    let now = g.S.Source.state c.advance.new.source in
    let was = c.records.invariant.0 in
    let step = c.in-End.ensures.steps before was.tops was.stands in
    let held = held_at_end c.records.reader c.advance.new.self before (g.S.Source.state c.records.source) now c.records.held c.input_of-input.result c.in-End.offset (held_of was) step c.input_of-input.ensures in
    (record { tops = was.tops; messages = held.0 }, _, step.halts, record { holds = held.1; notes = was.noted })
