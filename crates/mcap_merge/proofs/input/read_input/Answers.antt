use Rattle.std.proofs.Common.{◌++◌, ◌∷◌, [], arith}
use Rattle.mcap_model.specs.Made.{top}
use Rattle.mcap_scan.specs.Scanning.{content_of}
use Rattle.mcap_scan.proofs.Scanning.{lacks_behind}
use Rattle.mcap_merge.proofs.Held.{holds_begin, holds_on, held_at_end, marks_sized}
use Rattle.mcap_merge.proofs.input.read_input.Goals as goal

pub records-init : goal.records-init
records-init g c = (
  holds_begin c.in-Ok.reader (g.S.Source.state c.args.source.now) c.in-Ok-hold_nothing.held (c.in-Ok.ensures.stands _) c.in-Ok-hold_nothing.ensures,
  omega (arith, c.in-Ok.ensures.begins),
  g.S.Source.stays_so c.args.source.now,
)

pub hold-requires : goal.hold-requires
hold-requires g c =
    let was = c.records.invariant.0 in
    marks_sized was.tops c.records.held.used.items was.used_are

pub records-preserved : goal.records-preserved
records-preserved g c =
    let before = g.S.Source.state c.args.source.now in
    let was = c.records.invariant.0 in
    let step = c.in-Record.ensures.steps before was.tops was.stands in (
      holds_on c.records.reader c.advance.new.self before (g.S.Source.state c.records.source) (g.S.Source.state c.advance.new.source) c.records.held c.hold.new.held c.in-Record.op c.in-Record.offset was step c.in-Ok-hold.ensures.holds,
      c.in-Record.ensures.moves.1,
      g.S.Source.stays_on c.args.source.now c.records.source c.advance.new.source c.records.invariant.2 c.in-Record.ensures.stays,
    )

pub returns-in-Err-hold-clause-reads : goal.returns-in-Err-hold-clause-reads
returns-in-Err-hold-clause-reads g c =
    let before = g.S.Source.state c.args.source.now in
    let was = c.records.invariant.0 in
    let step = c.in-Record.ensures.steps before was.tops was.stands in
    let tops = was.tops ++ top c.in-Record.op (content_of c.advance.new.self) ∷ [] in
    (tops, lacks_behind c.advance.new.self before (g.S.Source.state c.advance.new.source) tops step.going step.stands)

pub returns-in-End-clause-reads : goal.returns-in-End-clause-reads
returns-in-End-clause-reads g c =
    let before = g.S.Source.state c.args.source.now in
    let now = g.S.Source.state c.advance.new.source in
    let was = c.records.invariant.0 in
    let step = c.in-End.ensures.steps before was.tops was.stands in
    let held = held_at_end c.records.reader c.advance.new.self before (g.S.Source.state c.records.source) now c.records.held c.input_of.result c.in-End.offset was step c.input_of.ensures in
    (record { tops = was.tops; messages = held.0 }, _, step.halts, held.1)
