use Rattle.std.proofs.Common.{◌++◌, ◌∷◌, [], refl, arith}
use Rattle.mcap_model.specs.Made.{top}
use Rattle.mcap_scan.specs.Scanning.{content_of}
use Rattle.mcap_scan.proofs.Scanning.{lacks_behind}
use Rattle.merge_walk.proofs.Surveyed.{noted_begin, noted_on, noted_at_end}
use Rattle.merge_walk.proofs.surveying.survey_source.Goals as goal

pub records-init : goal.records-init
records-init g c = (
  noted_begin c.in-Ok.reader (g.S.Source.state c.args.source.now) c.new-spans.result.items (c.in-Ok.ensures.stands _) c.new-spans.ensures.items,
  omega (arith, c.in-Ok.ensures.begins),
  g.S.Source.stays_so c.args.source.now,
)

pub records-preserved : goal.records-preserved
records-preserved g c =
    let before = g.S.Source.state c.args.source.now in
    let was = c.records.invariant.0 in
    let step = c.in-Record.ensures.steps before was.tops was.stands in (
      noted_on c.records.reader c.advance.new.self before (g.S.Source.state c.records.source) (g.S.Source.state c.advance.new.source) c.records.spans.items c.note_spans.new.spans.items c.in-Record.op c.in-Record.offset c.content.result.now was step c.content.ensures c.in-Ok-note_spans.ensures.spans,
      c.in-Record.ensures.moves.1,
      g.S.Source.stays_on c.args.source.now c.records.source c.advance.new.source c.records.invariant.2 c.in-Record.ensures.stays,
    )

pub returns-in-Err-note_spans-clause-surveys : goal.returns-in-Err-note_spans-clause-surveys
returns-in-Err-note_spans-clause-surveys g c =
    let before = g.S.Source.state c.args.source.now in
    let was = c.records.invariant.0 in
    let step = c.in-Record.ensures.steps before was.tops was.stands in
    let tops = was.tops ++ top c.in-Record.op (content_of c.advance.new.self) ∷ [] in
    (tops, lacks_behind c.advance.new.self before (g.S.Source.state c.advance.new.source) tops step.going step.stands)

pub returns-in-End-clause-surveys : goal.returns-in-End-clause-surveys
returns-in-End-clause-surveys g c =
    let before = g.S.Source.state c.args.source.now in
    let now = g.S.Source.state c.advance.new.source in
    let was = c.records.invariant.0 in
    let step = c.in-End.ensures.steps before was.tops was.stands in
    noted_at_end c.records.reader c.advance.new.self before (g.S.Source.state c.records.source) now c.records.spans.items _ c.into_tables.result c.in-End.offset was step c.into_tables.ensures refl refl
