use Rattle.mcap_model.specs.Plain.{asked_topic}
use Rattle.mcap_scan.proofs.Scanning.{lacks_behind}
use Rattle.time_player.specs.Keeping.{kept_in}
use Rattle.time_player.proofs.Played.{plays_begin, plays_on, plays_end}
use Rattle.time_player.proofs.replaying.read_kept.Goals as goal

pub records-init : goal.records-init
records-init g c = (
  plays_begin c.args.range (asked_topic c.args.topic) c.in-Ok.flat (g.S.Source.state c.args.source.now) (kept_in c.new-kept.result) (c.in-Ok.ensures _) c.new-kept.ensures.none,
  g.S.Source.stays_so c.args.source.now,
)

pub keep_record-requires : goal.keep_record-requires
keep_record-requires g c =
    let was = c.records.invariant.0 in
    let step = c.in-Record.ensures.steps (g.S.Source.state c.args.source.now) was.tops was.given was.stands in
    step.v6

pub records-preserved : goal.records-preserved
records-preserved g c =
    let before = g.S.Source.state c.args.source.now in
    let was = c.records.invariant.0 in
    let step = c.in-Record.ensures.steps before was.tops was.given was.stands in (
      plays_on c.args.range (asked_topic c.args.topic) c.records.flat c.advance.new.self before (g.S.Source.state c.records.source) (g.S.Source.state c.advance.new.source)
          (kept_in c.records.kept) (kept_in c.keep_record.new.kept) c.in-Record.op c.in-Record.place was step c.in-Ok-keep_record.ensures,
      g.S.Source.stays_on c.args.source.now c.records.source c.advance.new.source c.records.invariant.1 c.in-Record.ensures.stays,
    )

pub returns-in-Err-keep_record-clause-reads : goal.returns-in-Err-keep_record-clause-reads
returns-in-Err-keep_record-clause-reads g c =
    let before = g.S.Source.state c.args.source.now in
    let was = c.records.invariant.0 in
    let step = c.in-Record.ensures.steps before was.tops was.given was.stands in
    let stands = step.stands in
    (step.tops, lacks_behind c.advance.new.self.reader before (g.S.Source.state c.advance.new.source) step.tops step.going stands.stands)

pub returns-in-End-clause-reads : goal.returns-in-End-clause-reads
returns-in-End-clause-reads g c =
    let before = g.S.Source.state c.args.source.now in
    let was = c.records.invariant.0 in
    let step = c.in-End.ensures.steps before was.tops was.given was.stands in
    plays_end c.args.range (asked_topic c.args.topic) c.records.flat c.advance.new.self before (g.S.Source.state c.records.source) (g.S.Source.state c.advance.new.source) c.into_tables.result (kept_in c.records.kept) _ was c.into_tables.ensures step
