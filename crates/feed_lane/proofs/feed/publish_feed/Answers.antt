use Rattle.std.proofs.Common.{◌∷◌, ◌++◌, [], ℕ, List, length, sym, ap, subst, ◌∙◌, arith, refl}
use Rattle.mcap_model.specs.Tops.{Placed, flat}
use Rattle.mcap_model.specs.Rules.{V6}
use Rattle.mcap_model.specs.Made.{top}
use Rattle.mcap_model.specs.Scan.{tops_of}
use Rattle.mcap_scan.proofs.Scanning.{good_stand, lacks_behind}
use Rattle.mcap_scan.proofs.Refused.{refusal_stands}
use Rattle.mcap_scan.specs.Walking.{FlatStands, placed_at, ahead_of}
use Rattle.feed_lane.specs.PassCalls.{no_calls}
use Rattle.feed_lane.specs.Lanes.{messages}
use Rattle.feed_lane.specs.Steps.{AreKnown, CountsUp, passed_among}
use Rattle.feed_lane.specs.Feeds.{Reports}
use Rattle.feed_lane.proofs.Walking.{waits_next, given_passed}
use Rattle.feed_lane.proofs.Keeping.{keeps_listed, unknown}
use Rattle.feed_lane.proofs.Feeding.{feeds_none, ready, known, read_last, among_last, fed, report_of, reports_over, reports_done, reports_refused, reports_nothing}
use Rattle.feed_lane.proofs.feed.publish_feed.Goals as goal

pub returns-in-Err-clause-reports : goal.returns-in-Err-clause-reports
returns-in-Err-clause-reports g c = λ limit since. (
  no_calls limit,
  since,
  refl,
  reports_nothing (g.S.Source.state c.args.source.now) (no_calls limit) c.nothing.result refl c.nothing.ensures.end c.nothing.ensures.passed (c.nothing.ensures.fits limit),
)

pub returns-in-Err-new-clause-reports : goal.returns-in-Err-new-clause-reports
returns-in-Err-new-clause-reports g c = λ limit since. (
  no_calls limit,
  since,
  refl,
  reports_nothing (g.S.Source.state c.args.source.now) (no_calls limit) c.nothing-in-Err-new.result refl c.nothing-in-Err-new.ensures.end c.nothing-in-Err-new.ensures.passed (c.nothing-in-Err-new.ensures.fits limit),
)

pub records-init : goal.records-init
records-init g c =
    (([], [], c.in-Ok.ensures _, λ limit since. (no_calls limit, since, refl, feeds_none c.in-Ok-new.lane (no_calls limit) (c.in-Ok-new.ensures.stands limit) c.in-Ok-new.ensures.passed)), g.S.Source.stays_so _, c.in-Ok-new.ensures.kept, unknown (g.P.Pass.knows c.args.pass.now) _ c.in-Ok-new.ensures.schema)

pub take-requires-clause-v6 : goal.take-requires-clause-v6
take-requires-clause-v6 g c =
    let i = c.records.invariant in
    let s = c.in-Record.ensures.steps (g.S.Source.state c.args.source.now) i.0.0 i.0.1 i.0.2 in
    subst (λ (content : List ℕ). V6 (top c.in-Record.op content)) (sym c.content.ensures) s.v6

pub records-preserved : goal.records-preserved
records-preserved g c =
    let i = c.records.invariant in
    let before = g.S.Source.state c.args.source.now in
    let now = g.S.Source.state c.advance.new.source in
    let flat_now = c.advance.new.self in
    let lane = c.records.lane in
    let was = i.0.0 in
    let given = i.0.1 in
    let s = c.in-Record.ensures.steps before was given i.0.2 in
    let tops = s.tops in
    let ahead = ahead_of flat_now in
    let p : Placed = placed_at c.in-Record.place c.in-Record.op c.content.result.now in
    let here : FlatStands flat_now before now tops (given ++ p ∷ []) = subst (λ (content : List ℕ). FlatStands flat_now before now tops (given ++ placed_at c.in-Record.place c.in-Record.op content ∷ [])) (sym c.content.ensures) s.stands in
    let known_now = subst (AreKnown (flat tops)) (sym c.tables.ensures) (known flat_now.reader before now tops s.going here.stands) in
    let good = good_stand flat_now.reader before now tops s.going here.stands in
    let waits = waits_next tops given p ahead here.all in (
      (
        tops,
        given ++ p ∷ [],
        here,
        λ limit since.
            let w = i.0.3 limit since in
            let one = c.in-Ok-take.ensures.taken _ w.0 w.1 in
            let taken = one.3 (flat tops) (tops_of ahead) (length (messages (tops_of given))) (ready lane w.0 was tops s.more given s.grown w.3) known_now waits in
            let counts = subst (λ (n : ℕ). CountsUp n c.take.new.self.passed (passed_among (p.top ∷ []))) w.3.passed_are c.in-Ok-take.ensures.passed.2 in
            (one.0, one.1, one.2 ∙ w.2, fed c.take.new.self one.0 tops given p ahead good s.last here.all taken counts),
      ),
      g.S.Source.stays_on _ _ _ i.1 c.in-Record.ensures.stays,
      keeps_listed lane c.take.new.self c.args.listed i.2 c.in-Ok-take.ensures.kept,
      c.in-Ok-take.ensures.knows,
    )

pub returns-in-Err-take-clause-reports : goal.returns-in-Err-take-clause-reports
returns-in-Err-take-clause-reports g c = λ limit since.
    let i = c.records.invariant in
    let before = g.S.Source.state c.args.source.now in
    let now = g.S.Source.state c.advance.new.source in
    let flat_now = c.advance.new.self in
    let lane = c.records.lane in
    let was = i.0.0 in
    let given = i.0.1 in
    let s = c.in-Record.ensures.steps before was given i.0.2 in
    let tops = s.tops in
    let ahead = ahead_of flat_now in
    let p : Placed = placed_at c.in-Record.place c.in-Record.op c.content.result.now in
    let here : FlatStands flat_now before now tops (given ++ p ∷ []) = subst (λ (content : List ℕ). FlatStands flat_now before now tops (given ++ placed_at c.in-Record.place c.in-Record.op content ∷ [])) (sym c.content.ensures) s.stands in
    let known_now = subst (AreKnown (flat tops)) (sym c.tables.ensures) (known flat_now.reader before now tops s.going here.stands) in
    let good = good_stand flat_now.reader before now tops s.going here.stands in
    let waits = waits_next tops given p ahead here.all in
    let counted = c.in-Err-take.ensures.passed in
    let size = given_passed tops (given ++ p ∷ []) ahead good here.all in
    let w = i.0.3 limit since in
    let one = c.in-Err-take.ensures.taken _ w.0 w.1 in
    let taken = one.3 (flat tops) (tops_of ahead) (length (messages (tops_of given))) (ready lane w.0 was tops s.more given s.grown w.3) known_now waits in (
      one.0,
      one.1,
      one.2 ∙ w.2,
      subst (Reports before now one.0) (sym (c.report.ensures ∙ ap (λ (e : _). report_of c.take.new.self e) c.over_end.ensures))
          (reports_over c.take.new.self one.0 before now tops given (tops_of ahead) c.in-Err-take.over good s.last taken
          (omega (arith, counted.0, w.3.passed_are), omega (arith, counted.1, w.3.passed_are, size, among_last given p))
          (lacks_behind flat_now.reader before now tops s.going here.stands) (read_last flat_now.reader before now tops given s.last s.going here.stands)),
    )

pub returns-in-End-clause-reports : goal.returns-in-End-clause-reports
returns-in-End-clause-reports g c = λ limit since.
    let i = c.records.invariant in
    let before = g.S.Source.state c.args.source.now in
    let now = g.S.Source.state c.advance.new.source in
    let lane = c.records.lane in
    let s = c.in-End.ensures.steps before i.0.0 i.0.1 i.0.2 in
    let w = i.0.3 limit since in
    (w.0, w.1, w.2, subst (Reports before now w.0) (sym c.report-in-End.ensures) (reports_done lane w.0 before now i.0.0 i.0.1 c.advance.new.self.reader c.in-End.offset w.3 s.tops s.same s.whole s.finds))

pub returns-in-Some-clause-reports : goal.returns-in-Some-clause-reports
returns-in-Some-clause-reports g c = λ limit since.
    let i = c.records.invariant in
    let before = g.S.Source.state c.args.source.now in
    let now = g.S.Source.state c.advance.new.source in
    let lane = c.records.lane in
    let why = c.in-Some.why in
    let s = c.in-Refused.ensures.steps before i.0.0 i.0.1 i.0.2 in
    let w = i.0.3 limit since in
    (w.0, w.1, w.2, subst (Reports before now w.0) (sym c.report-in-Some.ensures) (reports_refused lane w.0 before now i.0.0 i.0.1 why w.3 s.tops s.same s.whole (refusal_stands c.advance.new.self.reader before now s.tops why s.refuses c.in-Some.ensures)))

pub returns-in-Err-take-clause-stays : goal.returns-in-Err-take-clause-stays
returns-in-Err-take-clause-stays g c = g.S.Source.stays_on _ _ _ c.records.invariant.1 c.in-Record.ensures.stays

pub returns-in-End-clause-stays : goal.returns-in-End-clause-stays
returns-in-End-clause-stays g c = g.S.Source.stays_on _ _ _ c.records.invariant.1 c.in-End.ensures.stays

pub returns-in-Some-clause-stays : goal.returns-in-Some-clause-stays
returns-in-Some-clause-stays g c = g.S.Source.stays_on _ _ _ c.records.invariant.1 c.in-Refused.ensures.stays
