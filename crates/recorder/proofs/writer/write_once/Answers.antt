use Rattle.std.proofs.Common.{◌≡◌, length, refl, sym, ap, subst, ◌∙◌}
use Rattle.mcap_model.specs.declared.ends.Stop.{Stop}
use Rattle.chunk_writer.specs.declared.phase.Phase.TheVariants as phases
use Rattle.feed_lane.specs.Pass.{PassState}
use Rattle.buffer_swap.specs.Posts.{Post}
use Rattle.mcap_model.specs.History.{Numbered}
use Rattle.chunk_writer.specs.Tapes.{HasTaken}
use Rattle.recorder.specs.Writing.{StopsWith, seen_tape}
use Rattle.recorder.proofs.Draining.{if_some, stopped_taken, stopped_with, may_later, stops_later, writes_none, writes_one, may_take, has_more, halts_later, halts_going, halts_stopped}
use Rattle.recorder.proofs.writer.write_once.Goals as goal

pub returns-in-Err-clause-writes : goal.returns-in-Err-clause-writes
returns-in-Err-clause-writes g c =
    let members = g.T.Tape in
    let same = c.in-Err.ensures.swapped.6 in
    writes_none (seen_tape members.grows members.ends members.limit_met members.phase members.numbers members.failures) members.grows_none c.args.tape.now c.args.drain.now.seat.me.0.post.taken _
    (ap (λ (p : Post). p.taken) same) c.requires.may (λ stop is. c.requires.stops stop (ap (λ (p : Post). p.stop) (sym same) ∙ is))

pub returns-in-Err-clause-over : goal.returns-in-Err-clause-over
returns-in-Err-clause-over g c =
    let (found, so, cache, count, at, end, same, stood) = c.in-Err.ensures.swapped in
    if_some c.over_at-over.result _ _ c.over_at-over.ensures (λ n ended. (
      ended.0 ∙ at ∙ ap (λ (p : Post). length p.taken) (sym same),
      ended.1,
      record {
        found = found;
        shown = ap (λ (p : PassState). p.found) so.1;
        ended = sym end ∙ ended.2;
        count = count ∙ ap (λ (p : Post). length p.taken) (sym same);
      },
    ))

pub returns-in-Ok-end-clause-writes : goal.returns-in-Ok-end-clause-writes
returns-in-Ok-end-clause-writes g c =
    let members = g.T.Tape in
    let now = c.in-Ok.ensures.swapped.4 in
    let take = c.take-taken.ensures in
    let kept : (stop : Stop) → members.phase c.args.tape.now ≡ phases.Stopped stop → c.take-taken.new.self ≡ c.args.tape.now = λ stop stopped. (take.kept stop stopped).2 in
    let stops : StopsWith c.swap.new.self.seat.me.0.post.stop (members.phase c.args.tape.now) = λ stop is. c.requires.stops stop (ap (λ (p : Post). p.stop) (sym now) ∙ is) in
    writes_one (seen_tape members.grows members.ends members.limit_met members.phase members.numbers members.failures) c.args.tape.now c.take-taken.new.self c.args.drain.now.seat.me.0.post.taken c.in-Ok.full.records c.take-taken.result.entries.items _
    (ap (λ (p : Post). p.taken) now) take.grows c.held-held.ensures.kept c.requires.may
    (λ going. let on = rw c.in-Ok-end.is at take.goes_on in rw on.1 (rw c.in-Ok-end.is at (take.cause going)))
    kept (stops_later members.phase members.failures members.limit_met c.args.tape.now c.take-taken.new.self _ stops kept)

pub stop-requires : goal.stop-requires
stop-requires g c =
    let stopped = rw c.in-Err-end.is at c.take-taken.ensures.stopped in
    let may = may_later g.T.Tape.phase g.T.Tape.failures g.T.Tape.limit_met c.args.tape.now c.take-taken.new.self (g.T.Tape.phase c.args.tape.now) refl c.requires.may (λ going. rw stopped (rw c.in-Err-end.is at (c.take-taken.ensures.cause going)))
    (λ stop was. (c.take-taken.ensures.kept stop was).2) in
    may.cause c.in-Err-end.stop stopped

pub returns-in-Err-end-clause-writes : goal.returns-in-Err-end-clause-writes
returns-in-Err-end-clause-writes g c =
    let members = g.T.Tape in
    let now = c.in-Ok.ensures.swapped.4 in
    let take = c.take-taken.ensures in
    let kept : (stop : Stop) → members.phase c.args.tape.now ≡ phases.Stopped stop → c.take-taken.new.self ≡ c.args.tape.now = λ stop stopped. (take.kept stop stopped).2 in
    let stops : StopsWith c.swap.new.self.seat.me.0.post.stop (members.phase c.args.tape.now) = λ stop is. c.requires.stops stop (ap (λ (p : Post). p.stop) (sym now) ∙ is) in
    let stopped = rw c.in-Err-end.is at take.stopped in
    let by = c.stop.ensures.stopped in
    let post = c.swap.new.self.seat.me.0.post in
    writes_one (seen_tape members.grows members.ends members.limit_met members.phase members.numbers members.failures) c.args.tape.now c.take-taken.new.self c.args.drain.now.seat.me.0.post.taken c.in-Ok.full.records c.take-taken.result.entries.items _
    (ap (λ (p : Post). p.taken) by.stopped ∙ stopped_taken by.found.end c.in-Err-end.stop post ∙ ap (λ (p : Post). p.taken) now) take.grows c.held-held.ensures.kept c.requires.may
    (λ going. rw stopped (rw c.in-Err-end.is at (take.cause going)))
    kept
    (λ stop is. stopped_with by.found.end c.in-Err-end.stop post (members.phase c.take-taken.new.self)
    (stops_later members.phase members.failures members.limit_met c.args.tape.now c.take-taken.new.self post.stop stops kept) stopped stop (ap (λ (p : Post). p.stop) (sym by.stopped) ∙ is))

pub returns-in-Err-clause-halts : goal.returns-in-Err-clause-halts
returns-in-Err-clause-halts g c =
    let (found, so, cache, count, at, end, same, stood) = c.in-Err.ensures.swapped in
    halts_later _ _ _ _ (g.T.Tape.phase c.args.tape.now) found so.0 so.1 same c.requires.halts

pub returns-in-Ok-end-clause-halts : goal.returns-in-Ok-end-clause-halts
returns-in-Ok-end-clause-halts g c = halts_going c.swap.new.self.seat.me.0.pass c.swap.new.self.seat.me.0.post (g.T.Tape.phase c.take-taken.new.self) (rw c.in-Ok-end.is at c.take-taken.ensures.goes_on).1

pub returns-in-Err-end-clause-halts : goal.returns-in-Err-end-clause-halts
returns-in-Err-end-clause-halts g c =
    let by = c.stop.ensures.stopped in
    halts_stopped c.swap.new.self.seat.me.0.pass c.stop.new.self.seat.me.0.pass c.swap.new.self.seat.me.0.post c.stop.new.self.seat.me.0.post (g.T.Tape.phase c.take-taken.new.self) by.found c.in-Err-end.stop by.found.end refl by.finds.1 by.stopped (rw c.in-Err-end.is at c.take-taken.ensures.stopped)

pub take-taken-requires-clause-behind : goal.take-taken-requires-clause-behind
take-taken-requires-clause-behind g c =
    let members = g.T.Tape in
    may_take members.is_new members.grows c.args.tape.now c.args.drain.now.seat.me.0.post.taken c.in-Ok.full.records c.swap.new.self.seat.me.0.post.taken c.requires.has
    (ap (λ (p : Post). p.taken) c.in-Ok.ensures.swapped.4) c.in-Ok.ensures.swapped.6 c.held-held.ensures.kept

pub returns-in-Err-clause-has : goal.returns-in-Err-clause-has
returns-in-Err-clause-has g c =
    let members = g.T.Tape in
    subst (HasTaken members.is_new members.grows c.args.tape.now) (ap (λ (p : Post). p.taken) (sym c.in-Err.ensures.swapped.6)) c.requires.has

pub returns-in-Ok-end-clause-has : goal.returns-in-Ok-end-clause-has
returns-in-Ok-end-clause-has g c =
    let members = g.T.Tape in
    let is = ap (λ (p : Post). p.taken) c.in-Ok.ensures.swapped.4 in
    has_more members.is_new members.grows members.grows_on c.args.tape.now c.take-taken.new.self c.args.drain.now.seat.me.0.post.taken c.in-Ok.full.records _ c.take-taken.result.entries.items
    c.requires.has c.take-taken.ensures.grows c.held-held.ensures.kept (subst Numbered is c.in-Ok.ensures.swapped.6) is

pub returns-in-Err-end-clause-has : goal.returns-in-Err-end-clause-has
returns-in-Err-end-clause-has g c =
    let members = g.T.Tape in
    let is = ap (λ (p : Post). p.taken) c.in-Ok.ensures.swapped.4 in
    let by = c.stop.ensures.stopped in
    has_more members.is_new members.grows members.grows_on c.args.tape.now c.take-taken.new.self c.args.drain.now.seat.me.0.post.taken c.in-Ok.full.records _ c.take-taken.result.entries.items
    c.requires.has c.take-taken.ensures.grows c.held-held.ensures.kept (subst Numbered is c.in-Ok.ensures.swapped.6)
    (ap (λ (p : Post). p.taken) by.stopped ∙ stopped_taken by.found.end c.in-Err-end.stop c.swap.new.self.seat.me.0.post ∙ is)
