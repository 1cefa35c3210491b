-- The tape took all that the drain took, and was ended.
use Rattle.std.proofs.Common.{◌≡◌, List, ◌++◌, Result, refl, sym, ap, subst, ◌∙◌}
use Rattle.rec_data.specs.declared.owned.Rec.{Rec}
use Rattle.mcap_model.specs.declared.ends.Stop.{Stop}
use Rattle.record_cache.specs.KeptRecords.{IsKept}
use Rattle.recorder.proofs.ReadBack.{each_of}
use Rattle.recorder.proofs.Draining.{halts_going, phase_so, ended_for, has_none}
use Rattle.recorder.proofs.writer.Writer.run.Goals as goal

pub write_all-records-requires-clause-halts : goal.write_all-records-requires-clause-halts
write_all-records-requires-clause-halts g c = halts_going c.args.self.drain.seat.me.0.pass c.args.self.drain.seat.me.0.post (g.T.Tape.phase c.args.self.tape) c.requires.going

pub returns-clause-written : goal.returns-clause-written
returns-clause-written g c =
    let members = g.T.Tape in
    let first = c.args.self.tape in
    let mid = c.write_all-records.new.tape in
    let last = c.finish-finished.new.self in
    let wrote = c.write_all-records.ensures.writes in
    let finish = c.finish-finished.ensures in
    let end = c.end_by.result in
    let all : c.write_all-records.new.drain.seat.me.0.post.taken ≡ wrote.more = wrote.taken ∙ ap (λ (l : List Rec). l ++ wrote.more) c.requires.none in
    record {
      mid = mid;
      entries = wrote.entries;
      closing = c.finish-finished.result.last;
      grown = subst (λ (l : List Rec). members.grows first mid l wrote.entries) (sym all) wrote.grown;
      ended = subst (λ (a : Result Unit Stop). members.ends mid last c.finish-finished.result.last (record { blocks = c.finish-finished.result.blocks; bytes = c.finish-finished.result.bytes }) a) (sym c.end_by.ensures) finish.ends;
      phase_is = phase_so (members.phase last) end c.finish-finished.result.end c.end_by.ensures finish.ended finish.stopped;
      numbers_are = finish.numbers;
      cause = ended_for members.phase members.failures members.limit_met mid last (members.failures first) (members.phase mid) end refl (wrote.goes c.requires.going)
          (λ going. rw c.end_by.ensures (finish.cause going)) (λ stop is. let kept = finish.kept stop is in (c.end_by.ensures ∙ kept.0, kept.2));
    }

pub write_all-records-requires-clause-has : goal.write_all-records-requires-clause-has
write_all-records-requires-clause-has g c =
    let members = g.T.Tape in
    has_none members.is_new members.grows members.grows_none c.args.self.tape c.requires.unused c.args.self.drain.seat.me.0.post.taken c.requires.none

pub returns-clause-all : goal.returns-clause-all
returns-clause-all g c =
    let wrote = c.write_all-records.ensures in
    record { records = wrote.count; kept = each_of IsKept c.write_all-records.new.drain.seat.me.0.post.taken (let has = wrote.has in has.kept) }
