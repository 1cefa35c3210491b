-- What a recording did to its store.
use Rattle.std.proofs.Common.{◌≡◌, ℕ, Bool, List, [], ◌∷◌, Option, Some, Result, Err, refl, sym, subst, inl, inr, arith}
use Rattle.std.specs.List.{AllZip}
use Rattle.rec_data.specs.declared.owned.Rec.{Rec}
use Rattle.mcap_io.specs.Outside.{SourceState, LiveState}
use Rattle.mcap_model.specs.declared.ends.End.TheVariants as ends
use Rattle.mcap_model.specs.declared.ends.Stop.{Stop}
use Rattle.mcap_model.specs.Places.{Each}
use Rattle.mcap_model.proofs.Places.{at_none}
use Rattle.chunk_writer.specs.declared.phase.Phase.{Phase}
use Rattle.chunk_writer.specs.declared.phase.Phase.TheVariants as phases
use Rattle.chunk_writer.specs.declared.scribe.Scribe.{Scribe}
use Rattle.chunk_writer.specs.Stops.{numbers, StopsAt, StopCause, Cause}
use Rattle.chunk_writer.specs.Scribes.{WritesHistory, store_of, phase_of, blocks_of, planned_bytes}
use Rattle.chunk_writer.specs.Tapes.{KeepsCause, seen_store, TakesOn, EndsOn, MeetsLimit}
use Rattle.feed_lane.specs.declared.report.FeedReport.{FeedReport}
use Rattle.feed_lane.specs.Steps.{ListsMessages}
use Rattle.mcap_model.specs.declared.options.RecordOptions.{RecordOptions}
use Rattle.recorder.specs.declared.report.Report.{Report}
use Rattle.recorder.specs.declared.report.WriterReport.{WriterReport}
use Rattle.recorder.specs.Recorded.{answer_of, Sides, sides, WriterRecorded, Recorded}
use Rattle.recorder.specs.Writing.{SeenTape, seen_tape}
use Rattle.recorder.specs.Onto.{TapeIsWritten, IsAll, IsReported, tape_sides, RecordedOnto}

pub same_report : {a b : Report} → Some a ≡ Some b → a ≡ b
same_report e = cc

recorded_so : (options : RecordOptions) (before now : Sides) (history : List Rec) (r : Report) → IsReported options.limit options.lossless before.sources now.sources history r
    → WriterRecorded options.file before.live now.live history r.writer → IsAll history r.writer → Recorded options before now r
recorded_so options before now history r reported writer all = record {
  history = history;
  feeds = reported.feeds;
  are = reported.are;
  assembled = reported.assembled;
  unfull = reported.unfull;
  kept = all.kept;
  writer = writer;
}

-- what was reported of lanes that were made so
pub reported_so : (l limit : ℕ) (b lossless : Bool) (s sources now : List SourceState) (history : List Rec) (r : Report) → l ≡ limit → b ≡ lossless → s ≡ sources
    → IsReported l b s now history r → IsReported limit lossless sources now history r
reported_so l limit b lossless s sources now history r limits losses same it =
    subst (λ (n : ℕ). IsReported n lossless sources now history r) limits
    (subst (λ (w : Bool). IsReported l w sources now history r) losses
    (subst (λ (m : List SourceState). IsReported l b m now history r) same it))

-- a report that is handed on lists the same
pub listed_so : (listed : Bool) (report r : Report) → Some report ≡ Some r → Each (λ (f : FeedReport). ListsMessages f listed) report.feeds.items → Each (λ (f : FeedReport). ListsMessages f listed) r.feeds.items
listed_so listed report r is it = subst (λ (x : Report). Each (λ (f : FeedReport). ListsMessages f listed) x.feeds.items) (same_report is) it

pub zip_same : {X : Type 0} (R : X → X → Type 0) → ((x : X) → R x x) → (xs : List X) → AllZip R xs xs
zip_same R same [] = tt
zip_same R same (x ∷ xs) = (same x, zip_same R same xs)

-- ---- what a tape took

module _ {T X : Type 0} (seen : SeenTape T X) where
  pub onto_so : (l limit : ℕ) (b lossless : Bool) (s sources now : List SourceState) (first last : T) (report r : Report) → Some report ≡ Some r → l ≡ limit → b ≡ lossless → s ≡ sources
      → RecordedOnto seen l b (tape_sides s first) (tape_sides now last) report → RecordedOnto seen limit lossless (tape_sides sources first) (tape_sides now last) r
  onto_so l limit b lossless s sources now first last report r is limits losses same it =
      subst (λ (x : Report). RecordedOnto seen limit lossless (tape_sides sources first) (tape_sides now last) x) (same_report is) (record {
        history = it.history;
        reported = reported_so l limit b lossless s sources now it.history report limits losses same it.reported;
        written = it.written;
        all = it.all;
      })

-- ---- what a scribe wrote

-- the count of its store has the cause, over all calls
scribe_cause : {L : Type 0} (state : L → LiveState) (mid last : Scribe L) (first : ℕ) (p : Phase) (end : Result Unit Stop) → phase_of mid ≡ p → KeepsCause p first (state (store_of mid)).faults
    → (phase_of mid ≡ phases.Going → Cause (state (store_of mid)).faults (state (store_of last)).faults end) → ((stop : Stop) → phase_of mid ≡ phases.Stopped stop → (end ≡ Err stop) × (last ≡ mid))
    → Cause first (state (store_of last)).faults end
scribe_cause state mid last first phases.Going end is before goes kept = subst (λ (n : ℕ). Cause n (state (store_of last)).faults end) before (goes is)
scribe_cause {L} state mid last first (phases.Stopped stop) end is before goes kept =
    let (same, stays) = kept stop is in
    subst (λ (a : Result Unit Stop). Cause first (state (store_of last)).faults a) (sym same)
    (subst (λ (s : Scribe L). StopCause first (state (store_of s)).faults stop) (sym stays) before)
scribe_cause state mid last first phases.Ended end is before goes kept = absurd before

module _ {L X : Type 0} (state : L → LiveState) (tells : X → Option (List ℕ)) (size : X → ℕ) (options : RecordOptions) (sources now : List SourceState) where
  -- onto a scribe
  pub onto_scribe : (live : LiveState) (first last : Scribe L) (store : L) (history : List Rec) (report r : Report) → Some report ≡ Some r → store ≡ store_of last
      → WritesHistory state options.file [] live [] first → phase_of first ≡ phases.Going → (state (store_of first)).faults ≡ live.faults → IsReported options.limit options.lossless sources now history report
      → TapeIsWritten (seen_tape (λ before after records entries. TakesOn (seen_store state tells size) before after records entries) (λ before after closing written end. EndsOn (seen_store state tells size) before after closing written end)
      (λ s blocks bytes. MeetsLimit state s blocks bytes) (λ s. phase_of s) (λ s. record { blocks = blocks_of s; bytes = planned_bytes s }) (λ s. (state (store_of s)).faults)) first last history report.writer
      → IsAll history report.writer → Recorded options (sides sources live) (sides now (state store)) r
  onto_scribe live first last store history report r is stored stands going still reported written all =
      let before = sides sources live in
      let w = report.writer in
      let grown = written.grown in
      let closed = written.ended in
      let ended = closed.file options.file [] live history (grown.grown options.file [] live [] stands) in
      let cause = scribe_cause state written.mid last (state (store_of first)).faults (phase_of written.mid) (answer_of w.end) refl (grown.cause going) closed.cause
      (λ stop stopped. let all = closed.kept stop stopped in (all.0, all.2)) in
      let writer : WriterRecorded options.file live (state (store_of last)) history w = record {
        records = all.records;
        wrote = ended.0;
        within = closed.within;
        begun = inl ended.1;
        through = ended.2;
        cause = subst (λ (n : ℕ). Cause {X = Unit {0}} n (state (store_of last)).faults (answer_of w.end)) still cause;
      } in
      subst (Recorded options before (sides now (state store))) (same_report is)
      (subst (λ (l : L). Recorded options before (sides now (state l)) report) (sym stored)
      (recorded_so options before (sides now (state (store_of last))) history report reported writer all))

module _ {L : Type 0} (state : L → LiveState) (options : RecordOptions) (sources now : List SourceState) where
  -- nothing was begun
  pub onto_nothing : (live : LiveState) (store : L) (stop : Stop) (report r : Report) → Some report ≡ Some r
      → IsReported options.limit options.lossless sources now [] report → report.writer ≡ record { records = 0; blocks = 0; bytes = 0; end = ends.Stopped stop }
      → StopsAt options.file [] [] live.held (state store).held stop (numbers 0 0) → StopCause live.faults (state store).faults stop
      → Recorded options (sides sources live) (sides now (state store)) r
  onto_nothing live store stop report r is reported written stops cause =
      let none : WriterReport = record { records = 0; blocks = 0; bytes = 0; end = ends.Stopped stop } in
      let writer : WriterRecorded options.file live (state store) [] none = record {
        records = refl;
        wrote = stops;
        within = record { few = omega arith; small = omega arith };
        begun = inr (refl, refl);
        through = tt;
        cause = cause;
      } in
      let all : IsAll [] none = record {
        records = refl;
        kept = λ n x at. absurd (at_none n x at);
      } in
      subst (Recorded options (sides sources live) (sides now (state store))) (same_report is)
      (recorded_so options (sides sources live) (sides now (state store)) [] report
      reported
      (subst (WriterRecorded options.file live (state store) []) (sym written) writer)
      (subst (IsAll []) (sym written) all))
