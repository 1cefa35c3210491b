-- What a recording beside a directory came to, and what was told of it.
use Rattle.std.proofs.Common.{◌≡◌, ℕ, ◌≤◌, List, [], ◌++◌, length, Option, Some, None, Result, Ok, Err, refl, sym, ap, subst, ◌∙◌, inl, inr, append-nil, append_assoc, arith}
use Rattle.std.specs.Prelude.{Bool, true, false}
use Rattle.std.proofs.lemmas.Bool.{false≢true}
use Rattle.std.proofs.lemmas.Option.{same_Some, none-some}
use mathlib.Core.List.{IsPrefix}
use Rattle.mcap_wire.specs.Layout.{content_limit}
use Rattle.mcap_wire.specs.Limits.{file_limit}
use Rattle.rec_data.specs.declared.owned.Rec.{Rec}
use Rattle.mcap_io.specs.Outside.{SourceState, LiveState}
use Rattle.mcap_model.specs.declared.ends.End.{End}
use Rattle.mcap_model.specs.declared.ends.End.TheVariants as ends
use Rattle.mcap_model.specs.declared.ends.Stop.{Stop}
use Rattle.mcap_model.specs.declared.options.FileOptions.{FileOptions}
use Rattle.mcap_model.specs.File.{front}
use Rattle.mcap_model.proofs.Places.{at_none}
use Rattle.live_entry.specs.declared.entry.Entry.{Entry}
use Rattle.live_directory.specs.declared.front.Added.{Added}
use Rattle.live_directory.specs.Published.{entries_of, end_of, at_most_one}
use Rattle.live_directory.specs.Writing.{DirectoryState, empty_directory}
use Rattle.chunk_writer.specs.declared.phase.Phase.{Phase}
use Rattle.chunk_writer.specs.declared.phase.Phase.TheVariants as phases
use Rattle.chunk_writer.specs.declared.scribe.Scribe.{Scribe}
use Rattle.chunk_writer.specs.Limits.{Holds}
use Rattle.chunk_writer.specs.Stops.{numbers, StopsAt, StopCause, Cause}
use Rattle.chunk_writer.specs.Scribes.{WritesHistory, store_of, phase_of, blocks_of, planned_bytes}
use Rattle.chunk_writer.specs.Tapes.{KeepsCause, seen_store}
use Rattle.chunk_writer.proofs.Planned.{length-front}
use Rattle.mcap_model.specs.declared.options.RecordOptions.{RecordOptions}
use Rattle.recorder.specs.declared.report.Report.{Report}
use Rattle.recorder.specs.declared.report.WriterReport.{WriterReport}
use Rattle.recorder.specs.Recorded.{answer_of, Sides, sides, WriterRecorded}
use Rattle.recorder.specs.Onto.{IsAll, IsReported, written_numbers}
use Rattle.live_recording.specs.Publishing.{Board, KnowsLack, GivesTo, TriesSeal, SealsBoard, Publishing, PublishesOn, PublishesEnd, empty_board, entries_held, gives_none, gives_on}
use Rattle.live_recording.specs.WatchedSteps.{AreBlockEntries, ShowsBlocks, TriedToSeal, RecordedBeside, RecordedOver}
use Rattle.live_recording.proofs.Follows.{held_since, unsealed_since}
use Rattle.live_recording.proofs.FirstBlocks.{first_blocks_are}

-- ---- a note

-- of a directory without blocks the note of a try to seal it has no blocks, and that end at most
told_at_seal : {X : Type 0} (before now : DirectoryState X) (end : End) (note : List (Added X)) → before ≡ empty_directory → TriesSeal before now end note → (entries_of note ≡ []) × ((other : End) → end_of note ≡ Some other → other ≡ end)
told_at_seal before now end note empty (inl seals) = (
  ap (λ (h : List (Added _)). entries_of h) seals.note_is ∙ seals.entries ∙ ap (λ (d : DirectoryState _). entries_held d) empty,
  λ other is. same_Some other end (sym is ∙ ap (λ (h : List (Added _)). end_of h) seals.note_is ∙ seals.sealed),
)
told_at_seal before now end note empty (inr stays) =
    let none : note ≡ [] = stays.0 ∙ ap (λ (d : DirectoryState _). d.shown) empty in (
      ap (λ (h : List (Added _)). entries_of h) none,
      λ other is. absurd (none-some other (ap (λ (h : List (Added _)). end_of h) (sym none) ∙ is)),
    )

-- ---- a try to seal

knows_empty : {X : Type 0} → KnowsLack {X = X} empty_board
knows_empty = record { short = refl; all = λ is. (refl, refl); some = λ is. absurd (false≢true is) }

lost_short : {X : Type 0} (b : Board X) → KnowsLack b → b.lost ≡ true → (short : Bool) → b.short ≡ short → b.directory.short ≡ true
lost_short b known lost true is = sym known.short ∙ is
lost_short b known lost false is = absurd (false≢true (sym (known.all is).0 ∙ lost))

-- without an end memory lacked
seal_lacked : {X : Type 0} (b : Board X) (now : DirectoryState X) (end : End) (note : List (Added X)) → KnowsLack b → SealsBoard b now end note → end_of note ≡ None → now.short ≡ true
seal_lacked b now end note known (inl (kept, inl seals)) none = absurd (none-some end (sym none ∙ ap (λ (h : List (Added _)). end_of h) seals.note_is ∙ seals.sealed))
seal_lacked b now end note known (inl (kept, inr stays)) none = let still = stays.1 in still.short
seal_lacked b now end note known (inr (lost, shown, same)) none = ap (λ (d : DirectoryState _). d.short) same ∙ lost_short b known lost b.short refl

tried_so : {X : Type 0} (b : Board X) (given : List (Entry X)) (now : DirectoryState X) (end : End) (note : List (Added X)) → GivesTo empty_board b given → SealsBoard b now end note → TriedToSeal given end note now
tried_so b given now end note gives seals =
    let known = gives.known knows_empty in
    record { board = b; gives = gives; known = known; seals = seals; lacked = seal_lacked b now end note known seals }

-- ---- before the first record

-- a front is within the limit of a file
front_within : (options : FileOptions) → length options.profile ≤ content_limit → length (front options.profile ++ []) ≤ file_limit
front_within options short = omega (arith, short, length-front options.profile, ap (λ (l : List ℕ). length l) (append-nil (front options.profile)))

-- what was reported of lanes with that limit, which wait for room or don't
pub reported_by : (options : RecordOptions) (limit : ℕ) (lossless : Bool) (sources now : List SourceState) (history : List Rec) (r : Report) → limit ≡ options.limit → lossless ≡ options.lossless
    → IsReported limit lossless sources now history r → IsReported options.limit options.lossless sources now history r
reported_by options limit lossless sources now history r limits losses it =
    subst (λ (n : ℕ). IsReported n options.lossless sources now history r) limits (subst (λ (b : Bool). IsReported limit b sources now history r) losses it)

-- ---- a scribe

module _ {L : Type 0} (state : L → LiveState) where
  -- a store's count has the cause, over the calls and the end
  cause_since : (mid last : Scribe L) (before : ℕ) (p : Phase) (end : Result Unit Stop) → phase_of mid ≡ p → KeepsCause p before (state (store_of mid)).faults
      → (phase_of mid ≡ phases.Going → Cause (state (store_of mid)).faults (state (store_of last)).faults end) → ((stop : Stop) → phase_of mid ≡ phases.Stopped stop → (end ≡ Err stop) × (last ≡ mid))
      → Cause before (state (store_of last)).faults end
  cause_since mid last before phases.Going end is kept goes stays = subst (λ (n : ℕ). Cause n (state (store_of last)).faults end) kept (goes is)
  cause_since mid last before (phases.Stopped stop) end is kept goes stays =
      let (same, still) = stays stop is in
      subst (λ (a : Result Unit Stop). Cause before (state (store_of last)).faults a) (sym same)
      (subst (λ (s : Scribe L). StopCause before (state (store_of s)).faults stop) (sym still) kept)
  cause_since mid last before phases.Ended end is kept goes stays = absurd kept

  -- a scribe that has taken nothing has the bytes of the front
  front_holds : (options : FileOptions) (live : LiveState) (first : Scribe L) → length options.profile ≤ content_limit → WritesHistory state options [] live [] first → phase_of first ≡ phases.Going
      → Holds (blocks_of first) (planned_bytes first)
  front_holds options live first short stands going =
      let plans = (stands.0.going going).0 in
      let none : blocks_of first ≡ 0 = plans.blocks in
      let bytes : planned_bytes first ≡ length (front options.profile ++ []) = plans.bytes in
      let within = front_within options short in
      record { few = omega (arith, none); small = omega (arith, bytes, within) }

-- ---- a tape that was new

module _ {L X : Type 0} (state : L → LiveState) (tells : X → Option (List ℕ)) (size : X → ℕ) (first mid last : Publishing L X) (history : List Rec) (given : List (Entry X)) (closing : Option (Entry X)) (w : WriterReport)
    (empty : first.board ≡ empty_board) (grown : PublishesOn (seen_store state tells size) first mid history given) (ended : PublishesEnd (seen_store state tells size) mid last closing (written_numbers w) (answer_of w.end)) where
  gives_all : GivesTo first.board last.board (grown.given ++ at_most_one ended.given)
  gives_all = gives_on first.board mid.board last.board grown.given (at_most_one ended.given) grown.published ended.published

  module _ (options : RecordOptions) (live : LiveState) (stands : WritesHistory state options.file [] live [] first.scribe) (going : phase_of first.scribe ≡ phases.Going) where
    scribe_recorded : (state (store_of first.scribe)).faults ≡ live.faults → IsAll history w → WriterRecorded options.file live (state (store_of last.scribe)) history w
    scribe_recorded still all =
        let took = grown.took in
        let closed = ended.ended in
        let file = closed.file options.file [] live history (took.grown options.file [] live [] stands) in
        let cause = cause_since state mid.scribe last.scribe (state (store_of first.scribe)).faults (phase_of mid.scribe) (answer_of w.end) refl (took.cause going) closed.cause
        (λ stop is. let kept = closed.kept stop is in (kept.0, kept.2)) in
        record {
          records = all.records;
          wrote = file.0;
          within = closed.within;
          begun = inl file.1;
          through = file.2;
          cause = subst (λ (n : ℕ). Cause {X = Unit {0}} n (state (store_of last.scribe)).faults (answer_of w.end)) still cause;
        }

    -- all entries that were given are those of the first blocks
    given_blocks : length options.file.profile ≤ content_limit → AreBlockEntries tells options.file live history w (grown.given ++ at_most_one ended.given)
    given_blocks short =
        let holds = grown.within (front_holds state options.file live first.scribe short stands going) in
        first_blocks_are state tells size options.file live first.scribe mid.scribe last.scribe history grown.given w stands going grown.took grown.counted holds ended.given ended.ended

    -- what readers find are first ones of these
    shown_first : (note : List (Added X)) → note ≡ last.board.directory.shown → IsPrefix (entries_of note) (grown.given ++ at_most_one ended.given)
    shown_first note is =
        let it = gives_all in
        let d = last.board.directory in (
          d.pending ++ it.missing,
          ap (λ (h : List (Added X)). entries_of h ++ (d.pending ++ it.missing)) is ∙ sym (append_assoc (entries_of d.shown) d.pending it.missing) ∙ it.held
              ∙ ap (λ (b : Board X). entries_held b.directory ++ (grown.given ++ at_most_one ended.given)) empty,
        )

    never_ended : (note : List (Added X)) → note ≡ last.board.directory.shown → end_of note ≡ None
    never_ended note is = ap (λ (h : List (Added X)). end_of h) is ∙ unsealed_since first.board last.board (grown.given ++ at_most_one ended.given) empty gives_all

    abbrev all_given : List (Entry X)
    all_given = grown.given ++ at_most_one ended.given

    tries : (after : DirectoryState X) (note : List (Added X)) → SealsBoard last.board after w.end note → TriedToSeal all_given w.end note after
    tries after note seals = tried_so last.board all_given after w.end note (subst (λ (b : Board X). GivesTo b last.board all_given) empty gives_all) seals

    shows_blocks : length options.file.profile ≤ content_limit → (after : DirectoryState X) (note : List (Added X)) → SealsBoard last.board after w.end note
        → (shows : ShowsBlocks tells options.file live history w note) × TriedToSeal shows.given w.end note after
    shows_blocks short after note (inl (kept, inl seals)) =
        let held = held_since first.board last.board all_given empty gives_all kept in
        let all : entries_of note ≡ all_given = ap (λ (h : List (Added X)). entries_of h) seals.note_is ∙ seals.entries ∙ held in (
          record {
            given = all_given;
            blocks_are = given_blocks short;
            first = ([], append-nil (entries_of note) ∙ all);
            sealed = λ end is. (same_Some end w.end (sym is ∙ ap (λ (h : List (Added X)). end_of h) seals.note_is ∙ seals.sealed), all);
          },
          tries after note (inl (kept, inl seals)),
        )
    shows_blocks short after note (inl (kept, inr stays)) = (
      record {
        given = all_given;
        blocks_are = given_blocks short;
        first = shown_first note stays.0;
        sealed = λ end is. absurd (none-some end (sym (never_ended note stays.0) ∙ is));
      },
      tries after note (inl (kept, inr stays)),
    )
    shows_blocks short after note (inr (lost, shown, same)) = (
      record {
        given = all_given;
        blocks_are = given_blocks short;
        first = shown_first note shown;
        sealed = λ end is. absurd (none-some end (sym (never_ended note shown) ∙ is));
      },
      tries after note (inr (lost, shown, same)),
    )

module _ {L X : Type 0} (state : L → LiveState) (tells : X → Option (List ℕ)) (options : RecordOptions) (sources now : List SourceState) (live : LiveState) (store : L) (report : Report) (note : List (Added X)) where
  -- the writer took a history, and the directory told its blocks
  pub tape_beside : (size : X → ℕ) (first mid last : Publishing L X) (history : List Rec) (given : List (Entry X)) (closing : Option (Entry X)) → first.board ≡ empty_board
      → PublishesOn (seen_store state tells size) first mid history given → PublishesEnd (seen_store state tells size) mid last closing (written_numbers report.writer) (answer_of report.writer.end)
      → WritesHistory state options.file [] live [] first.scribe → phase_of first.scribe ≡ phases.Going → (state (store_of first.scribe)).faults ≡ live.faults → length options.file.profile ≤ content_limit
      → IsReported options.limit options.lossless sources now history report → IsAll history report.writer → store ≡ store_of last.scribe
      → (after : DirectoryState X) → SealsBoard last.board after report.writer.end note
      → RecordedBeside tells options (sides sources live) (sides now (state store)) report note after
  tape_beside size first mid last history given closing empty grown ended stands going still short reported all stored after seals =
      let told = shows_blocks state tells size first mid last history given closing report.writer empty grown ended options live stands going short after note seals in
      record {
        recorded = record {
          history = history;
          feeds = reported.feeds;
          are = reported.are;
          assembled = reported.assembled;
          unfull = reported.unfull;
          kept = all.kept;
          writer = subst (λ (l : L). WriterRecorded options.file live (state l) history report.writer) (sym stored)
              (scribe_recorded state tells size first mid last history given closing report.writer empty grown ended options live stands going still all);
        };
        shows = told.0;
        tried = told.1;
      }

  -- nothing was begun, and the directory told no block
  pub nothing_beside : (stop : Stop) → length options.file.profile ≤ content_limit → IsReported options.limit options.lossless sources now [] report
      → report.writer ≡ record { records = 0; blocks = 0; bytes = 0; end = ends.Stopped stop } → StopsAt options.file [] [] live.held (state store).held stop (numbers 0 0)
      → StopCause live.faults (state store).faults stop → (before after : DirectoryState X) → before ≡ empty_directory → TriesSeal before after (ends.Stopped stop) note
      → RecordedBeside tells options (sides sources live) (sides now (state store)) report note after
  nothing_beside stop short reported written stops cause before after empty tries =
      let told = told_at_seal before after (ends.Stopped stop) note empty tries in
      let none : WriterReport = record { records = 0; blocks = 0; bytes = 0; end = ends.Stopped stop } in
      record {
        recorded = record {
          history = [];
          feeds = reported.feeds;
          are = reported.are;
          assembled = reported.assembled;
          unfull = reported.unfull;
          kept = λ n x at. absurd (at_none n x at);
          writer = subst (λ (w : WriterReport). WriterRecorded options.file live (state store) [] w) (sym written) (record {
            records = refl;
            wrote = stops;
            within = record { few = omega arith; small = omega arith };
            begun = inr (refl, refl);
            through = tt;
            cause = cause;
          });
        };
        shows = record {
          given = [];
          blocks_are = subst (λ (w : WriterReport). AreBlockEntries tells options.file live [] w []) (sym written) (record {
            pieces = [];
            first = record { more = []; first = refl; within = front_within options.file short };
            each = tt;
            tell = λ held is. ([], tt);
            many = refl;
            all = λ closed. refl;
          });
          first = ([], append-nil (entries_of note) ∙ told.0);
          sealed = λ end is. (told.1 end is ∙ ap (λ (w : WriterReport). w.end) (sym written), told.0);
        };
        tried = subst (λ (w : WriterReport). TriedToSeal [] w.end note after) (sym written)
            (tried_so empty_board [] after (ends.Stopped stop) note (gives_none empty_board) (inl (refl, subst (λ (d : DirectoryState X). TriesSeal d after (ends.Stopped stop) note) empty tries)));
      }

-- the same of the store that was taken out of a tape
pub over_store : {L X : Type 0} (state : L → LiveState) (tells : X → Option (List ℕ)) (options : RecordOptions) (before : Sides) (sources : List SourceState) (r : Report) (note : List (Added X)) (directory : DirectoryState X) (store now : L)
    → store ≡ now → RecordedBeside tells options before (sides sources (state now)) r note directory → RecordedOver tells options before (sides sources (state store)) r note
over_store state tells options before sources r note directory store now same it =
    (directory, subst (λ (l : _). RecordedBeside tells options before (sides sources (state l)) r note directory) (sym same) it)
