-- The entries that a tape gave are those of the first blocks of what it took.
use Rattle.std.proofs.Common.{◌≡◌, ℕ, ◌+◌, ◌≤◌, List, [], ◌∷◌, ◌++◌, length, map, Option, Some, None, Result, refl, sym, ap, subst, ◌∙◌, append-nil, length-append, arith}
use Rattle.std.specs.Prelude.{OnErr}
use Rattle.std.specs.List.{AllZip}
use Rattle.std.proofs.lemmas.Grind.{flat_map-append}
use Rattle.mcap_wire.specs.Limits.{file_limit}
use Rattle.rec_data.specs.declared.owned.Rec.{Rec}
use Rattle.mcap_io.specs.Outside.{LiveState}
use Rattle.mcap_model.specs.declared.ends.End.TheVariants as ends
use Rattle.mcap_model.specs.declared.ends.Stop.{Stop}
use Rattle.mcap_model.specs.declared.options.FileOptions.{FileOptions}
use Rattle.mcap_model.specs.Blocks.{Piece, block, block_bytes, cuts, pieces_of, last_piece, block_in, blocks_in}
use Rattle.mcap_model.specs.Histories.{written_of}
use Rattle.mcap_model.proofs.OneMore.{zip_push}
use Rattle.live_entry.specs.declared.entry.Entry.{Entry}
use Rattle.live_entry.specs.Entries.{SeenExtents, HasBlockExtent, seen_before}
use Rattle.live_entry.specs.Following.{Stored, IsStored}
use Rattle.live_directory.specs.Published.{at_most_one}
use Rattle.chunk_writer.specs.declared.phase.Phase.{Phase}
use Rattle.chunk_writer.specs.declared.phase.Phase.TheVariants as phases
use Rattle.chunk_writer.specs.declared.scribe.Scribe.{Scribe}
use Rattle.chunk_writer.specs.Limits.{Holds}
use Rattle.chunk_writer.specs.Stops.{numbers, Ends}
use Rattle.chunk_writer.specs.Scribes.{WritesHistory, GivesEntries, store_of, phase_of, blocks_of, planned_bytes}
use Rattle.chunk_writer.specs.Tapes.{PutsFirst, IsLeft, seen_store, TakesOn, EndsOn}
use Rattle.chunk_writer.proofs.Cuts.{pieces_grow}
use Rattle.recorder.specs.declared.report.WriterReport.{WriterReport}
use Rattle.recorder.specs.Recorded.{answer_of}
use Rattle.recorder.specs.Onto.{written_numbers}
use Rattle.recorder.proofs.EntriesGathered.{entries_gathered}
use Rattle.live_recording.specs.WatchedSteps.{AreBlockEntries}
use Rattle.live_recording.proofs.Ends.{all_stand}
use Rattle.live_recording.proofs.Follows.{still_going}

-- where the last records add no block, none wait
no_last : (ps : List Piece) (waiting : List Rec) → length (blocks_in (ps ++ last_piece waiting)) ≡ length (blocks_in ps) → last_piece waiting ≡ []
no_last ps [] is = refl
no_last ps (r ∷ rs) is =
    let more = ap (λ (l : List (List Rec)). length l) (flat_map-append block_in ps (block (r ∷ rs) ∷ [])) in
    absurd (omega (arith, is, more, length-append (blocks_in ps) ((r ∷ rs) ∷ [])))

-- ---- what extents tell

abbrev stored_block : ℕ × List Rec → Stored
stored_block b = record { at = b.0; bytes = block_bytes b.1 }

module _ {X : Type 0} (seen : SeenExtents X) (held : List ℕ) (is : seen.held ≡ Some held) where
  stored_so : (b : ℕ × List Rec) (e : Entry X) → HasBlockExtent seen e b.0 b.1 → IsStored seen.tells e (stored_block b)
  stored_so b e it = record { told = (let told = it.told in told.there held is); offset = (let numbers = it.numbers in numbers.offset_is) }

  all_stored : (blocks : List (ℕ × List Rec)) (entries : List (Entry X)) → AllZip (λ (b : ℕ × List Rec) (e : Entry X). HasBlockExtent seen e b.0 b.1) blocks entries → AllZip (IsStored seen.tells) entries (map stored_block blocks)
  all_stored [] [] zip = tt
  all_stored [] (e ∷ es) zip = absurd zip
  all_stored (b ∷ bs) [] zip = absurd zip
  all_stored (b ∷ bs) (e ∷ es) zip = (stored_so b e zip.0, all_stored bs es zip.1)

-- ---- the first blocks

-- A scribe was opened, took a history in several calls, and was ended.
module _ {L X : Type 0} (state : L → LiveState) (tells : X → Option (List ℕ)) (size : X → ℕ) (options : FileOptions) (live : LiveState) (first mid last : Scribe L) (history : List Rec) (given : List (Entry X)) (w : WriterReport)
    (stands : WritesHistory state options [] live [] first) (going : phase_of first ≡ phases.Going) (took : TakesOn (seen_store state tells size) first mid history given)
    (counted : blocks_of mid ≡ blocks_of first + length given) (holds : Holds (blocks_of mid) (planned_bytes mid)) where
  none_first : blocks_of first ≡ 0
  none_first = (stands.0.going going).0.blocks

  store_told : (held : List ℕ) → live.held ≡ Some held → (now : List ℕ) × ((state (store_of first)).held ≡ Some now)
  store_told held is = (held ++ written_of options [], (stands.0.going going).1 held is)

  -- where it was closed without a last block the blocks that are sure are all
  sure_all : (p : Phase) → phase_of mid ≡ p → (it : PutsFirst (seen_before tells size (state (store_of first))) options [] history given (planned_bytes mid) (phase_of mid)) → IsLeft p it.behind
      → EndsOn (seen_store state tells size) mid last None (written_numbers w) (answer_of w.end) → w.end ≡ ends.Closed → (cuts options.chunk options.span it.first).pieces ≡ pieces_of options.chunk options.span history
  sure_all phases.Going is it left ended closed =
      let sure = (cuts options.chunk options.span history).pieces in
      let whole : history ≡ it.first = it.cut ∙ ap (λ (l : List Rec). it.first ++ l) left ∙ append-nil it.first in
      let writes = took.grown options [] live [] stands in
      let file = ended.file options [] live history writes in
      let all = subst (λ (a : Result Unit Stop). Ends options [] live.held (state (store_of last)).held history (numbers w.blocks w.bytes) a) (ap answer_of closed) file.0 in
      let none = no_last sure (cuts options.chunk options.span history).waiting (sym all.1 ∙ ended.counted ∙ (writes.0.going is).0.blocks) in
      ap (λ (l : List Rec). (cuts options.chunk options.span l).pieces) (sym whole) ∙ sym (append-nil sure) ∙ ap (λ (l : List Piece). sure ++ l) (sym none)
  sure_all (phases.Stopped stop) is it left ended closed = absurd (subst (λ (a : Result Unit Stop). OnErr a ⊥) (sym (ap answer_of closed) ∙ (ended.kept stop is).0) tt)
  sure_all phases.Ended is it left ended closed = absurd left

  -- no block was appended at the end
  sure_blocks_are : (it : PutsFirst (seen_before tells size (state (store_of first))) options [] history given (planned_bytes mid) (phase_of mid))
      → EndsOn (seen_store state tells size) mid last None (written_numbers w) (answer_of w.end) → AreBlockEntries tells options live history w given
  sure_blocks_are it ended =
      let gives = it.entries_are in
      let grow = pieces_grow options.chunk options.span it.first it.behind in
      let gathered = entries_gathered tells size in
      record {
        pieces = (cuts options.chunk options.span it.first).pieces;
        first = record {
          more = grow.0;
          first = ap (pieces_of options.chunk options.span) it.cut ∙ grow.1;
          within = subst (λ (n : ℕ). n ≤ file_limit) it.bytes_are holds.small;
        };
        each = gathered.more options [] it.first (state (store_of first)).held [] given (gathered.none options) gives;
        tell = λ held is.
            let (now, told) = store_told held is in
            (map stored_block gives.closed, all_stored (seen_before tells size (state (store_of first))) now told gives.closed given gives.each);
        many = omega (arith, counted, none_first, ended.counted);
        all = λ closed. sure_all (phase_of mid) refl it it.left ended closed;
      }

  -- a last block was
  last_blocks_are : (it : PutsFirst (seen_before tells size (state (store_of first))) options [] history given (planned_bytes mid) (phase_of mid)) (e : Entry X)
      → EndsOn (seen_store state tells size) mid last (Some e) (written_numbers w) (answer_of w.end) → AreBlockEntries tells options live history w (given ++ e ∷ [])
  last_blocks_are it e ended =
      let seen = seen_before tells size (state (store_of first)) in
      let writes = took.grown options [] live [] stands in
      let on = still_going state tells size mid last e (written_numbers w) (answer_of w.end) (phase_of mid) refl writes.0.unended ended in
      let none : it.behind ≡ [] = subst (λ (p : Phase). IsLeft p it.behind) on it.left in
      let whole : history ≡ it.first = it.cut ∙ ap (λ (l : List Rec). it.first ++ l) none ∙ append-nil it.first in
      let all = subst (λ (l : List Rec). GivesEntries seen options [] l given) (sym whole) it.entries_are in
      let gathered = entries_gathered tells size in
      let sure = gathered.more options [] history seen.held [] given (gathered.none options) all in
      let gives = ended.last_is options [] live history writes in
      let file = ended.file options [] live history writes in
      let waiting = (cuts options.chunk options.span history).waiting in
      let stand = all_stand options [] live.held (state (store_of last)).held history waiting (blocks_of mid) w.blocks w.bytes (answer_of w.end) gives.0 (writes.0.going on).0.blocks ended.counted file.0 in
      let at = length (written_of options history) in
      record {
        pieces = pieces_of options.chunk options.span history;
        first = record {
          more = [];
          first = sym (append-nil (pieces_of options.chunk options.span history));
          within = (let within = ended.within in omega (arith, stand, within.small));
        };
        each = gathered.last options history (state (store_of mid)).held given e sure gives;
        tell = λ held is.
            let (now, told) = store_told held is in
            let (more, later) = took.keeps now told in (
              map stored_block all.closed ++ stored_block (at, waiting) ∷ [],
              zip_push (IsStored tells) given (map stored_block all.closed) e (stored_block (at, waiting)) (all_stored seen now told all.closed given all.each)
                  (stored_so (seen_before tells size (state (store_of mid))) (now ++ more) later (at, waiting) e gives.1),
            );
        many = omega (arith, counted, none_first, ended.counted, length-append given (e ∷ []));
        all = λ closed. refl;
      }

  pub first_blocks_are : (closing : Option (Entry X)) → EndsOn (seen_store state tells size) mid last closing (written_numbers w) (answer_of w.end) → AreBlockEntries tells options live history w (given ++ at_most_one closing)
  first_blocks_are None ended =
      subst (λ (l : List (Entry X)). AreBlockEntries tells options live history w l) (sym (append-nil given)) (sure_blocks_are (took.front going options [] live [] stands) ended)
  first_blocks_are (Some e) ended = last_blocks_are (took.front going options [] live [] stands) e ended
