-- The entries that a tape is to publish follow those that it has published.
use Rattle.std.proofs.Common.{◌≡◌, ℕ, ◌≤◌, List, [], ◌∷◌, ◌++◌, All, Option, Some, None, Result, refl, sym, ap, subst, ◌∙◌, append-nil, arith}
use Rattle.std.specs.Prelude.{false}
use Rattle.std.proofs.lemmas.List.Elements.{All-append}
use Rattle.std.proofs.lemmas.Option.{none-some}
use Rattle.std.proofs.lemmas.Bool.{false≢true}
use Rattle.mcap_wire.specs.Limits.{file_limit}
use Rattle.rec_data.specs.declared.owned.Rec.{Rec}
use Rattle.mcap_io.specs.Outside.{LiveState}
use Rattle.mcap_model.specs.declared.options.FileOptions.{FileOptions}
use Rattle.mcap_model.specs.declared.ends.Stop.{Stop}
use Rattle.mcap_model.specs.Places.{Each}
use Rattle.mcap_model.specs.Blocks.{cuts, pieces_of, last_piece}
use Rattle.mcap_model.specs.History.{Follows, Numbered}
use Rattle.mcap_model.proofs.Places.{at_kept, each_front}
use Rattle.record_cache.specs.KeptRecords.{IsKept}
use Rattle.live_entry.specs.declared.entry.Entry.{Entry}
use Rattle.live_entry.specs.Entries.{seen_before, EntriesFollow}
use Rattle.live_directory.specs.Published.{entries_of, end_of}
use Rattle.chunk_writer.specs.declared.phase.Phase.{Phase}
use Rattle.chunk_writer.specs.declared.phase.Phase.TheVariants as phases
use Rattle.chunk_writer.specs.declared.scribe.Scribe.{Scribe}
use Rattle.chunk_writer.specs.declared.tape.Written.{Written}
use Rattle.chunk_writer.specs.Limits.{Holds}
use Rattle.chunk_writer.specs.Scribes.{GivesEntries, store_of, phase_of, blocks_of, planned_bytes}
use Rattle.chunk_writer.specs.Tapes.{PutsFirst, IsLeft, seen_store, TakesOn, EndsOn, takes_on}
use Rattle.recorder.proofs.ReadBack.{each_of}
use Rattle.recorder.proofs.EntriesFollow.{entries_follow}
use Rattle.recorder.proofs.EntriesGathered.{entries_gathered}
use Rattle.live_recording.specs.Publishing.{Board, KnowsLack, GivesTo, Publishing, IsNewPublishing, empty_board, entries_held}
use Rattle.live_recording.proofs.Ends.{all_stand}

each_kept : {X : Type 0} (P : X → Type 0) (xs ys : List X) → Each P (xs ++ ys) → Each P xs
each_kept P xs ys each n x at = each n x (at_kept xs ys n x at)

-- ---- the entries of a scribe

module _ {X : Type 0} (tells : X → Option (List ℕ)) (size : X → ℕ) (store : LiveState) (options : FileOptions) (chunk : ℕ) (some : options.chunk ≡ Some chunk) (small : (1 ≤ chunk) × (chunk ≤ 67108864)) where
  -- the entries of records of which a scribe put the first
  first_follow : (records : List Rec) (entries : List (Entry X)) (bytes : ℕ) (phase : Phase) → Numbered records → Each IsKept records → bytes ≤ file_limit → PutsFirst (seen_before tells size store) options [] records entries bytes phase
      → EntriesFollow tells entries
  first_follow records entries bytes phase numbered kept within it =
      let put = it.first in
      let gathered = entries_gathered tells size in
      entries_follow tells options chunk put (cuts options.chunk options.span put).pieces entries some small
      (each_front Follows put it.behind (subst Numbered it.cut numbered)) (each_kept IsKept put it.behind (subst (Each IsKept) it.cut kept)) (record {
        more = last_piece (cuts options.chunk options.span put).waiting;
        first = refl;
        within = omega (arith, within, it.bytes_are);
      }) (gathered.more options [] put store.held [] entries (gathered.none options) it.entries_are)

module _ {L X : Type 0} (state : L → LiveState) (tells : X → Option (List ℕ)) (size : X → ℕ) (now later : Scribe L) where
  -- the scribe goes on, where ending it gave an entry
  pub still_going : (last : Entry X) (written : Written) (end : Result Unit Stop) (phase : Phase) → phase_of now ≡ phase → (phase_of now ≡ phases.Ended → ⊥) → EndsOn (seen_store state tells size) now later (Some last) written end
      → phase_of now ≡ phases.Going
  still_going last written end phases.Going is unended ended = is
  still_going last written end (phases.Stopped stop) is unended ended = absurd (none-some last (sym (ended.kept stop is).1))
  still_going last written end phases.Ended is unended ended = absurd (unended is)

module _ {L X : Type 0} (state : L → LiveState) (tells : X → Option (List ℕ)) (size : X → ℕ) (first : Publishing L X) (now later : Scribe L) where
  -- of a tape that was new, and took these records in several calls
  pub taken_follow : (taken records : List Rec) (one other : List (Entry X)) → IsNewPublishing state first → TakesOn (seen_store state tells size) first.scribe now taken one → TakesOn (seen_store state tells size) now later records other
      → Holds (blocks_of later) (planned_bytes later) → Numbered (taken ++ records) → All IsKept taken → All IsKept records → EntriesFollow tells (one ++ other)
  taken_follow taken records one other new took takes holds numbered kept more =
      let all = takes_on (seen_store state tells size) first.scribe now later taken records one other took takes in
      first_follow tells size (state (store_of first.scribe)) new.options new.size new.chunked new.size_is (taken ++ records) (one ++ other) (planned_bytes later) (phase_of later) numbered
      (each_of IsKept (taken ++ records) (All-append IsKept taken records kept more)) holds.small (all.front new.going new.options [] new.opened [] new.writes)

  pub last_follows : (taken : List Rec) (one : List (Entry X)) (last : Entry X) (written : Written) (end : Result Unit Stop) → IsNewPublishing state first → TakesOn (seen_store state tells size) first.scribe now taken one
      → EndsOn (seen_store state tells size) now later (Some last) written end → (phase_of now ≡ phases.Ended → ⊥) → Numbered taken → All IsKept taken → EntriesFollow tells (one ++ last ∷ [])
  last_follows taken one last written end new took ended unended numbered kept =
      let options = new.options in
      let going = still_going state tells size now later last written end (phase_of now) refl unended ended in
      let it = took.front new.going options [] new.opened [] new.writes in
      let none : it.behind ≡ [] = subst (λ (p : Phase). IsLeft p it.behind) going it.left in
      let whole : taken ≡ it.first = it.cut ∙ ap (λ (l : List Rec). it.first ++ l) none ∙ append-nil it.first in
      let seen = seen_before tells size (state (store_of first.scribe)) in
      let gathered = entries_gathered tells size in
      let sure = gathered.more options [] taken seen.held [] one (gathered.none options) (subst (λ (l : List Rec). GivesEntries seen options [] l one) (sym whole) it.entries_are) in
      let writes = took.grown options [] new.opened [] new.writes in
      let gives = ended.last_is options [] new.opened taken writes in
      let file = ended.file options [] new.opened taken writes in
      let plans = (writes.0.going going).0 in
      let stand = all_stand options [] new.opened.held (state (store_of later)).held taken (cuts options.chunk options.span taken).waiting (blocks_of now) written.blocks written.bytes end gives.0 plans.blocks ended.counted file.0 in
      entries_follow tells options new.size taken (pieces_of options.chunk options.span taken) (one ++ last ∷ []) new.chunked new.size_is numbered (each_of IsKept taken kept) (record {
        more = [];
        first = sym (append-nil (pieces_of options.chunk options.span taken));
        within = (let holds = ended.within in omega (arith, stand, holds.small));
      }) (gathered.last options taken (state (store_of now)).held one last sure gives)

-- ---- the board of a tape that was new

module _ {X : Type 0} (first now : Board X) (given : List (Entry X)) (empty : first ≡ empty_board) (gives : GivesTo first now given) where
  pub known_since : KnowsLack now
  known_since = gives.known (subst (λ (b : Board X). KnowsLack b) (sym empty) (record { short = refl; all = λ is. (refl, refl); some = λ is. absurd (false≢true is) }))

  pub unsealed_since : end_of now.directory.shown ≡ None
  unsealed_since = gives.unsealed (subst (λ (b : Board X). end_of b.directory.shown ≡ None) (sym empty) refl)

  -- where none were lost the directory has all that was given
  pub held_since : now.lost ≡ false → entries_held now.directory ≡ given
  held_since is = sym (append-nil (entries_held now.directory)) ∙ ap (λ (l : List (Entry X)). entries_held now.directory ++ l) (sym (gives.whole is)) ∙ gives.held
      ∙ ap (λ (b : Board X). entries_held b.directory ++ given) empty

  -- where memory didn't lack readers find it
  pub all_since : now.short ≡ false → entries_of now.directory.shown ≡ given
  all_since is =
      let (whole, none) = known_since.all is in
      sym (append-nil (entries_of now.directory.shown)) ∙ ap (λ (l : List (Entry X)). entries_of now.directory.shown ++ l) (sym none) ∙ held_since whole
