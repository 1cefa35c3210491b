-- What the replay of the first blocks tells is what the file holds up to the last of them.
use Rattle.std.proofs.Common.{◌≡◌, ℕ, zero, suc, ◌+◌, ◌≤◌, List, [], ◌∷◌, ◌++◌, length, take, Option, Some, refl, sym, ap, subst, ◌∙◌, append_assoc, length-append, arith}
use Rattle.std.specs.List.{AllZip}
use Rattle.std.proofs.lemmas.Grind.{flat_map-append}
use Rattle.std.proofs.lemmas.Slice.Zip.{AllZip-long}
use Rattle.rec_data.specs.declared.owned.Rec.{Rec}
use Rattle.mcap_model.specs.declared.options.FileOptions.{FileOptions}
use Rattle.mcap_model.specs.declared.replay.Range.{Range}
use Rattle.mcap_model.specs.Blocks.{Piece, block, alone, piece_bytes, pieces_bytes, blocks_in}
use Rattle.mcap_model.specs.File.{front, blocks_from, until_block, front_of}
use Rattle.mcap_model.specs.History.{Numbered}
use Rattle.mcap_model.specs.Kept.{reading_limits, Kept}
use Rattle.mcap_model.specs.Places.{Each}
use Rattle.mcap_model.proofs.Standing.{count_blocks}
use Rattle.record_cache.specs.KeptRecords.{IsKept}
use Rattle.live_entry.specs.declared.entry.Entry.{Entry}
use Rattle.live_entry.specs.Following.{Stored, IsStored}
use Rattle.recorder.specs.Entries.{IsEntryThere, AreFirst}
use Rattle.recorder.specs.Recorded.{AreReadable}
use Rattle.recorder.proofs.FrontsTold.{fronts_are_told}
use Rattle.live_watcher.specs.Text.{replays_of}
use Rattle.live_recording.specs.Files.{FrontReplay}

-- ---- first ones

zip_take : {A B : Type 0} (R : A → B → Type 0) (n : ℕ) (xs : List A) (ys : List B) → AllZip R xs ys → AllZip R (take n xs) (take n ys)
zip_take R zero xs ys zip = tt
zip_take R (suc n) [] [] zip = tt
zip_take R (suc n) [] (y ∷ ys) zip = absurd zip
zip_take R (suc n) (x ∷ xs) [] zip = absurd zip
zip_take R (suc n) (x ∷ xs) (y ∷ ys) zip = (zip.0, zip_take R n xs ys zip.1)

-- the first blocks are those of the pieces up to the last of them
until_blocks : (n start : ℕ) (ps : List Piece) → blocks_from start (until_block n ps) ≡ take n (blocks_from start ps)
until_blocks zero start ps = refl
until_blocks (suc n) start [] = refl
until_blocks (suc n) start (block records ∷ ps) = ap (λ (l : List (ℕ × List Rec)). (start, records) ∷ l) (until_blocks n (start + length (piece_bytes (block records))) ps)
until_blocks (suc n) start (alone r ∷ ps) = until_blocks (suc n) (start + length (piece_bytes (alone r))) ps

until_parts : (n : ℕ) (ps : List Piece) → (rest : List Piece) × (ps ≡ until_block n ps ++ rest)
until_parts zero ps = (ps, refl)
until_parts (suc n) [] = ([], refl)
until_parts (suc n) (block records ∷ ps) = let (rest, is) = until_parts n ps in (rest, ap (λ (l : List Piece). block records ∷ l) is)
until_parts (suc n) (alone r ∷ ps) = let (rest, is) = until_parts (suc n) ps in (rest, ap (λ (l : List Piece). alone r ∷ l) is)

until_front : (n : ℕ) (ps more : List Piece) → n ≤ length (blocks_in ps) → until_block n (ps ++ more) ≡ until_block n ps
until_front zero ps more few = refl
until_front (suc n) [] more few = absurd (omega (arith, few))
until_front (suc n) (block records ∷ ps) more few = ap (λ (l : List Piece). block records ∷ l) (until_front n ps more (omega (arith, few)))
until_front (suc n) (alone r ∷ ps) more few = ap (λ (l : List Piece). alone r ∷ l) (until_front (suc n) ps more few)

first_ones : (options : FileOptions) (history : List Rec) (n : ℕ) (pieces : List Piece) → AreFirst options history pieces → AreFirst options history (until_block n pieces)
first_ones options history n pieces first =
    let some = until_block n pieces in
    let (rest, split) = until_parts n pieces in
    let within = first.within in
    let start = front options.profile in
    let size : length (pieces_bytes pieces) ≡ length (pieces_bytes some ++ pieces_bytes rest) = ap (λ (l : List Piece). length (pieces_bytes l)) split ∙ ap length (flat_map-append piece_bytes some rest) in
    record {
      more = rest ++ first.more;
      first = first.first ∙ ap (λ (l : List Piece). l ++ first.more) split ∙ append_assoc some rest first.more;
      within = omega (arith, within, size, length-append start (pieces_bytes pieces), length-append start (pieces_bytes some), length-append (pieces_bytes some) (pieces_bytes rest));
    }

-- ---- fronts

module _ {X : Type 0} (tells : X → Option (List ℕ)) (options : FileOptions) (size : ℕ) (history : List Rec) (pieces : List Piece) (entries : List (Entry X)) (readable : AreReadable options) (some : options.chunk ≡ Some size)
    (numbered : Numbered history) (kept : Each IsKept history) (first : AreFirst options history pieces) (zip : AllZip (IsEntryThere tells) (blocks_from (length (front options.profile)) pieces) entries) where
  many_entries : length (blocks_in pieces) ≡ length entries
  many_entries = sym (count_blocks (length (front options.profile)) pieces) ∙ sym (AllZip-long (IsEntryThere tells) (blocks_from (length (front options.profile)) pieces) entries zip)

  -- the pieces up to there end where the file's front of so many blocks does
  same_front : (n : ℕ) → n ≤ length entries → front options.profile ++ pieces_bytes (until_block n pieces) ≡ front_of options history n
  same_front n few =
      let within : n ≤ length (blocks_in pieces) = omega (arith, few, many_entries) in
      let all = ap (until_block n) first.first ∙ until_front n pieces first.more within in
      ap (λ (ps : List Piece). front options.profile ++ pieces_bytes ps) (sym all)

  there : (n : ℕ) → AllZip (IsEntryThere tells) (blocks_from (length (front options.profile)) (until_block n pieces)) (take n entries)
  there n = subst (λ (bs : List (ℕ × List Rec)). AllZip (IsEntryThere tells) bs (take n entries)) (sym (until_blocks n (length (front options.profile)) pieces))
      (zip_take (IsEntryThere tells) n (blocks_from (length (front options.profile)) pieces) entries zip)

  pub front_replayed : (range : Range) (stored : List Stored) → AllZip (IsStored tells) entries stored → (n count : ℕ) (text : List ℕ) → n ≤ length entries → replays_of tells range entries n count text → FrontReplay options range history n count text
  front_replayed range stored told n count text few replays =
      let told_first = zip_take (IsStored tells) n entries stored told in
      let it = replays (take n stored) told_first in
      let front_is = fronts_are_told tells options size history (until_block n pieces) (take n entries) readable some numbered kept (first_ones options history n pieces first) (there n) (take n stored) told_first it.stretches it.follow in
      record {
        tops = front_is.tops;
        kept = subst (λ (bytes : List ℕ). Kept reading_limits bytes front_is.tops) (same_front n few) front_is.kept;
        messages = it.messages;
        scan = (front_is.scan it.messages).1 it.scan;
        shown = it.shown;
        replay = it.replay;
        count_is = it.count_is;
        text_is = it.text_is;
      }
