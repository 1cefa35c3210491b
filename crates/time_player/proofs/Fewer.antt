-- Fewer messages have no more data.
use Rattle.std.proofs.Common.{◌≡◌, ℕ, ◌+◌, ◌≤◌, Bool, true, false, cond, List, [], ◌∷◌, length, ap, arith}
use Rattle.std.specs.Prelude.{IsPermutation, sum_by}
use Rattle.std.specs.List.{dedup, dedup_from}
use Rattle.std.proofs.lemmas.List.Sums.{sum_by-cons}
use Rattle.std.proofs.lemmas.List.Sorted.{sum_by-IsPermutation}
use Rattle.mcap_model.specs.declared.replay.Shown.{Shown}
use Rattle.time_player.specs.Heads.{same_place}
use Rattle.time_player.specs.DataOfMessages.{data_in}

abbrev size : Shown → ℕ
size s = length s.payload

fewer_from : (k : Shown) (xs : List Shown) → data_in (dedup_from same_place k xs) ≤ data_in (k ∷ xs)
fewer_from k [] = omega arith
fewer_from k (x ∷ xs) = by (same_place x k) (fewer_from k xs) (fewer_from x xs)
  where
    by : (b : Bool) → data_in (dedup_from same_place k xs) ≤ data_in (k ∷ xs) → data_in (dedup_from same_place x xs) ≤ data_in (x ∷ xs) → data_in (cond b (dedup_from same_place k xs) (k ∷ dedup_from same_place x xs)) ≤ data_in (k ∷ (x ∷ xs))
    by true skipped kept = omega (arith, skipped, sum_by-cons size k xs, sum_by-cons size k (x ∷ xs), sum_by-cons size x xs)
    by false skipped kept = omega (arith, kept, sum_by-cons size k (dedup_from same_place x xs), sum_by-cons size k (x ∷ xs))

fewer : (xs : List Shown) → data_in (dedup same_place xs) ≤ data_in xs
fewer [] = omega arith
fewer (x ∷ xs) = fewer_from x xs

pub ordered_data : (old sorted new : List Shown) → IsPermutation old sorted → new ≡ dedup same_place sorted → data_in new ≤ data_in old
ordered_data old sorted new moved is = omega (arith, ap data_in is, fewer sorted, sum_by-IsPermutation size old sorted moved)
