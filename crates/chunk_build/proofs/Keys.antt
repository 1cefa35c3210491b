-- What a binary search finds among elements whose keys ascend.
use Rattle.std.proofs.Common.{◌≡◌, ℕ, ◌<◌, List, length, get_or, Result, Ok, Err, sym, ap, arith}
use Rattle.std.specs.List.{AllPairs}
use Rattle.std.specs.List.Sorted.{IsSearchInRange, IsBinarySearchResult, IsNonDecreasingBy}
use Rattle.std.specs.Ordering.{nat_cmp, ordering_index}
use Rattle.std.proofs.lemmas.Cmp.{ranked}
use Rattle.std.proofs.lemmas.Bool.Decides.{nat_tests}
use Rattle.chunk_build.specs.Keys.{FoundKeyPlace}

module _ {A : Type 0} (key : A → ℕ) (list : List A) (rise : AllPairs (λ (a b : A). key a < key b) list) (wanted : ℕ) where
  comparisons_rise : IsNonDecreasingBy (λ (a : A). ordering_index (nat_cmp (key a) wanted)) list
  comparisons_rise i j d le inside = grind (arith, nat_tests, rise i j d, λ (same : i ≡ j). ap (λ (k : ℕ). key (get_or list k d)) same)

  pub found_key : (r : Result ℕ ℕ) → IsSearchInRange r (length list) → IsBinarySearchResult (λ (a : A). nat_cmp (key a) wanted) list r → FoundKeyPlace key list wanted r
  found_key (Ok at) inside equal = (inside, λ d. ranked _ wanted _ (sym (equal d)))
  found_key (Err at) inside parted = (inside, (λ k d less. ranked _ wanted _ (sym ((parted comparisons_rise).0 k d (omega arith) less))), λ k d least within. ranked _ wanted _ (sym ((parted comparisons_rise).1 k d least within)))
