-- Maps of texts in the order of their keys.
use Rattle.std.proofs.Common.{◌≡◌, ◌≢◌, ℕ, ◌+◌, ◌-◌, ◌<◌, ◌≤◌, List, [], length, get_or, take, refl, sym, ap, subst, inl, inr, ◌∙◌, arith}
use Rattle.std.specs.Prelude.{All, Bool, true, false, IsPermutation}
use Rattle.std.specs.Cmp.{IsStrictWeakOrder}
use Rattle.std.specs.Cmp.Lexicographic.{slice_cmp}
use Rattle.std.specs.Fn.{Called, ComparesAs}
use Rattle.std.specs.List.Sorted.{IsSortedBy}
use Rattle.std.specs.Ordering.{nat_cmp, is_lt, is_eq, ordering_reverse}
use Rattle.std.specs.declared.cmp.Ordering.{Ordering}
use Rattle.std.specs.declared.cmp.Ordering.TheVariants.{Less, Equal, Greater}
use Rattle.std.proofs.lemmas.Bool.{cases_lt}
use Rattle.std.proofs.lemmas.Cmp.{nat_list_cmp_total, eq_by_cmp_equiv, tied_itself}
use Rattle.std.proofs.lemmas.List.{get_or-take, get_or_default, length-take-le, take_more}
use Rattle.std.proofs.lemmas.List.Sorted.{ranks_by, sorted_far, All-permutation, answers_always}
use Rattle.std.proofs.lemmas.Map.Keys.{IsDistinct-from_apart, IsDistinct-IsPermutation, apart_from_distinct}
use Rattle.std.proofs.lemmas.Map.Lookups.{exact_bytes}
use denote.Param.Members.{Mut}
use denote.Ref.{Bor}
use Rattle.mcap_wire.specs.Maps.{IsTextPair, KeysDiffer, KeysAscend, IsTextMap}
use Rattle.mcap_wire.proofs.TextMaps.{Pair, AllPairs-push}
use Rattle.mcap_wire.proofs.PairWalks.{nth}

-- ---- keys that change places

not_tied_by : (a b : List ℕ) (o : Ordering) → o ≡ slice_cmp nat_cmp a b → a ≢ b → is_eq o ≡ false
not_tied_by a b Less is differ = refl
not_tied_by a b Equal is differ = absurd (differ (exact_bytes a b (sym is)))
not_tied_by a b Greater is differ = refl

abbrev tied : Pair → Pair → Bool
tied p q = is_eq (slice_cmp nat_cmp p.0 q.0)

not_same : (a b : List ℕ) → is_eq (slice_cmp nat_cmp a b) ≡ false → a ≢ b
not_same a b apart same =
    let one : is_eq (slice_cmp nat_cmp a a) ≡ true = ap is_eq (tied_itself nat_list_cmp_total a) in
    let other : is_eq (slice_cmp nat_cmp a a) ≡ false = ap (λ (x : List ℕ). is_eq (slice_cmp nat_cmp a x)) same ∙ apart in
    cc

pub differ_permuted : (pairs others : List Pair) → IsPermutation pairs others → KeysDiffer pairs → KeysDiffer others
differ_permuted pairs others moved differ i j d below within =
    let apart = IsDistinct-from_apart tied pairs (λ k l e lt fits. not_tied_by (get_or pairs k e).0 (get_or pairs l e).0 (slice_cmp nat_cmp (get_or pairs k e).0 (get_or pairs l e).0) refl (differ k l e lt fits)) in
    let still = IsDistinct-IsPermutation tied (λ p q. (eq_by_cmp_equiv nat_list_cmp_total).symm p.0 q.0) pairs others moved apart in
    not_same (get_or others i d).0 (get_or others j d).0 (apart_from_distinct tied others i j d still below within)

pub map_permuted : (pairs others : List Pair) → IsPermutation pairs others → IsTextMap pairs → IsTextMap others
map_permuted pairs others moved is_map = record {
  texts = All-permutation IsTextPair pairs others moved is_map.texts;
  keys_differ = differ_permuted pairs others moved is_map.keys_differ;
}

-- ---- keys that ascend

-- the list up to the next pair, whose key is above the last one
pub ascend_more : (pairs : List Pair) (i : ℕ) → 1 ≤ i → i < length pairs → KeysAscend (take i pairs) → slice_cmp nat_cmp (nth pairs (i - 1)).0 (nth pairs i).0 ≡ Less → KeysAscend (take (i + 1) pairs)
ascend_more pairs i some lt ascend up =
    let size : length (take i pairs) ≡ i = length-take-le i pairs (omega arith) in
    let last : nth (take i pairs) (i - 1) ≡ nth pairs (i - 1) = get_or-take i pairs (i - 1) ([], []) (omega arith) in
    let below : slice_cmp nat_cmp (nth (take i pairs) (i - 1)).0 (nth pairs i).0 ≡ Less = ap (λ (p : Pair). slice_cmp nat_cmp p.0 (nth pairs i).0) last ∙ up in
    subst KeysAscend (sym (take_more pairs i ([], []) lt))
    (AllPairs-push (λ (p q : Pair). slice_cmp nat_cmp p.0 q.0 ≡ Less) (take i pairs) (nth pairs i) ascend
    (all_below (take i pairs) i (nth pairs i) size ascend below))
  where
    all_below : (front : List Pair) (n : ℕ) (next : Pair) → length front ≡ n → KeysAscend front → slice_cmp nat_cmp (nth front (n - 1)).0 next.0 ≡ Less → All (λ p. slice_cmp nat_cmp p.0 next.0 ≡ Less) front
    all_below front n next size ascends last k d within =
        let same : get_or front (n - 1) d ≡ nth front (n - 1) = get_or_default front (n - 1) d ([], []) (omega arith) in
        let below : slice_cmp nat_cmp (get_or front (n - 1) d).0 next.0 ≡ Less = ap (λ (p : Pair). slice_cmp nat_cmp p.0 next.0) same ∙ last in
        elim (cases_lt k (n - 1)) [
          | inl before ↦ nat_list_cmp_total.trans (get_or front k d).0 (get_or front (n - 1) d).0 next.0 (ascends k (n - 1) d before (omega arith)) below
          | inr at_end ↦ let here : n - 1 ≡ k = omega arith in subst (λ (m : ℕ). slice_cmp nat_cmp (get_or front m d).0 next.0 ≡ Less) here below
        ]

abbrev pub key_below : Pair → Pair → Bool
key_below p q = is_lt (slice_cmp nat_cmp p.0 q.0)

-- what a sort by the keys ensures
pub sorted_by_keys : {F : Type 0} {g : Mut F (Bor Pair × (Bor Pair × Unit {0})) Ordering} {f : F} (pairs : List Pair) → ((lt : Pair → Pair → Bool) → IsStrictWeakOrder lt → ComparesAs g lt f → IsSortedBy lt pairs) → ((h : F) (a : Bor Pair × (Bor Pair × Unit {0})) (r : Ordering) (h' : F) → Called g h a r h' → r ≡ slice_cmp nat_cmp a.0.now.0 a.1.0.now.0) → IsSortedBy key_below pairs
sorted_by_keys {g = g} {f = f} pairs up answers =
    up key_below (ranks_by nat_list_cmp_total (λ (p : Pair). p.0)) (answers_always g (λ a r. is_lt r ≡ key_below a.0.now a.1.0.now) f (λ h a r h' called. ap is_lt (answers h a r h' called)))

less_by : (a b : List ℕ) (o : Ordering) → o ≡ slice_cmp nat_cmp b a → is_lt o ≡ false → a ≢ b → slice_cmp nat_cmp a b ≡ Less
less_by a b Less is below differ = cc
less_by a b Equal is below differ = absurd (differ (sym (exact_bytes b a (sym is))))
less_by a b Greater is below differ = nat_list_cmp_total.antisymm a b ∙ ap ordering_reverse (sym is)

-- keys that differ and don't descend ascend
pub ascend_from_sorted : (pairs : List Pair) → KeysDiffer pairs → IsSortedBy key_below pairs → KeysAscend pairs
ascend_from_sorted pairs differ sorted i j d below within =
    less_by (get_or pairs i d).0 (get_or pairs j d).0 (slice_cmp nat_cmp (get_or pairs j d).0 (get_or pairs i d).0) refl
    (sorted_far key_below (ranks_by nat_list_cmp_total (λ (p : Pair). p.0)) pairs sorted i j d (omega arith) within)
    (differ i j d below within)
