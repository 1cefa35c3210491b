-- Entries that are sorted, against those that a walk came to.
use Rattle.std.proofs.Common.{◌≡◌, ℕ, ◌<◌, List, refl, sym, subst, inl, inr, arith}
use Rattle.std.specs.Prelude.{AllPairs, IsPermutation, ◌≢◌}
use Rattle.std.specs.List.Sorted.{IsNonDecreasingBy}
use Rattle.std.proofs.lemmas.Bool.{cases_lt}
use Rattle.std.proofs.lemmas.List.Sorted.{Contains-permutation, IsPermutation-sym}
use Rattle.mcap_model.specs.Places.{At, Has}
use Rattle.mcap_model.specs.Tops.{Top}
use Rattle.mcap_model.specs.Whole.{AreEntries}
use Rattle.mcap_model.proofs.Places.{at_one}
use Rattle.mcap_model.proofs.Lists.{pairs_at, pairs_from}
use Rattle.mcap_model.proofs.NamedTopics.{contained, has_there}
use Rattle.mcap_model.proofs.Rising.{rising_same}
use Rattle.index_check.specs.Entries.{ListsEntries, entry_offset}
use Rattle.index_check.proofs.Apart.{apart_moved}

pub moved_has : {X : Type 0} (xs ys : List X) (x : X) → IsPermutation xs ys → Has xs x → Has ys x
moved_has xs ys x moved has = has_there ys x (Contains-permutation xs ys x moved (contained xs x has))

-- what rises, and holds two elements with one offset, holds one
one_offset : (found : List (ℕ × ℕ)) (a b : ℕ × ℕ) → AllPairs (λ x y. entry_offset x < entry_offset y) found → Has found a → Has found b → a.1 ≡ b.1 → a ≡ b
one_offset found a b rises first second same = elim (cases_lt first.0 second.0) [
  | inl less ↦ let up = pairs_at (λ (x y : ℕ × ℕ). entry_offset x < entry_offset y) found rises first.0 second.0 a b less first.1 second.1 in absurd (omega (arith, up, same))
  | inr more ↦ elim (cases_lt second.0 first.0) [
    | inl under ↦ let up = pairs_at (λ (x y : ℕ × ℕ). entry_offset x < entry_offset y) found rises second.0 first.0 b a under second.1 first.1 in absurd (omega (arith, up, same))
    | inr less ↦
        let place : second.0 ≡ first.0 = omega (arith, more, less) in
        at_one found first.0 a b first.1 (subst (λ (n : ℕ). At found n b) place second.1)
  ]
]

rises_apart : (found : List (ℕ × ℕ)) → AllPairs (λ x y. entry_offset x < entry_offset y) found → AllPairs (λ x y. entry_offset x ≢ entry_offset y) found
rises_apart found rises i j d less within = let up = rises i j d less within in λ e. omega (arith, up, e)

pub entries_right : (records : List Top) (channel : ℕ) (found entries sorted : List (ℕ × ℕ)) → ListsEntries records channel found → IsPermutation entries sorted → found ≡ sorted → AreEntries records channel entries
entries_right records channel found entries sorted lists moved same = record {
  are = λ entry has. lists.are entry (subst (λ (l : List (ℕ × ℕ)). Has l entry) (sym same) (moved_has entries sorted entry moved has));
  all = λ entry is. moved_has sorted entries entry (IsPermutation-sym entries sorted moved) (subst (λ (l : List (ℕ × ℕ)). Has l entry) same (lists.all entry is));
  once = λ i j entry at other. elim (cases_lt i j) [
    | inl less ↦ absurd (pairs_at (λ (x y : ℕ × ℕ). entry_offset x ≢ entry_offset y) entries apart i j entry entry less at other refl)
    | inr more ↦ elim (cases_lt j i) [
      | inl under ↦ absurd (pairs_at (λ (x y : ℕ × ℕ). entry_offset x ≢ entry_offset y) entries apart j i entry entry under other at refl)
      | inr less ↦ omega (arith, more, less)
    ]
  ];
}
  where
    apart : AllPairs (λ x y. entry_offset x ≢ entry_offset y) entries
    apart = apart_moved entry_offset sorted entries (IsPermutation-sym entries sorted moved)
        (subst (AllPairs (λ (x y : ℕ × ℕ). entry_offset x ≢ entry_offset y)) same (rises_apart found lists.rises))

not_both : (x y : ℕ × ℕ) → entry_offset x < entry_offset y → entry_offset y < entry_offset x → ⊥
not_both x y up down = omega (arith, up, down)

pub entries_same : (records : List Top) (channel : ℕ) (found entries sorted : List (ℕ × ℕ)) → ListsEntries records channel found → IsPermutation entries sorted → IsNonDecreasingBy entry_offset sorted → AreEntries records channel entries → found ≡ sorted
entries_same records channel found entries sorted lists moved order right =
    rising_same (λ (x y : ℕ × ℕ). entry_offset x < entry_offset y) not_both found sorted lists.rises rises
    (λ e has. moved_has entries sorted e moved (right.all e (lists.are e has)))
    (λ e has. lists.all e (right.are e (moved_has sorted entries e (IsPermutation-sym entries sorted moved) has)))
  where
    apart : AllPairs (λ x y. entry_offset x ≢ entry_offset y) entries
    apart = pairs_from (λ (x y : ℕ × ℕ). entry_offset x ≢ entry_offset y) entries (λ i j a b less at other same.
        let one = one_offset found a b lists.rises (lists.all a (right.are a (i, at))) (lists.all b (right.are b (j, other))) same in
        let place = right.once i j b (subst {A = ℕ × ℕ} (λ x. At entries i x) one at) other in
        omega (arith, place, less))

    rises : AllPairs (λ x y. entry_offset x < entry_offset y) sorted
    rises i j d less within =
        let below = order i j d (omega (arith, less)) within in
        let differ = apart_moved entry_offset entries sorted moved apart i j d less within in
        omega (arith, below, differ)
