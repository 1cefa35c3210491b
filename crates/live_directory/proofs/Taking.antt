-- One more batch.
use Rattle.std.proofs.Common.{◌≡◌, ℕ, zero, suc, ◌+◌, ◌-◌, ◌≤◌, List, [], ◌∷◌, ◌++◌, length, take, drop, sym, ◌∙◌, ap, arith, append-nil, length-append, take-append-drop, append_assoc}
use Rattle.std.proofs.lemmas.List.{take-append-le}
use Rattle.std.proofs.Math.Seq.{take-append_seam}
use Rattle.std.proofs.lemmas.Option.{same_Some}
use Rattle.mcap_model.specs.Places.{At}
use mathlib.Core.List.{IsPrefix}
use Rattle.live_entry.specs.declared.entry.Entry.{Entry}
use Rattle.live_directory.specs.declared.front.Added.{Added}
use Rattle.live_directory.specs.Published.{entries_of}

module _ {X : Type 0} where
  pub take_prefix : (xs ys : List (Added X)) (n : ℕ) → IsPrefix xs ys → n ≤ length xs → take n ys ≡ take n xs
  take_prefix xs ys n p le = ap (take n) (sym p.1) ∙ take-append-le n xs p.0 le

  -- a list that is longer by one, and ends so
  pub longer_by_one : (old s : List (Added X)) (t : Added X) → IsPrefix old s → length s ≡ length old + 1 → drop (length s - 1) s ≡ t ∷ [] → s ≡ old ++ t ∷ []
  longer_by_one old s t p len last =
      let front : take (length old) s ≡ old = ap (take (length old)) (sym p.1) ∙ take-append_seam old p.0 in
      let at : length s - 1 ≡ length old = omega (arith, len) in
      let back : drop (length old) s ≡ t ∷ [] = ap (λ (k : ℕ). drop k s) (sym at) ∙ last in
      sym (take-append-drop (length old) s) ∙ (λ i. front i ++ back i)

  -- the entries of one batch more
  entries_next : (xs : List (Added X)) (n : ℕ) (x : Added X) → At xs n x → entries_of (take (suc n) xs) ≡ entries_of (take n xs) ++ x.entries
  entries_next [] zero x at = absurd cc
  entries_next [] (suc n) x at = absurd cc
  entries_next (y ∷ xs) zero x at = let same = same_Some y x at in append-nil y.entries ∙ ap (λ (a : Added X). a.entries) same
  entries_next (y ∷ xs) (suc n) x at = ap (λ (es : List (Entry X)). y.entries ++ es) (entries_next xs n x at) ∙ sym (append_assoc y.entries (entries_of (take n xs)) x.entries)

  pub entries_then : (xs : List (Added X)) (n : ℕ) (x : Added X) → At xs n x → entries_of (take (n + 1) xs) ≡ entries_of (take n xs) ++ x.entries
  entries_then xs n x at = let one : n + 1 ≡ suc n = omega arith in ap (λ (k : ℕ). entries_of (take k xs)) one ∙ entries_next xs n x at

-- what is added behind a list leaves its front
pub front_kept : {A : Type 0} (xs more ys : List A) (n : ℕ) → ys ≡ xs ++ more → n ≤ length xs → (n ≤ length ys) × (take n ys ≡ take n xs)
front_kept xs more ys n e le = (omega (arith, le, ap length e, length-append xs more), ap (take n) e ∙ take-append-le n xs more le)
