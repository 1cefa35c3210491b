-- Passes whose pairs weigh what the places of a history weigh have each of its places once.
use Rattle.std.proofs.Common.{◌≡◌, ◌≢◌, ℕ, zero, suc, ◌+◌, ◌<◌, ◌≤◌, true, false, List, [], ◌∷◌, length, refl, sym, ap, inl, inr, arith}
use Rattle.std.specs.Prelude.{nat_eq}
use Rattle.std.proofs.lemmas.Bool.{cases_lt}
use mathlib.Core.Logic.{dite}
use native.Mathlib.Decide.{ℕ_discrete}
use Rattle.std.proofs.lemmas.Option.{same_Some}
use Rattle.rec_data.specs.declared.owned.Rec.{Rec}
use Rattle.mcap_model.specs.Places.{At, Has}
use Rattle.mcap_model.proofs.Places.{at_none}
use Rattle.feed_lane.specs.Pass.{with_places}
use Rattle.buffer_swap.specs.Weights.{total, one_if}
use Rattle.buffer_swap.specs.Posts.{Gathered}
use Rattle.buffer_swap.specs.Laws.{PlacesAreKnown}

-- ---- weights that single out a place

abbrev here : ℕ → ℕ × Rec → ℕ
here place pair = one_if (nat_eq pair.0 place)

here_is : (place : ℕ) (pair : ℕ × Rec) → pair.0 ≡ place → here place pair ≡ 1
here_is place pair is = let e : nat_eq pair.0 place ≡ true = grind arith in ap one_if e

here_not : (place : ℕ) (pair : ℕ × Rec) → pair.0 ≢ place → here place pair ≡ 0
here_not place pair not = let e : nat_eq pair.0 place ≡ false = grind arith in ap one_if e

is_here : (place : ℕ) (pair : ℕ × Rec) → 1 ≤ here place pair → pair.0 ≡ place
is_here place pair some = dite (ℕ_discrete pair.0 place) (λ is. is) (λ not. absurd (omega (arith, some, here_not place pair not)))

abbrev put : ℕ → Rec → ℕ × Rec
put n r = (n, r)

none_below : (taken : List Rec) (n place : ℕ) → place < n → total (here place) (with_places n taken) ≡ 0
none_below [] n place less = refl
none_below (r ∷ rs) n place less = omega (arith, here_not place (put n r) (λ e. omega (arith, e, less)), none_below rs (n + 1) place (omega (arith, less)))

at_most_one : (taken : List Rec) (n place : ℕ) → total (here place) (with_places n taken) ≤ 1
at_most_one [] n place = omega arith
at_most_one (r ∷ rs) n place = dite (ℕ_discrete n place)
    (λ is. omega (arith, here_is place (put n r) is, none_below rs (n + 1) place (omega (arith, is))))
    (λ not. omega (arith, here_not place (put n r) not, at_most_one rs (n + 1) place))

one_there : (taken : List Rec) (n place : ℕ) → n ≤ place → place < n + length taken → 1 ≤ total (here place) (with_places n taken)
one_there [] n place le lt = absurd (omega (arith, le, lt))
one_there (r ∷ rs) n place le lt = dite (ℕ_discrete n place)
    (λ is. omega (arith, here_is place (put n r) is))
    (λ not. let later = one_there rs (n + 1) place (grind arith) (omega (arith, lt)) in omega (arith, later))

-- ---- sums

module _ {X : Type 0} (g : X → ℕ) where
  some_term : (xs : List X) → 1 ≤ total g xs → (k : ℕ) × (x : X) × At xs k x × (1 ≤ g x)
  some_term [] some = absurd (omega (arith, some))
  some_term (x ∷ xs) some = elim (cases_lt 0 (g x)) [
    | inl lt ↦ (zero, x, refl, omega (arith, lt))
    | inr none ↦ let later = some_term xs (omega (arith, some, none)) in (suc later.0, later.1, later.2, later.3)
  ]

  term_at : (xs : List X) (k : ℕ) (x : X) → At xs k x → g x ≤ total g xs
  term_at [] k x at = absurd (at_none k x at)
  term_at (y ∷ ys) zero x at = omega (arith, ap g (same_Some x y (sym at)))
  term_at (y ∷ ys) (suc k) x at = omega (arith, term_at ys k x at)

  terms_at : (xs : List X) (j k : ℕ) (x y : X) → j ≢ k → At xs j x → At xs k y → g x + g y ≤ total g xs
  terms_at [] j k x y apart one other = absurd (at_none j x one)
  terms_at (z ∷ zs) zero zero x y apart one other = absurd (apart refl)
  terms_at (z ∷ zs) zero (suc k) x y apart one other = omega (arith, ap g (same_Some x z (sym one)), term_at zs k y other)
  terms_at (z ∷ zs) (suc j) zero x y apart one other = omega (arith, ap g (same_Some y z (sym other)), term_at zs j x one)
  terms_at (z ∷ zs) (suc j) (suc k) x y apart one other = omega (arith, terms_at zs j k x y (λ e. apart (ap suc e)) one other)

abbrev own_here : ℕ → Gathered → ℕ
own_here place p = total (here place) p.pass.own

has_here : (p : Gathered) (place : ℕ) (pair : ℕ × Rec) → Has p.pass.own pair → pair.0 ≡ place → 1 ≤ own_here place p
has_here p place pair (n, at) is = omega (arith, term_at (here place) p.pass.own n pair at, here_is place pair is)

pub places_are_known : PlacesAreKnown
places_are_known known taken alike = record {
  given = λ place lt.
      let some : 1 ≤ total (own_here place) known = omega (arith, alike (here place), one_there taken 0 place (omega arith) (omega (arith, lt))) in
      let (k, p, at, mine) = some_term (own_here place) known some in
      let (n, pair, there, is) = some_term (here place) p.pass.own mine in
      (k, p, pair, at, (n, there), is_here place pair is);
  one_pass = λ j k p q one other at_j at_k has_p has_q same. dite (ℕ_discrete j k) (λ is. is)
      (λ apart. let place = other.0 in
      absurd (omega (arith, alike (here place), at_most_one taken 0 place, terms_at (own_here place) known j k p q apart at_j at_k, has_here p place one has_p same, has_here q place other has_q refl)));
  one_pair = λ k m n p one other at at_m at_n same. dite (ℕ_discrete m n) (λ is. is)
      (λ apart. let place = other.0 in
      absurd (omega (arith, alike (here place), at_most_one taken 0 place, term_at (own_here place) known k p at, terms_at (here place) p.pass.own m n one other apart at_m at_n, here_is place one same, here_is place other refl)));
}
