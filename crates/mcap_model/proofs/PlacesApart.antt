-- The places of the messages of a scan rise, so they differ.
use Rattle.std.proofs.Common.{◌≡◌, ℕ, ◌+◌, ◌≤◌, Bool, true, false, List, [], ◌∷◌, ◌++◌, length, refl, ap, subst, inl, inr, arith}
use Rattle.std.specs.Prelude.{AllPairs, filter, if◌then◌else◌}
use Rattle.std.specs.List.{AllZip}
use Rattle.std.proofs.lemmas.List.Kept.{AllPairs-filter}
use Rattle.mcap_model.specs.declared.replay.Place.{Place}
use Rattle.mcap_model.specs.declared.replay.Shown.{Shown}
use Rattle.mcap_model.specs.Places.{Has, Each}
use Rattle.mcap_model.specs.Tops.{Top, top_bytes, inner_tops, is_chunk, is_flat_kind, Placed, placed, placed_from, placed_inside, placed_one}
use Rattle.mcap_model.specs.Scan.{Seen, IsSeen, Scan, is_message_top, PlaceBefore, tops_of}
use Rattle.mcap_model.specs.Plain.{IsShown, PlacesDiffer}
use Rattle.mcap_model.proofs.Places.{at_none, at_within}
use Rattle.mcap_model.proofs.Lists.{at_either, each_cons, each_joined, filter_passed, pairs_at, pairs_from, pairs_cons}
use Rattle.mcap_model.proofs.Readings.{length-top}
use Rattle.mcap_model.proofs.NamedTopics.{zip_back}

abbrev IsBefore : Placed → Placed → Type 0
IsBefore p q = PlaceBefore p.place q.place

pub pairs_joined : {X : Type 0} (R : X → X → Type 0) (xs ys : List X) → AllPairs R xs → AllPairs R ys → ((x y : X) → Has xs x → Has ys y → R x y) → AllPairs R (xs ++ ys)
pairs_joined R xs ys one other cross = pairs_from R (xs ++ ys) (λ i j x y less at_x at_y. elim (at_either xs ys i x at_x) [
  | inl x_in ↦ elim (at_either xs ys j y at_y) [
    | inl y_in ↦ pairs_at R xs one i j x y less x_in y_in
    | inr (k, is, y_in) ↦ cross x y (i, x_in) (k, y_in)
  ]
  | inr (k, is, x_in) ↦ elim (at_either xs ys j y at_y) [
    | inl y_in ↦ absurd (omega (arith, less, is, at_within xs j y y_in))
    | inr (m, there, y_in) ↦ pairs_at R ys other k m x y (omega (arith, less, is, there)) x_in y_in
  ]
])

pub none_each : {X : Type 0} (P : X → Type 0) → Each P []
none_each P n x at = absurd (at_none n x at)

pub none_pairs : {X : Type 0} (R : X → X → Type 0) → AllPairs R []
none_pairs R i j d less within = absurd (omega (arith, within))

one_pairs : {X : Type 0} (R : X → X → Type 0) (x : X) → AllPairs R (x ∷ [])
one_pairs R x = pairs_cons R x [] (none_each (R x)) (none_pairs R)

-- ---- inside a chunk

abbrev IsInside : ℕ → ℕ → Placed → Type 0
IsInside chunk at p = (p.place.top ≡ chunk) × (at ≤ p.place.inner)

inside_from : (chunk at : ℕ) (ts : List Top) → Each (IsInside chunk at) (placed_inside chunk at ts)
inside_from chunk at [] = none_each (IsInside chunk at)
inside_from chunk at (t ∷ ts) =
    each_cons (IsInside chunk at) (record { place = record { top = chunk; inner = at }; top = t }) (placed_inside chunk (at + length (top_bytes t)) ts) (refl, omega arith)
    (λ n p there. let within = inside_from chunk (at + length (top_bytes t)) ts n p there in (within.0, omega (arith, within.1)))

inside_rises : (chunk at : ℕ) (ts : List Top) → AllPairs IsBefore (placed_inside chunk at ts)
inside_rises chunk at [] = none_pairs IsBefore
inside_rises chunk at (t ∷ ts) =
    pairs_cons IsBefore (record { place = record { top = chunk; inner = at }; top = t }) (placed_inside chunk (at + length (top_bytes t)) ts)
    (λ n p there. let within = inside_from chunk (at + length (top_bytes t)) ts n p there in inr (sym_of within.0, omega (arith, within.1, length-top t)))
    (inside_rises chunk (at + length (top_bytes t)) ts)
  where
    sym_of : {n : ℕ} {m : ℕ} → n ≡ m → m ≡ n
    sym_of {n} e = subst (λ (k : ℕ). k ≡ n) e refl

-- ---- a record of the top level

abbrev all_of : ℕ → Top → Bool → List Placed
all_of at t b = if b then placed_inside at 0 (inner_tops t) else record { place = record { top = at; inner = 0 }; top = t } ∷ []

all_rises : (at : ℕ) (t : Top) (b : Bool) → AllPairs IsBefore (all_of at t b)
all_rises at t true = inside_rises at 0 (inner_tops t)
all_rises at t false = one_pairs IsBefore (record { place = record { top = at; inner = 0 }; top = t })

all_there : (at : ℕ) (t : Top) (b : Bool) → Each (λ p. p.place.top ≡ at) (all_of at t b)
all_there at t true = λ n p there. let within = inside_from at 0 (inner_tops t) n p there in within.0
all_there at t false = each_cons (λ p. p.place.top ≡ at) (record { place = record { top = at; inner = 0 }; top = t }) [] refl (none_each (λ p. p.place.top ≡ at))

one_rises : (at : ℕ) (t : Top) → AllPairs IsBefore (placed_one at t)
one_rises at t = AllPairs-filter IsBefore (λ p. is_flat_kind p.top) (all_of at t (is_chunk t)) (all_rises at t (is_chunk t))

one_there : (at : ℕ) (t : Top) → Each (λ p. p.place.top ≡ at) (placed_one at t)
one_there at t n p there =
    let passed = filter_passed (λ q. is_flat_kind q.top) (all_of at t (is_chunk t)) n p there in
    let has = passed.0 in
    all_there at t (is_chunk t) has.0 p has.1

-- ---- records of the top level

from_there : (at : ℕ) (ts : List Top) → Each (λ p. at ≤ p.place.top) (placed_from at ts)
from_there at [] = none_each (λ p. at ≤ p.place.top)
from_there at (t ∷ ts) =
    each_joined (λ p. at ≤ p.place.top) (placed_one at t) (placed_from (at + length (top_bytes t)) ts)
    (λ n p there. omega (arith, one_there at t n p there))
    (λ n p there. omega (arith, from_there (at + length (top_bytes t)) ts n p there))

from_rises : (at : ℕ) (ts : List Top) → AllPairs IsBefore (placed_from at ts)
from_rises at [] = none_pairs IsBefore
from_rises at (t ∷ ts) =
    pairs_joined IsBefore (placed_one at t) (placed_from (at + length (top_bytes t)) ts) (one_rises at t) (from_rises (at + length (top_bytes t)) ts)
    (λ p q p_in q_in. inl (omega (arith, one_there at t p_in.0 p p_in.1, from_there (at + length (top_bytes t)) ts q_in.0 q q_in.1, length-top t)))

-- ---- the messages

before_differs : (p q : Place) → PlaceBefore p q → p ≡ q → ⊥
before_differs p q (inl less) same = omega (arith, less, ap (λ (r : Place). r.top) same)
before_differs p q (inr (is, less)) same = omega (arith, less, ap (λ (r : Place). r.inner) same)

pub places_differ : (tops : List Top) (shown : List Shown) → AllZip IsShown (filter (λ p. is_message_top p.top) (placed tops)) shown → PlacesDiffer shown
places_differ tops shown zip =
    let messages = filter (λ (p : Placed). is_message_top p.top) (placed tops) in
    pairs_from (λ s r. s.place ≡ r.place → ⊥) shown (λ i j s r less at_s at_r same.
    let a = zip_back IsShown messages shown i s zip at_s in
    let b = zip_back IsShown messages shown j r zip at_r in
    let first = a.2 in
    let second = b.2 in
    let before = pairs_at IsBefore messages (AllPairs-filter IsBefore (λ p. is_message_top p.top) (placed tops) (from_rises 8 tops)) i j a.0 b.0 less a.1 b.1 in
    before_differs s.place r.place (subst (λ (p : Place). PlaceBefore p r.place) first.place (subst (PlaceBefore a.0.place) second.place before)) same)

pub scan_rises : (tops : List Top) (messages : List Seen) → Scan tops messages → AllPairs (λ (s : Seen) (r : Seen). PlaceBefore s.place r.place) messages
scan_rises tops messages scan =
    let all = filter (λ (p : Placed). is_message_top p.top) (placed tops) in
    let zip : AllZip (IsSeen (tops_of (placed tops))) all messages = scan in
    pairs_from (λ (s : Seen) (r : Seen). PlaceBefore s.place r.place) messages (λ i j s r less at_s at_r.
    let a = zip_back (IsSeen (tops_of (placed tops))) all messages i s zip at_s in
    let b = zip_back (IsSeen (tops_of (placed tops))) all messages j r zip at_r in
    let first = a.2 in
    let second = b.2 in
    let before = pairs_at IsBefore all (AllPairs-filter IsBefore (λ p. is_message_top p.top) (placed tops) (from_rises 8 tops)) i j a.0 b.0 less a.1 b.1 in
    subst (λ p. PlaceBefore p r.place) first.place (subst (PlaceBefore a.0.place) second.place before))
