-- The table of the places where ids stand first, and the places in the order of the ids.
use Rattle.std.proofs.Common.{◌≡◌, ◌⊎◌, ℕ, suc, ◌+◌, ◌<◌, List, [], ◌∷◌, ◌++◌, length, get_or, set, drop, ◌-◌, sym, ap, subst, inl, inr, ◌∙◌, arith}
use Rattle.std.proofs.lemmas.List.{length-set}
use Rattle.std.proofs.lemmas.Bool.{cases_order}
use Rattle.std.proofs.Math.Seq.{drop-cons}
use Rattle.mcap_model.specs.Places.{At, Has, Each}
use Rattle.mcap_model.proofs.Places.{at_within, at_one, at_kept, at_last, at_more, at_read, at_set, has_kept, has_last}
use Rattle.command_read.specs.IdTables.{StandsFirst, IsPlaceTable}

-- ---- one element more

pub drop_less : {X : Type 0} (xs : List X) (i : ℕ) (x : X) → 0 < i → At xs (i - 1) x → drop (i - 1) xs ≡ x ∷ drop i xs
drop_less {X} xs i x some at =
    let within = at_within xs (i - 1) x at in
    let next : suc (i - 1) ≡ i = omega (arith, some) in
    drop-cons xs (i - 1) x within
    ∙ ap (λ (y : X). y ∷ drop (suc (i - 1)) xs) (at_one xs (i - 1) (get_or xs (i - 1) x) x (at_read xs (i - 1) x within) at)
    ∙ ap (λ (n : ℕ). x ∷ drop n xs) next

-- what is read does not turn on what would be read behind the end
pub read_once : {X : Type 0} (xs : List X) (i : ℕ) (d e : X) → i < length xs → get_or xs i d ≡ get_or xs i e
read_once xs i d e less = at_one xs i (get_or xs i d) (get_or xs i e) (at_read xs i d less) (at_read xs i e less)

-- an id stands first where it did when one more is behind it
first_kept : (ids : List ℕ) (more id place : ℕ) → StandsFirst ids id place → StandsFirst (ids ++ more ∷ []) id place
first_kept ids more id place was = record {
  at = at_kept ids (more ∷ []) place id was.at;
  first = λ n less at. elim (at_more ids more n id at) [
    | inl old ↦ was.first n less old
    | inr last ↦ let there = at_within ids place id was.at in let same = last.0 in absurd (omega (arith, less, there, same))
  ];
}

-- ---- the table

zero_apart : (n : ℕ) → 0 ≡ suc n → ⊥
zero_apart n same = omega (arith, same)

-- an id that stands in the table
pub table_again : (ids table : List ℕ) (id place : ℕ) → IsPlaceTable ids table → At table id (suc place) → IsPlaceTable (ids ++ id ∷ []) table
table_again ids table id place was at = record {
  within = λ n other there. elim (at_more ids id n other there) [
    | inl old ↦ was.within n other old
    | inr last ↦ subst (λ (m : ℕ). m < length table) (sym last.1) (at_within table id (suc place) at)
  ];
  none = λ other empty n there. elim (at_more ids id n other there) [
    | inl old ↦ was.none other empty n old
    | inr last ↦ zero_apart place (at_one table id 0 (suc place) (subst (λ (m : ℕ). At table m 0) last.1 empty) at)
  ];
  some = λ other p there. first_kept ids id other p (was.some other p there);
}

-- an id that is new
pub table_new : (ids table : List ℕ) (id : ℕ) → IsPlaceTable ids table → At table id 0 → IsPlaceTable (ids ++ id ∷ []) (set table id (suc (length ids)))
table_new ids table id was empty = record {
  within = λ n other there. elim (at_more ids id n other there) [
    | inl old ↦ let less = was.within n other old in rw (length-set table id (suc (length ids))) less
    | inr last ↦ rw (length-set table id (suc (length ids))) (subst (λ (m : ℕ). m < length table) (sym last.1) (at_within table id 0 empty))
  ];
  none = λ other zero_there n there. elim (at_set table id other 0 (suc (length ids)) zero_there) [
    | inl here ↦ zero_apart (length ids) here.1
    | inr (apart, kept) ↦ elim (at_more ids id n other there) [
      | inl old ↦ was.none other kept n old
      | inr last ↦ apart last.1
    ]
  ];
  some = λ other p there. elim (at_set table id other (suc p) (suc (length ids)) there) [
    | inl (same, place) ↦
        let last : p ≡ length ids = omega (arith, place) in
        subst (λ (q : ℕ). StandsFirst (ids ++ id ∷ []) other q) (sym last) (subst (λ (m : ℕ). StandsFirst (ids ++ id ∷ []) m (length ids)) (sym same) here)
    | inr (apart, kept) ↦ first_kept ids id other p (was.some other p kept)
  ];
}
  where
    here : StandsFirst (ids ++ id ∷ []) id (length ids)
    here = record {
      at = at_last ids id [];
      first = λ n less at. elim (at_more ids id n id at) [
        | inl old ↦ was.none id empty n old
        | inr last ↦ let same = last.0 in absurd (omega (arith, less, same))
      ];
    }

-- ---- the places

-- an id below a bound stands first at that place
abbrev pub IsBelow : List ℕ → ℕ → ℕ → Type 0
IsBelow ids bound place = (id : ℕ) × (id < bound) × StandsFirst ids id place

-- The places where the ids below a bound stand first, in the order of the ids.
pub record ArePlacesBelow (ids : List ℕ) (bound : ℕ) (places : List ℕ) : Type 0 where
  pub are : Each (IsBelow ids bound) places
  pub rises : (j k p q id other : ℕ) → j < k → At places j p → At places k q → At ids p id → At ids q other → id < other
  pub all : (n id : ℕ) → id < bound → At ids n id → (place : ℕ) × Has places place × At ids place id

below_wider : (ids : List ℕ) (bound place : ℕ) → IsBelow ids bound place → IsBelow ids (bound + 1) place
below_wider ids bound place (id, less, first) = (id, omega (arith, less), first)

at_bound : (id bound : ℕ) → id < bound + 1 → (id < bound) ⊎ (id ≡ bound)
at_bound id bound less = elim (cases_order id bound) [
  | inl same ↦ inr same
  | inr (inl below) ↦ inl below
  | inr (inr above) ↦ absurd (omega (arith, less, above))
]

-- an id that stands nowhere
pub below_skip : (ids table places : List ℕ) (bound : ℕ) → IsPlaceTable ids table → At table bound 0 → ArePlacesBelow ids bound places → ArePlacesBelow ids (bound + 1) places
below_skip ids table places bound is empty was = record {
  are = λ k place at. below_wider ids bound place (was.are k place at);
  rises = was.rises;
  all = λ n id less at. elim (at_bound id bound less) [
    | inl below ↦ was.all n id below at
    | inr same ↦ absurd (is.none bound empty n (subst (λ (m : ℕ). At ids n m) same at))
  ];
}

-- an id that stands first at that place
pub below_more : (ids table places : List ℕ) (bound place : ℕ) → IsPlaceTable ids table → At table bound (suc place) → ArePlacesBelow ids bound places → ArePlacesBelow ids (bound + 1) (places ++ place ∷ [])
below_more ids table places bound place is there was = record {
  are = λ k q at. elim (at_more places place k q at) [
    | inl old ↦ below_wider ids bound q (was.are k q old)
    | inr last ↦ subst (λ (m : ℕ). IsBelow ids (bound + 1) m) (sym last.1) (bound, omega arith, first)
  ];
  rises = λ j k p q id other less at_j at_k at_p at_q. elim (at_more places place k q at_k) [
    | inl old_k ↦ elim (at_more places place j p at_j) [
      | inl old_j ↦ was.rises j k p q id other less old_j old_k at_p at_q
      | inr last ↦ let in_k = at_within places k q old_k in let same = last.0 in absurd (omega (arith, less, in_k, same))
    ]
    | inr last_k ↦ elim (at_more places place j p at_j) [
      | inl old_j ↦
          let (lower, below, stands) = was.are j p old_j in
          let one : id ≡ lower = at_one ids p id lower at_p stands.at in
          let two : other ≡ bound = at_one ids place other bound (subst (λ (m : ℕ). At ids m other) last_k.1 at_q) first.at in
          omega (arith, one, two, below)
      | inr last_j ↦ let one = last_j.0 in let two = last_k.0 in absurd (omega (arith, less, one, two))
    ]
  ];
  all = λ n id less at. elim (at_bound id bound less) [
    | inl below ↦ let old = was.all n id below at in (old.0, has_kept places (place ∷ []) old.0 old.1, old.2)
    | inr same ↦ (place, has_last places place [], subst (λ (m : ℕ). At ids place m) (sym same) first.at)
  ];
}
  where
    first : StandsFirst ids bound place
    first = is.some bound place there
