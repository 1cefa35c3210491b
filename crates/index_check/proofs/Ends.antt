-- Where a file's summary starts.
use Rattle.std.proofs.Common.{◌≡◌, ℕ, zero, suc, ◌<◌, Bool, true, false, eqb, List, [], ◌∷◌, take, Option, Some, None, refl, sym, ap, subst, inl, inr, ◌∙◌, arith}
use Rattle.std.specs.Prelude.{if◌then◌else◌}
use Rattle.std.proofs.lemmas.Bool.{cases_lt, eqb-false}
use Rattle.std.proofs.lemmas.Option.{same_Some}
use Rattle.mcap_model.specs.Places.{At, Has}
use Rattle.mcap_model.specs.Tops.{Top}
use Rattle.mcap_model.specs.Rules.{HasDataEnd}
use Rattle.mcap_model.specs.Whole.{offset_of, behind_end, NamesSummary}
use Rattle.mcap_model.proofs.Places.{at_none, at_within}
use Rattle.mcap_model.proofs.Lists.{at_taken}
use Rattle.index_check.specs.declared.summary_places.SummaryPlaces.{SummaryPlaces}
use Rattle.index_check.specs.SummaryPlaces.{IsStart, IsFirstOffset, FirstStands, PlacesOf}
use Rattle.index_check.proofs.Spotted.{offsets_rise, note_there}

has_end : (xs : List Top) (j : ℕ) (t : Top) → At xs j t → t.op ≡ 15 → HasDataEnd xs
has_end [] j t at kind = at_none j t at
has_end (x ∷ xs) zero t at kind = inl (ap (λ (u : Top). u.op) (same_Some x t at) ∙ kind)
has_end (x ∷ xs) (suc j) t at kind = inr (has_end xs j t at kind)

has_behind : (xs : List Top) (j : ℕ) (t : Top) → At xs j t → HasDataEnd (take j xs) → Has (behind_end xs) t
has_behind [] j t at ended = absurd (at_none j t at)
has_behind (x ∷ xs) zero t at ended = absurd ended
has_behind (x ∷ xs) (suc j) t at ended = by (eqb x.op 15) refl (λ later. has_behind xs j t at later)
  where
    by : (b : Bool) → eqb x.op 15 ≡ b → (HasDataEnd (take j xs) → Has (behind_end xs) t) → Has (if b then xs else behind_end xs) t
    by true is rest = (j, at)
    by false is rest = elim ended [
      | inl here ↦ absurd (eqb-false x.op 15 is here)
      | inr later ↦ rest later
    ]

twice : {X : Type 0} (xs : List X) (j k : ℕ) → j < k → take j (take k xs) ≡ take j xs
twice xs zero k less = refl
twice xs (suc j) zero less = absurd (omega (arith, less))
twice [] (suc j) (suc k) less = refl
twice {X} (x ∷ xs) (suc j) (suc k) less = ap (λ (l : List X). x ∷ l) (twice xs j k (omega (arith, less)))

-- there is one first Data End
end_once : (tops : List Top) (j k : ℕ) (t u : Top) → At tops j t → At tops k u → t.op ≡ 15 → u.op ≡ 15 → (HasDataEnd (take j tops) → ⊥) → (HasDataEnd (take k tops) → ⊥) → j ≡ k
end_once tops j k t u at other kind same first none = elim (cases_lt j k) [
  | inl less ↦ absurd (none (has_end (take k tops) j t (at_taken tops k j t less at) kind))
  | inr more ↦ elim (cases_lt k j) [
    | inl under ↦ absurd (first (has_end (take j tops) k u (at_taken tops j k u under other) same))
    | inr less ↦ omega (arith, more, less)
  ]
]

later_first : (tops : List Top) (j k : ℕ) (t u : Top) → IsFirstOffset tops j t → IsFirstOffset tops k u → j < k → ⊥
later_first tops j k t u (at, within, kind, none) (other, inside, same, before) less =
    let has = has_behind (take k tops) j t (at_taken tops k j t less at) (subst HasDataEnd (sym (twice tops j k less)) within.0) in
    before has.0 t has.1 kind

first_once : (tops : List Top) (j k : ℕ) (t u : Top) → IsFirstOffset tops j t → IsFirstOffset tops k u → j ≡ k
first_once tops j k t u one other = elim (cases_lt j k) [
  | inl less ↦ absurd (later_first tops j k t u one other less)
  | inr more ↦ elim (cases_lt k j) [
    | inl under ↦ absurd (later_first tops k j u t other one under)
    | inr less ↦ omega (arith, more, less)
  ]
]

-- where the Footer starts behind the Data End, it is the next record
next_place : (tops : List Top) (n end : ℕ) (foot : Top) → At tops n foot → end < n → offset_of tops n ≡ offset_of tops (suc end) → n ≡ suc end
next_place tops n end foot at follows same = elim (cases_lt (suc end) n) [
  | inl less ↦
      let within = at_within tops n foot at in
      let next = note_there tops (suc end) (omega (arith, within, less)) in
      let up = offsets_rise tops (suc end) n next.0 foot next.1 at less in
      absurd (omega (arith, up, same))
  | inr upto ↦ omega (arith, follows, upto)
]

pub places_named : (tops : List Top) (n start offset : ℕ) (places : SummaryPlaces) → PlacesOf tops n places → IsStart places start → ((first : ℕ) → places.first_offset ≡ Some first → offset ≡ first) → NamesSummary tops n start offset
places_named tops n start offset places are is_start is_first = record {
  start = (
    are.end,
    are.top,
    are.at,
    are.kind,
    are.first,
    elim is_start [
      | inl there ↦ inr (there ∙ are.behind)
      | inr none ↦ inl (none.0, next_place tops n are.end are.foot are.at_foot are.follows (sym are.footer ∙ none.1 ∙ are.behind))
    ],
  );
  first_offset = λ k t at within kind none. by places.first_offset refl are.offset k t (at, within, kind, none);
}
  where
    by : (o : Option ℕ) → places.first_offset ≡ o → FirstStands tops o → (k : ℕ) (t : Top) → IsFirstOffset tops k t → offset ≡ offset_of tops k
    by (Some first) is (j, u, one, there) k t other = is_first first is ∙ there ∙ ap (offset_of tops) (first_once tops j k u t one other)
    by None is none k t other = absurd (none k t other)

pub named_start : (tops : List Top) (n start offset : ℕ) (places : SummaryPlaces) → PlacesOf tops n places → NamesSummary tops n start offset → IsStart places start
named_start tops n start offset places are names =
    let (k, t, at, kind, first, cases) = names.start in
    let same = end_once tops k are.end t are.top at are.at kind are.kind first are.first in
    elim cases [
      | inl (zero_start, next) ↦ inr (zero_start, are.footer ∙ ap (offset_of tops) (next ∙ ap suc same) ∙ sym are.behind)
      | inr there ↦ inl (there ∙ ap (λ (m : ℕ). offset_of tops (suc m)) same ∙ sym are.behind)
    ]

pub named_first : (tops : List Top) (n start offset : ℕ) (places : SummaryPlaces) → PlacesOf tops n places → NamesSummary tops n start offset → (first : ℕ) → places.first_offset ≡ Some first → offset ≡ first
named_first tops n start offset places are names first is =
    let (k, t, one, there) = subst (FirstStands tops) is are.offset in
    names.first_offset k t one.0 one.1 one.2 one.3 ∙ sym there
