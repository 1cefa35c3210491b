-- What stands where behind a data section.
use Rattle.std.proofs.Common.{◌≡◌, ℕ, zero, suc, ◌+◌, ◌-◌, ◌<◌, ◌≤◌, Bool, false, List, [], ◌∷◌, ◌++◌, length, take, drop, sym, ap, subst, inl, inr, ◌∙◌, append_assoc, arith}
use Rattle.std.specs.Prelude.{if◌then◌else◌}
use Rattle.std.proofs.lemmas.Bool.{both_ways, cases_lt, ne_eqb, eq-eqb}
use Rattle.std.proofs.lemmas.List.{length-append, length-drop, length-take, take-append-le}
use Rattle.std.proofs.lemmas.Grind.{flat_map-append}
use Rattle.mcap_wire.specs.declared.faults.Cut.{Cut}
use Rattle.mcap_model.specs.Places.{At}
use Rattle.mcap_model.specs.Tops.{Top, top_bytes, spelled, offset_behind}
use Rattle.mcap_model.specs.Rules.{HasDataEnd, stands_in_section}
use Rattle.mcap_model.specs.Whole.{offset_of, InSummary, behind_end}
use Rattle.mcap_model.specs.Plain.{cut_top}
use Rattle.mcap_model.proofs.Flat.{at_mapped}
use Rattle.mcap_model.proofs.Places.{at_within, at_kept, at_last}
use Rattle.mcap_model.proofs.Lists.{at_either, at_second, take_second}
use Rattle.mcap_model.proofs.Readings.{length-top}
use Rattle.mcap_model.proofs.TakenRecords.{ended_front, ended_more, spelled_more}
use Rattle.mcap_model.proofs.OneMore.{taken_more}
use Rattle.summary_read.specs.PartSteps.{cut_tops}
use Rattle.summary_check.specs.Laid.{all_of, EndsWithDataEnd, IsFrontRecord, Laid}
use Rattle.summary_check.proofs.Onward.{length-tops}

-- ---- Data Ends

pub end_taken : (xs : List Top) (n : ℕ) → HasDataEnd (take n xs) → HasDataEnd xs
end_taken xs zero has = absurd has
end_taken [] (suc n) has = absurd has
end_taken (x ∷ xs) (suc n) (inl here) = inl here
end_taken (x ∷ xs) (suc n) (inr later) = inr (end_taken xs n later)

pub has_end : (tops : List Top) → EndsWithDataEnd tops → HasDataEnd tops
has_end tops e = subst HasDataEnd (sym e.joined) (ended_more e.section e.end e.kind)

behind_last : (xs : List Top) (end : Top) (rest : List Top) → end.op ≡ 15 → (HasDataEnd xs → ⊥) → behind_end (xs ++ end ∷ rest) ≡ rest
behind_last [] end rest kind none = ap (λ (b : Bool). if b then rest else behind_end rest) (eq-eqb end.op 15 kind)
behind_last (x ∷ xs) end rest kind none =
    ap (λ (b : Bool). if b then xs ++ end ∷ rest else behind_end (xs ++ end ∷ rest)) (ne_eqb x.op 15 (λ e. none (inl e)))
    ∙ behind_last xs end rest kind (λ e. none (inr e))

pub behind_ended : (tops rest : List Top) → EndsWithDataEnd tops → behind_end (tops ++ rest) ≡ rest
behind_ended tops rest e =
    ap (λ (l : List Top). behind_end (l ++ rest)) e.joined ∙ ap behind_end (append_assoc e.section (e.end ∷ []) rest) ∙ behind_last e.section e.end rest e.kind e.unended

-- in front of a record of the section stands no Data End
pub unended_front : (tops more : List Top) (n : ℕ) → EndsWithDataEnd tops → n < length tops → HasDataEnd (take n (tops ++ more)) → ⊥
unended_front tops more n e less has =
    let size = ap length e.joined in
    let few : n ≤ length e.section = omega (arith, less, size, length-append e.section (e.end ∷ [])) in
    let front : take n (tops ++ more) ≡ take n e.section =
    take-append-le n tops more (omega (arith, less)) ∙ ap (take n) e.joined ∙ take-append-le n e.section (e.end ∷ []) few in
    let unended = e.unended in
    unended (end_taken e.section n (subst HasDataEnd front has))

pub front_not : (t : Top) (k : ℕ) → IsFrontRecord t → (k ≡ 1 → ⊥) → stands_in_section k ≡ false → t.op ≡ k → ⊥
front_not t k (inl header) other none same = other (sym same ∙ header)
front_not t k (inr stands) other none same = both_ways (stands_in_section k) none (ap stands_in_section (sym same) ∙ stands)

-- ---- places

module _ (tops body : List Top) (foot : Top) where
  pub length-all : length (all_of tops body foot) ≡ suc (length tops + length body)
  length-all = omega (arith, length-append tops (body ++ foot ∷ []), length-append body (foot ∷ []))

  pub body_there : (k : ℕ) (t : Top) → At body k t → At (all_of tops body foot) (length tops + k) t
  body_there k t at = at_second tops (body ++ foot ∷ []) k t (at_kept body (foot ∷ []) k t at)

  pub foot_there : At (all_of tops body foot) (length tops + length body) foot
  foot_there = at_second tops (body ++ foot ∷ []) (length body) foot (at_last body foot [])

  pub body_back : (k : ℕ) (t : Top) → k < length body → At (all_of tops body foot) (length tops + k) t → At body k t
  body_back k t less at = elim (at_either tops (body ++ foot ∷ []) (length tops + k) t at) [
    | inl first ↦ let within = at_within tops (length tops + k) t first in absurd (omega (arith, within))
    | inr (m, there, second) ↦
        let same : m ≡ k = omega (arith, there) in
        elim (at_either body (foot ∷ []) k t (subst (λ (n : ℕ). At (body ++ foot ∷ []) n t) same second)) [
          | inl here ↦ here
          | inr (q, past, _) ↦ absurd (omega (arith, past, less))
        ]
  ]

  pub before_body : (k : ℕ) → k ≤ length body → take (length tops + k) (all_of tops body foot) ≡ tops ++ take k body
  before_body k few = take_second tops (body ++ foot ∷ []) k ∙ ap (λ (l : List Top). tops ++ l) (take-append-le k body (foot ∷ []) few)

  module _ (ended : EndsWithDataEnd tops) where
    pub body_within : (k : ℕ) → k < length body → InSummary (all_of tops body foot) (length tops + k)
    body_within k less = (
      subst HasDataEnd (sym (before_body k (omega (arith, less)))) (ended_front tops (take k body) (has_end tops ended)),
      omega (arith, less, length-all),
    )

    pub within_body : (n : ℕ) → InSummary (all_of tops body foot) n → (k : ℕ) × (n ≡ length tops + k) × (k < length body)
    within_body n within = elim (cases_lt n (length tops)) [
      | inl front ↦ absurd (unended_front tops (body ++ foot ∷ []) n ended front within.0)
      | inr past ↦ (n - length tops, omega (arith, past), (let room = within.1 in omega (arith, past, room, length-all)))
    ]

    pub behind_body : (k : ℕ) → k ≤ length body → behind_end (take (length tops + k) (all_of tops body foot)) ≡ take k body
    behind_body k few = ap behind_end (before_body k few) ∙ behind_ended tops (take k body) ended

-- ---- offsets

module _ (tops : List Top) (bytes : List ℕ) (cuts : List Cut) (start : ℕ) (foot : Top) (laid : Laid tops bytes cuts start) where
  pub offset_before : (k : ℕ) → k ≤ length cuts → offset_of (all_of tops (cut_tops bytes cuts) foot) (length tops + k) ≡ start + length (spelled (take k (cut_tops bytes cuts)))
  offset_before k few =
      let body = cut_tops bytes cuts in
      let front = ap offset_behind (before_body tops body foot k (omega (arith, few, length-tops bytes cuts))) in
      let parts = ap length (flat_map-append top_bytes tops (take k body)) in
      omega (arith, front, parts, length-append (spelled tops) (spelled (take k body)), laid.there)

  pub offset_cut : (k : ℕ) (c : Cut) → At cuts k c → offset_of (all_of tops (cut_tops bytes cuts) foot) (length tops + k) ≡ start + (c.from - 9)
  offset_cut k c at =
      let within = at_within cuts k c at in
      let placed = laid.placed k c at in
      omega (arith, offset_before k (omega (arith, within)), placed)

  pub offset_behind_cut : (k : ℕ) (c : Cut) → At cuts k c → offset_of (all_of tops (cut_tops bytes cuts) foot) (suc (length tops + k)) ≡ start + c.to
  offset_behind_cut k c at =
      let body = cut_tops bytes cuts in
      let t = cut_top bytes c in
      let within = at_within cuts k c at in
      let placed = laid.placed k c at in
      let inside = laid.inside k c at in
      let more = taken_more body k t (at_mapped (cut_top bytes) cuts k c at) in
      let text = ap length (ap spelled more ∙ spelled_more (take k body) t) in
      let size : length t.content ≡ c.to - c.from = omega (arith, length-take (c.to - c.from) (drop c.from bytes), length-drop c.from bytes, inside.1) in
      let next : suc (length tops + k) ≡ length tops + (k + 1) = omega arith in
      ap (offset_of (all_of tops body foot)) next
      ∙ omega (arith, offset_before (k + 1) (omega (arith, within)), text, length-append (spelled (take k body)) (top_bytes t), length-top t, size, placed, inside.0)
