-- Log times that rise, one more after the other.
use Rattle.std.proofs.Common.{◌≡◌, ℕ, ◌<◌, ◌≤◌, List, [], ◌∷◌, ◌++◌, length, get_or, refl, sym, ap, subst, ◌∙◌, inl, inr, arith}
use Rattle.std.specs.Prelude.{slice_index}
use Rattle.std.proofs.lemmas.Bool.{cases_lt}
use Rattle.std.proofs.lemmas.List.{length-append, get_or_at, get_or_append_left}
use Rattle.mcap_model.specs.declared.replay.Shown.{Shown}
use Rattle.play_clock.specs.Times.{times_of, TimesRise}

-- they rise, and none is above the last
pub record RiseUpTo (times : List ℕ) (last : ℕ) : Type 0 where
  pub rise : TimesRise times
  pub below : (k : ℕ) → k < length times → slice_index times k ≤ last

rise_more : (times : List ℕ) (last next : ℕ) → RiseUpTo times last → last ≤ next → RiseUpTo (times ++ next ∷ []) next
rise_more times last next was le = record {
  rise = λ i j order within. elim (cases_lt j (length times)) [
    | inl old ↦
        let both = was.rise i j order old in
        omega (arith, both, kept i (omega (arith, order, old)), kept j old)
    | inr new ↦
        let at : j ≡ length times = omega (arith, new, within, length-append times (next ∷ [])) in
        let most = below i (omega (arith, order, within)) in
        omega (arith, most, ends j at)
  ];
  below = below;
}
  where
    kept : (k : ℕ) → k < length times → slice_index (times ++ next ∷ []) k ≡ slice_index times k
    kept k less = get_or_append_left times (next ∷ []) 0 k less

    ends : (k : ℕ) → k ≡ length times → slice_index (times ++ next ∷ []) k ≡ next
    ends k is = get_or_at times next [] 0 k (sym is)

    below : (k : ℕ) → k < length (times ++ next ∷ []) → slice_index (times ++ next ∷ []) k ≤ next
    below k less = elim (cases_lt k (length times)) [
      | inl old ↦ let most = was.below k old in omega (arith, most, le, kept k old)
      | inr new ↦
          let at : k ≡ length times = omega (arith, new, less, length-append times (next ∷ [])) in
          omega (arith, ends k at)
    ]

times_more : (shown : List Shown) (s : Shown) → times_of (shown ++ s ∷ []) ≡ times_of shown ++ s.log_time ∷ []
times_more [] s = refl
times_more (x ∷ xs) s = ap (λ (l : List ℕ). x.log_time ∷ l) (times_more xs s)

pub rise_none : RiseUpTo (times_of []) 0
rise_none = record {
  rise = λ i j order within. absurd (omega (arith, within));
  below = λ k less. absurd (omega (arith, less));
}

-- one message more, logged then
pub rise_on : (shown : List Shown) (last : ℕ) (s : Shown) → RiseUpTo (times_of shown) last → last ≤ s.log_time → RiseUpTo (times_of (shown ++ s ∷ [])) s.log_time
rise_on shown last s was le = subst (λ (l : List ℕ). RiseUpTo l s.log_time) (sym (times_more shown s)) (rise_more (times_of shown) last s.log_time was le)
