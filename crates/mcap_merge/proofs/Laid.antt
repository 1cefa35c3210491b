-- Lists that are made of records which stand one behind the other.
use Rattle.std.proofs.Common.{◌≡◌, ℕ, ◌+◌, List, [], ◌∷◌, ◌++◌, length, refl, sym, ap, subst, inl, inr, arith}
use Rattle.std.proofs.lemmas.List.{length-append}
use Rattle.mcap_model.specs.Places.{At, Has}
use Rattle.mcap_model.specs.Tops.{Top, top_bytes, spelled}
use Rattle.mcap_model.proofs.Places.{at_none, has_kept}
use Rattle.mcap_model.proofs.Members.{has_either, has_second}

-- it is made of one of the records, and of where that stands
pub record LaidBy {X : Type 0} (one : ℕ → Top → List X) (at : ℕ) (tops : List Top) (x : X) : Type 0 where
  pub front : List Top
  pub top : Top
  pub back : List Top
  pub split : tops ≡ front ++ top ∷ back
  pub has : Has (one (at + length (spelled front)) top) x

module _ {X : Type 0} (one : ℕ → Top → List X) (all : ℕ → List Top → List X) (none : (at : ℕ) → all at [] ≡ []) (more : (at : ℕ) (t : Top) (ts : List Top) → all at (t ∷ ts) ≡ one at t ++ all (at + length (top_bytes t)) ts) where
  pub laid : (at : ℕ) (tops : List Top) (x : X) → Has (all at tops) x → LaidBy one at tops x
  laid at [] x has = absurd (at_none has.0 x (subst (λ (l : List X). At l has.0 x) (none at) has.1))
  laid at (t ∷ ts) x has = elim (has_either (one at t) (all (at + length (top_bytes t)) ts) x (subst (λ (l : List X). Has l x) (more at t ts) has)) [
    | inl here ↦
        let same : at ≡ at + 0 = omega arith in
        record { front = []; top = t; back = ts; split = refl; has = subst (λ (n : ℕ). Has (one n t) x) same here }
    | inr later ↦
        let f = laid (at + length (top_bytes t)) ts x later in
        let same : at + length (top_bytes t) + length (spelled f.front) ≡ at + length (spelled (t ∷ f.front)) = omega (arith, length-append (top_bytes t) (spelled f.front)) in
        record { front = t ∷ f.front; top = f.top; back = f.back; split = ap (λ (l : List Top). t ∷ l) f.split; has = subst (λ (n : ℕ). Has (one n f.top) x) same f.has }
  ]

  pub lies : (at : ℕ) (front : List Top) (t : Top) (back : List Top) (x : X) → Has (one (at + length (spelled front)) t) x → Has (all at (front ++ t ∷ back)) x
  lies at [] t back x has =
      let same : at + 0 ≡ at = omega arith in
      subst (λ (l : List X). Has l x) (sym (more at t back)) (has_kept (one at t) (all (at + length (top_bytes t)) back) x (subst (λ (n : ℕ). Has (one n t) x) same has))
  lies at (u ∷ us) t back x has =
      let same : at + length (spelled (u ∷ us)) ≡ at + length (top_bytes u) + length (spelled us) = omega (arith, length-append (top_bytes u) (spelled us)) in
      let later = lies (at + length (top_bytes u)) us t back x (subst (λ (n : ℕ). Has (one n t) x) same has) in
      subst (λ (l : List X). Has l x) (sym (more at u (us ++ t ∷ back))) (has_second (one at u) (all (at + length (top_bytes u)) (us ++ t ∷ back)) x later)
