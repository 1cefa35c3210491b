-- Ids that are marked.
use Rattle.std.proofs.Common.{◌≡◌, ℕ, ◌<◌, Bool, true, false, eqb, List, [], ◌∷◌, ◌++◌, length, get_or, set, refl, sym, subst, inl, inr}
use Rattle.std.specs.Prelude.{◌↔◌}
use Rattle.std.proofs.lemmas.Bool.{eqb-true, eqb-false}
use Rattle.mcap_model.specs.Places.{At, Has}
use Rattle.mcap_model.proofs.Places.{at_more, at_read, at_set, at_set_same, at_set_other, has_kept, has_last}
use Rattle.index_check.specs.Ids.{AreMarked}

pub marked_more : (marks more : List Bool) (ids : List ℕ) (id : ℕ) → AreMarked marks ids → ((k : ℕ) → At marks k true ↔ At more k true) → id < length more → AreMarked (set more id true) (ids ++ id ∷ [])
marked_more marks more ids id are same within = record { marked = λ k. (has k, mark k) }
  where
    has : (k : ℕ) → At (set more id true) k true → Has (ids ++ id ∷ []) k
    has k at = elim (at_set more id k true true at) [
      | inl here ↦ subst (Has (ids ++ id ∷ [])) (sym here.0) (has_last ids id [])
      | inr there ↦ has_kept ids (id ∷ []) k ((are.marked k).0 ((same k).1 there.1))
    ]

    old : (k : ℕ) → Has ids k → At (set more id true) k true
    old k there = by (eqb k id) refl
      where
        by : (b : Bool) → eqb k id ≡ b → At (set more id true) k true
        by true is = subst (λ (n : ℕ). At (set more id true) n true) (sym (eqb-true k id is)) (at_set_same more id true within)
        by false is = at_set_other more id k true true (eqb-false k id is) ((same k).0 ((are.marked k).1 there))

    mark : (k : ℕ) → Has (ids ++ id ∷ []) k → At (set more id true) k true
    mark k there = elim (at_more ids id there.0 k there.1) [
      | inl before ↦ old k (there.0, before)
      | inr last ↦ subst (λ (n : ℕ). At (set more id true) n true) (sym last.1) (at_set_same more id true within)
    ]

pub mark_read : (marks : List Bool) (id : ℕ) (b : Bool) → id < length marks → b ≡ get_or marks id b → At marks id b
mark_read marks id b within read = subst (At marks id) (sym read) (at_read marks id b within)
