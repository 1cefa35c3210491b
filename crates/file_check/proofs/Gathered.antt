-- A Message outside of chunks.
use Rattle.std.proofs.Common.{◌≡◌, Bool, true, List, [], ◌∷◌, ◌++◌, length, sym, ap, inl, inr, ◌∙◌}
use Rattle.std.specs.Prelude.{◌↔◌}
use Rattle.mcap_model.specs.Tops.{Top}
use Rattle.mcap_model.proofs.Places.{at_kept, at_last, at_more}
use Rattle.index_check.specs.Chunks.{HasMessage}

pub has_last_message : (tops : List Top) (t : Top) → t.op ≡ 5 → HasMessage (tops ++ t ∷ [])
has_last_message tops t five = (length tops, t, at_last tops t [], five)

pub has_other : (tops : List Top) (t : Top) (b : Bool) → (t.op ≡ 5 → ⊥) → (b ≡ true) ↔ HasMessage tops → (b ≡ true) ↔ HasMessage (tops ++ t ∷ [])
has_other tops t b other was = (
  λ e. let has = was.0 e in (has.0, has.1, at_kept tops (t ∷ []) has.0 has.1 has.2, has.3),
  λ has. elim (at_more tops t has.0 has.1 has.2) [
    | inl old ↦ was.1 (has.0, has.1, old, has.3)
    | inr (_, same) ↦ absurd (other (sym (ap (λ (u : Top). u.op) same) ∙ has.3))
  ],
)
