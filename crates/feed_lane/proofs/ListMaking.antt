-- A struct that has a marker and no bytes, as the walks of `src/trace.rt` make it. Assumes `Logic`.
use Rattle.std.proofs.Common.{List, [], ◌∷◌, refl}
use seplogic.Ra.Ura.{Ura}
use mir.Val.{Val, vstruct, vcons, vnil}
use types.Logic.{Logic}
use types.Kit.{Goal, Step, step, Item, ‵, ◌$◌, move, fjoin, fpack, feq_i}
use denote.RattleType.{RattleType, Valss}
use denote.Steps.{nothing}
use denote.Struct.Struct.{Struct, within}

-- the machine's value of a struct with no fields, and of one with this field alone
abbrev pub bare : Val
bare = vstruct vnil

abbrev pub around : Val → Val
around u = vstruct (vcons u vnil)

-- a struct of one field, whatever its name
abbrev pub of_one : RattleType → RattleType
of_one R = Struct (record { name = []; args = []; types = []; fields = R ∷ [] })

module _ {M : Type 1} {𝓤 : Ura M} {𝓛 : Logic 𝓤} {K : Type 0} {Γ : List (Item 𝓤)} {G : Goal 𝓤 𝓛.H} where
  -- who owns the field owns the struct
  pub wrap : K → (R : RattleType) (x : R.Denot) (u : Val) → Step K 𝓛 (‵ ((of_one R).own_val (x, tt) (around u ∷ [])) ∷ Γ) G (‵ (R.own_val x (u ∷ [])) ∷ Γ) G
  wrap t R x u = step (λ s.
      nothing t $ move t (1 ∷ 0 ∷ []) $ fjoin t $ feq_i t (List Val) (around u ∷ []) (around u ∷ []) refl $ fjoin t $
      fpack t (Valss (R ∷ [])) (within (record { name = []; args = []; types = []; fields = R ∷ [] }) (x, tt) (around u ∷ [])) (u ∷ [], tt) $ s)
