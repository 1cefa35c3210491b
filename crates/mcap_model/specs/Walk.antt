-- The walk over the records inside a chunk.
use Rattle.std.specs.Prelude.{◌≡◌, ℕ, ◌+◌, List, ◌∷◌, [], ◌++◌, length, drop, Option, Some, None}
use Rattle.mcap_model.specs.Tops.{Top, top_bytes, records_in}
use Rattle.mcap_model.specs.Laws.{IsFound}
use Rattle.mcap_model.specs.declared.inner.Inner.{Inner}
use Rattle.mcap_model.specs.declared.inner.InnerWalk.{InnerWalk}
use Rattle.mcap_model.specs.Made.{top}

-- where a walk stands among its records
abbrev pub walk_at : InnerWalk → ℕ
walk_at walk = walk.at

-- what it has in front of it
abbrev pub walk_rest : InnerWalk → List ℕ
walk_rest walk = drop walk.at walk.records.now

-- the record that a walk gives
abbrev pub inner_top : Inner → Top
inner_top inner = top inner.op inner.content.now

-- a step gives the record in front, and stands behind it
pub record StepsOver (at : ℕ) (rest : List ℕ) (at_new : ℕ) (rest_new : List ℕ) (inner : Inner) : Type 0 where
  pub offset : inner.offset ≡ at
  pub split : rest ≡ top_bytes (inner_top inner) ++ rest_new
  pub found : IsFound (inner_top inner)
  pub first : records_in rest ≡ inner_top inner ∷ records_in rest_new
  pub behind : at_new ≡ at + length (top_bytes (inner_top inner))

abbrev pub WalkSteps : ℕ → List ℕ → ℕ → List ℕ → Option Inner → Type 0
WalkSteps at rest at_new rest_new (Some inner) = StepsOver at rest at_new rest_new inner
WalkSteps at rest at_new rest_new None = (records_in rest ≡ []) × (at_new ≡ at) × (rest_new ≡ rest)
