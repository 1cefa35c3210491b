-- What the openings and the keepings of several inputs do to a world, whatever they are opened as.
use Rattle.std.specs.Prelude.{ℕ, List, map, Bool, None}
use Rattle.mcap_io.specs.Outside.{Keeping, Opening}
use Rattle.mcap_io.specs.Stores.{StoreState}
use Rattle.mcap_io.specs.declared.outside.ObjectKind.{ObjectKind}
use Rattle.command_base.specs.Ran.{kept}

-- ---- objects

abbrev pub store_keeping : StoreState → Bool → Keeping
store_keeping store well = record { well = well; faults = store.faults; left = None; asked = store.asked }

-- ---- keepings

-- an input's object as the world took it back, and whether that went well
pub record InputKept (X : Type 0) : Type 0 where
  pub name : List ℕ
  pub back : X
  pub well : Bool

-- its entry
abbrev pub input_entry : {X : Type 0} → ObjectKind → (X → Bool → Keeping) → InputKept X → Opening
input_entry kind keeping k = kept kind k.name (keeping k.back k.well)

abbrev pub names_kept : {X : Type 0} → List (InputKept X) → List (List ℕ)
names_kept {X} inputs = map (λ (k : InputKept X). k.name) inputs

abbrev pub backs_of : {X : Type 0} → List (InputKept X) → List X
backs_of {X} inputs = map (λ (k : InputKept X). k.back) inputs
