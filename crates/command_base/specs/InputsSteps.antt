-- What the steps of this crate's functions come to, and what is proved of `Inputs`.
use Rattle.std.specs.Prelude.{◌≡◌, ℕ, ◌^◌, ◌<◌, List, [], ◌∷◌, ◌++◌, map, take, length, Bool, true, false, if◌then◌else◌, Some, Err, IsSome}
use Rattle.std.proofs.Common.{ap, subst, ◌∙◌}
use Rattle.std.specs.List.{AllZip}
use Rattle.mcap_io.specs.Outside.{WorldState, SourceState, Told, Keeping, Opening, Names, TellsName, added, opened}
use Rattle.mcap_io.specs.OutsideCalls.{Opens, OpenCause, CountsStand, NoneIsOut, Notes}
use Rattle.mcap_io.specs.Stores.{StoreState, IsUnused, TellsStore}
use Rattle.mcap_io.specs.declared.outside.ObjectKind.{ObjectKind}
use Rattle.mcap_io.specs.declared.outside.OutsideRefused.{OutsideRefused}
use Rattle.mcap_model.specs.Places.{At}
use Rattle.command_base.specs.Ran.{kept, has_failed, failed_so, input_faults, world_faults}
use Rattle.command_base.specs.Inputs.{InputKept, input_entry, names_kept, backs_of}

-- ---- objects

-- what a world notes of a source that is taken back, and of a store
abbrev pub source_keeping : SourceState → Bool → Keeping
source_keeping source well = record { well = well; faults = source.faults; left = source.left; asked = 0 }

-- what is seen of a source that was opened under the name, and of a store: the bytes there, where the world tells
pub record SourceSeen (world : WorldState) (name : List ℕ) (source : SourceState) : Type 0 where
  pub tells : TellsName world name source
  pub unused : source.faults ≡ 0

pub record StoreSeen (world : WorldState) (name : List ℕ) (store : StoreState) : Type 0 where
  pub tells : TellsStore world name store
  pub unused : IsUnused store

-- where the one world tells, the other tells of the same names
abbrev pub TellsOn : WorldState → WorldState → Type 0
TellsOn old new = (told : Told) → old.told ≡ Some told → (now : Told) × (new.told ≡ Some now) × (now.names ≡ told.names)

-- what was seen in a world was to be seen before the openings that led to it
abbrev pub SeenBefore : {X : Type 0} → (WorldState → List ℕ → X → Type 0) → Type 0
SeenBefore {X} Seen =
    (old new : WorldState) (name : List ℕ) (object : X) → TellsOn old new → Seen new name object → Seen old name object

-- so it is of sources and of stores
pub source_before : (old new : WorldState) (name : List ℕ) (source : SourceState) → TellsOn old new
    → SourceSeen new name source → SourceSeen old name source
source_before old new name source on seen = record {
  tells = λ told here.
      let now = on told here in
      let there = seen.tells now.0 now.1 in
      (there.0 ∙ ap (λ (names : Names). names name) now.2, subst (λ (names : Names). IsSome (names name)) now.2 there.1);
  unused = seen.unused;
}

pub store_before : (old new : WorldState) (name : List ℕ) (store : StoreState) → TellsOn old new
    → StoreSeen new name store → StoreSeen old name store
store_before old new name store on seen = record {
  tells = λ told here.
      let now = on told here in
      let there = seen.tells now.0 now.1 in
      (there.0 ∙ ap (λ (names : Names). names name) now.2, subst (λ (names : Names). IsSome (names name)) now.2 there.1);
  unused = seen.unused;
}

-- ---- openings

abbrev pub input_given : ObjectKind → List ℕ → Opening
input_given kind input = opened kind input true

-- the names, and the log with these openings behind
abbrev pub with_openings : Told → List Opening → Told
with_openings told entries = record { names = told.names; log = told.log ++ entries }

-- All were given, in their order, and this is seen of their objects.
pub record InputsOpened {X : Type 0} (kind : ObjectKind) (Seen : WorldState → List ℕ → X → Type 0)
    (old new : WorldState) (inputs : List (List ℕ)) (objects : List X) : Type 0 where
  pub told : (told : Told) → old.told ≡ Some told → new.told ≡ Some (with_openings told (map (input_given kind) inputs))
  pub stands : CountsStand old new
  pub still : new.faults ≡ old.faults
  pub seen : AllZip (Seen old) inputs objects

-- The first of them were given, and then one was refused.
pub record InputOpeningRefused {X : Type 0} (kind : ObjectKind) (Seen : WorldState → List ℕ → X → Type 0)
    (old new : WorldState) (inputs : List (List ℕ)) (objects : List X) (why : OutsideRefused) : Type 0 where
  pub between : WorldState
  pub first : InputsOpened kind Seen old between (take (length objects) inputs) objects
  pub name : List ℕ
  pub next : At inputs (length objects) name
  pub refuses : Opens {T = Unit} between new kind name (Err why)
  pub stands : CountsStand between new
  pub cause : OpenCause {T = Unit} between.faults new.faults (Err why)

-- ---- keepings

-- An object was taken back under an input's name; that went well, or not, and the input failed, or not.
pub record OneKept {X : Type 0} (kind : ObjectKind) (keeping : X → Bool → Keeping) (old new : WorldState)
    (input : List ℕ) (object : X) (failed : Bool) : Type 0 where
  pub well : Bool
  pub keeps : (told : Told) → old.told ≡ Some told → (now : Told) × (new.told ≡ Some now) × (now.names ≡ told.names)
      × Notes told.log now.log kind input (keeping object well)
  pub world : old.faults < 2 ^ 64 → new.faults ≡ added old.faults (if (keeping object well).well then 0 else 1)
  pub inputs : new.input_faults ≡ added old.input_faults (keeping object well).faults
  pub outputs : new.output_faults ≡ old.output_faults
  pub watches : new.watch_faults ≡ old.watch_faults
  pub failed_is : failed ≡ failed_so (keeping object well).well (keeping object well).faults

-- no object of that kind is out, under whatever name
abbrev pub NoneOut : ObjectKind → List Opening → Type 0
NoneOut kind entries = (name : List ℕ) → NoneIsOut kind name entries

-- The objects were taken back, each under its input's name: where the openings of these inputs were the last of their kind, their
-- entries say how. These failed.
pub record InputsKept {X : Type 0} (kind : ObjectKind) (keeping : X → Bool → Keeping) (old new : WorldState)
    (names : List (List ℕ)) (objects : List X) (failed : List Bool) : Type 0 where
  pub kept : List (InputKept X)
  pub names_are : names ≡ names_kept kept
  pub backs_are : objects ≡ backs_of kept
  pub told : (told : Told) (log behind : List Opening) → old.told ≡ Some told
      → told.log ≡ log ++ (map (input_given kind) names ++ behind) → NoneOut kind behind
      → (now : Told) × (new.told ≡ Some now) × (now.names ≡ told.names)
      × (now.log ≡ log ++ (map (input_entry kind keeping) kept ++ behind))
  pub world : old.faults < 2 ^ 64 → new.faults ≡ added old.faults (world_faults (map (input_entry kind keeping) kept))
  pub inputs : old.input_faults < 2 ^ 64
      → new.input_faults ≡ added old.input_faults (input_faults (map (input_entry kind keeping) kept))
  pub outputs : new.output_faults ≡ old.output_faults
  pub watches : new.watch_faults ≡ old.watch_faults
  pub failed_are : failed ≡ map (λ (k : InputKept X). has_failed (input_entry kind keeping k)) kept

-- which inputs failed, with the one that was refused
abbrev pub flags_with : List Bool → Bool → List Bool
flags_with flags true = flags ++ true ∷ []
flags_with flags false = flags
