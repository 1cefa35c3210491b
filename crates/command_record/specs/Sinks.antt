-- What the openings and the keepings of the watchers' sinks do to a world, and the letting go of their views.
use Rattle.std.specs.Prelude.{◌≡◌, ◌⊎◌, ℕ, ◌+◌, List, [], ◌∷◌, map, Bool, false, Some, None}
use Rattle.mcap_io.specs.Outside.{SinkState, Names, Keeping, Opening}
use Rattle.mcap_io.specs.declared.outside.ObjectKind.{ObjectKind}
use Rattle.mcap_io.specs.declared.outside.ObjectKind.TheVariants as kinds
use Rattle.command_base.specs.Ran.{kept, object_faults}

-- a watcher's sink as the world took it back, and whether that went well
pub record SinkKept : Type 0 where
  pub name : List ℕ
  pub back : SinkState
  pub well : Bool

-- what a world notes of a sink that is taken back
abbrev pub sink_keeping : SinkState → Bool → Keeping
sink_keeping sink well = record { well = well; faults = sink.faults; left = None; asked = 0 }

-- its entry
abbrev pub sink_entry : SinkKept → Opening
sink_entry k = kept kinds.Sink k.name (sink_keeping k.back k.well)

abbrev pub sink_names : List SinkKept → List (List ℕ)
sink_names sinks = map (λ (k : SinkKept). k.name) sinks

abbrev pub back_sinks : List SinkKept → List SinkState
back_sinks sinks = map (λ (k : SinkKept). k.back) sinks

-- the faults of an object, where it is a watcher's sink
abbrev pub sink_faults : ObjectKind → ℕ → ℕ
sink_faults kinds.Source faults = 0
sink_faults kinds.Store faults = 0
sink_faults kinds.Sink faults = faults
sink_faults kinds.Live faults = 0

-- of all openings
abbrev pub watch_faults : List Opening → ℕ
watch_faults [] = 0
watch_faults (entry ∷ entries) = sink_faults entry.kind (object_faults entry.kept) + watch_faults entries

-- ---- names

-- what was left under the name of a sink that was kept: the bytes that it took, or what stood there, if the keeping failed
abbrev pub SinkHolds : Names → Names → SinkKept → Type 0
SinkHolds all now k = (bytes : List ℕ) → k.back.took ≡ Some bytes
    → (now k.name ≡ Some bytes) ⊎ ((k.well ≡ false) × (now k.name ≡ all k.name))
