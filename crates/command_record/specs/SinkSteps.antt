-- The steps of opening and keeping the watchers' sinks, and of letting go of their views.
use Rattle.std.specs.Prelude.{◌≡◌, ◌⊎◌, ℕ, ◌^◌, ◌<◌, List, [], ◌++◌, map, take, length, Bool, true, false, if◌then◌else◌, Some, Err}
use Rattle.std.specs.List.{sum}
use Rattle.std.specs.Option.{option_map}
use Rattle.mcap_io.specs.Outside.{WorldState, SourceState, SinkState, LiveState, Told, Names, Opening, added, opened}
use Rattle.mcap_io.specs.OutsideCalls.{TellsNothingYet, with_opening, Opens, OpenCause, CountsStand, Notes, NoneIsOut, OthersSame}
use Rattle.mcap_io.specs.declared.outside.ObjectKind.TheVariants as kinds
use Rattle.mcap_io.specs.declared.outside.OutsideRefused.{OutsideRefused}
use Rattle.mcap_model.specs.Places.{At, Has, Each}
use Rattle.command_base.specs.Ran.{has_failed, failed_so, world_faults}
use Rattle.command_base.specs.InputsSteps.{with_openings}
use Rattle.command_record.specs.Sources.{FeedsOpened}
use Rattle.command_record.specs.Sinks.{SinkKept, sink_keeping, sink_entry, sink_names, back_sinks, watch_faults, SinkHolds}

-- ---- names

-- each of the names stands at one place
abbrev pub AreOnce : List (List ℕ) → Type 0
AreOnce names = (m n : ℕ) (name : List ℕ) → At names m name → At names n name → m ≡ n

-- each count of the world is one of its type
pub record CountsFit (w : WorldState) : Type 0 where
  pub world : w.faults < 2 ^ 64
  pub inputs : w.input_faults < 2 ^ 64
  pub outputs : w.output_faults < 2 ^ 64
  pub watches : w.watch_faults < 2 ^ 64

-- ---- openings

-- The feeds' sources and then the output's store were given, and this is seen of the store.
pub record OutOpened (old new : WorldState) (out : List ℕ) (feeds : List (List ℕ)) (sources : List SourceState)
    (live : LiveState) : Type 0 where
  pub between : WorldState
  pub feeds_opened : FeedsOpened old between feeds sources
  pub opens : new.told ≡ option_map (λ (told : Told). with_opening told (opened kinds.Live out true)) between.told
  pub stands : CountsStand between new
  pub still : new.faults ≡ between.faults
  pub nothing : TellsNothingYet between live
  pub unused : live.faults ≡ 0
  pub fits : CountsFit old

abbrev pub given_sink : List ℕ → Opening
given_sink name = opened kinds.Sink name true

-- no sink is out, under whatever name
abbrev pub NoSinkOut : List Opening → Type 0
NoSinkOut entries = (name : List ℕ) → NoneIsOut kinds.Sink name entries

-- All sinks were given, in the order of their names, and this is seen of them.
pub record SinksOpened (old new : WorldState) (names : List (List ℕ)) (sinks : List SinkState) : Type 0 where
  pub told : (told : Told) → old.told ≡ Some told → new.told ≡ Some (with_openings told (map given_sink names))
  pub stands : CountsStand old new
  pub still : new.faults ≡ old.faults
  pub many : length sinks ≡ length names
  pub empty : (told : Told) → old.told ≡ Some told → Each (λ (s : SinkState). s.took ≡ Some []) sinks
  pub unused : Each (λ (s : SinkState). s.faults ≡ 0) sinks

-- The first of them were given, and then one was refused.
pub record SinkRefused (old new : WorldState) (names : List (List ℕ)) (sinks : List SinkState) (why : OutsideRefused)
    : Type 0 where
  pub between : WorldState
  pub first : SinksOpened old between (take (length sinks) names) sinks
  pub name : List ℕ
  pub next : At names (length sinks) name
  pub refuses : Opens {T = Unit} between new kinds.Sink name (Err why)
  pub stands : CountsStand between new
  pub cause : OpenCause {T = Unit} between.faults new.faults (Err why)

-- ---- keepings

-- what a keeping does to the names, where the world tells
pub record PlacesSink (all now : Names) (name : List ℕ) (sink : SinkState) (well : Bool) : Type 0 where
  pub others : OthersSame all now name
  pub placed : (bytes : List ℕ) → sink.took ≡ Some bytes
      → (now name ≡ Some bytes) ⊎ ((well ≡ false) × (now name ≡ all name))

-- A sink was taken back under its name; that went well, or not, and the sink or that failed, or not.
pub record OneSinkKept (old new : WorldState) (name : List ℕ) (sink : SinkState) (failed : Bool) : Type 0 where
  pub well : Bool
  pub keeps : (told : Told) → old.told ≡ Some told
      → (now : Told) × (new.told ≡ Some now) × PlacesSink told.names now.names name sink well
      × Notes told.log now.log kinds.Sink name (sink_keeping sink well)
  pub world : old.faults < 2 ^ 64 → new.faults ≡ added old.faults (if well then 0 else 1)
  pub inputs : new.input_faults ≡ old.input_faults
  pub outputs : new.output_faults ≡ old.output_faults
  pub watches : new.watch_faults ≡ added old.watch_faults sink.faults
  pub failed_is : failed ≡ failed_so well sink.faults

-- The sinks were taken back, each under its name: where their openings were the last, their entries say how, and the names
-- hold what they took. These failed.
pub record SinksKept (old new : WorldState) (names : List (List ℕ)) (sinks : List SinkState) (failed : List Bool)
    : Type 0 where
  pub kept : List SinkKept
  pub names_are : names ≡ sink_names kept
  pub sinks_are : sinks ≡ back_sinks kept
  pub told : (told : Told) (log behind : List Opening) → old.told ≡ Some told
      → told.log ≡ log ++ (map given_sink names ++ behind) → NoSinkOut behind
      → (now : Told) × (new.told ≡ Some now) × (now.log ≡ log ++ (map sink_entry kept ++ behind))
      × ((other : List ℕ) → (Has names other → ⊥) → now.names other ≡ told.names other)
      × (AreOnce names → Each (SinkHolds told.names now.names) kept)
  pub world : old.faults < 2 ^ 64 → new.faults ≡ added old.faults (world_faults (map sink_entry kept))
  pub inputs : new.input_faults ≡ old.input_faults
  pub outputs : new.output_faults ≡ old.output_faults
  pub watches : old.watch_faults < 2 ^ 64
      → new.watch_faults ≡ added old.watch_faults (watch_faults (map sink_entry kept))
  pub failed_are : failed ≡ map (λ (k : SinkKept). has_failed (sink_entry k)) kept

-- The views were let go, whose faults were so many: nothing is seen of that but in their count.
pub record ViewsLetGo (old new : WorldState) (failures : List ℕ) : Type 0 where
  pub told : new.told ≡ old.told
  pub faults : new.faults ≡ old.faults
  pub inputs : new.input_faults ≡ old.input_faults
  pub outputs : new.output_faults ≡ old.output_faults
  pub watches : old.watch_faults < 2 ^ 64 → new.watch_faults ≡ added old.watch_faults (sum failures)
