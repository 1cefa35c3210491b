-- What writing one piece of a watch text comes to.
use Rattle.std.specs.Prelude.{◌≡◌, ◌⊎◌, ℕ, List, [], Option, Result, Ok, Err}
use mathlib.Core.List.{IsPrefix}
use Rattle.mcap_io.specs.Outside.{SinkState, RisesOnce, Adds, AddsPart}
use Rattle.live_entry.specs.declared.entry.Entry.{Entry}
use Rattle.mcap_model.specs.declared.refusals.ReadingRefused.{ReadingRefused}
use Rattle.mcap_model.specs.declared.refusals.ReadingRefused.TheVariants as refusals
use Rattle.live_watcher.specs.declared.report.WatchEnd.{WatchEnd}
use Rattle.live_watcher.specs.declared.report.WatchEnd.TheVariants as watch_ends
use Rattle.live_watcher.specs.Watching.{TakesSuchText, IsUntold}

-- what is seen of a sink and a view
pub record SinkAndView : Type 0 where
  pub sink : SinkState
  pub failures : ℕ

abbrev pub sink_and_view : SinkState → ℕ → SinkAndView
sink_and_view sink failures = record { sink = sink; failures = failures }

-- nothing, or a first part of such a piece
abbrev pub IsPartOf : (List ℕ → Type 0) → List ℕ → Type 0
IsPartOf P part = (part ≡ []) ⊎ ((piece : List ℕ) × P piece × IsPrefix part piece)

-- such a piece was taken, and nothing failed
pub record PutsAll (P : List ℕ → Type 0) (before now : SinkAndView) : Type 0 where
  pub sink : now.sink.faults ≡ before.sink.faults
  pub view : now.failures ≡ before.failures
  pub takes : TakesSuchText P before.sink.took now.sink.took

-- the view failed, or what it reads has a flaw, or memory lacked
abbrev pub MakingFails : {X : Type 0} → (X → Option (List ℕ)) → List (Entry X) → ℕ → ℕ → WatchEnd → Type 0
MakingFails tells entries before now (watch_ends.Fault faults) = RisesOnce before now × (faults ≡ now)
MakingFails tells entries before now (watch_ends.Flaw rule offset) = (now ≡ before) × IsUntold tells entries
MakingFails tells entries before now watch_ends.Memory = now ≡ before
MakingFails tells entries before now watch_ends.Whole = ⊥
MakingFails tells entries before now watch_ends.Unsealed = ⊥

-- the sink failed
pub record SinkFails (before now : SinkAndView) (why : WatchEnd) : Type 0 where
  pub rises : RisesOnce before.sink.faults now.sink.faults
  pub why_is : why ≡ watch_ends.Fault now.sink.faults
  pub view : now.failures ≡ before.failures

-- A piece was taken; or a part of it, until the sink failed; or nothing of it, since it couldn't be made.
abbrev pub PutsPiece : {X : Type 0} → (X → Option (List ℕ)) → List (Entry X) → (List ℕ → Type 0) → SinkAndView
    → SinkAndView → Result Unit WatchEnd → Type 0
PutsPiece tells entries P before now (Ok it) = PutsAll P before now
PutsPiece tells entries P before now (Err why) = (SinkFails before now why × TakesSuchText (IsPartOf P) before.sink.took now.sink.took)
    ⊎ ((now.sink ≡ before.sink) × MakingFails tells entries before.failures now.failures why)

-- bytes were taken; or a part of them, until the sink failed
abbrev pub PutsBytes : SinkState → SinkState → List ℕ → Result Unit WatchEnd → Type 0
PutsBytes before now bytes (Ok it) = (now.faults ≡ before.faults) × Adds before.took now.took bytes
PutsBytes before now bytes (Err why) =
    RisesOnce before.faults now.faults × (why ≡ watch_ends.Fault now.faults) × AddsPart before.took now.took 0 bytes

-- why a watcher ends whose replay was refused
abbrev pub IsEndedBy : ReadingRefused → WatchEnd → Type 0
IsEndedBy (refusals.Fault faults) end = end ≡ watch_ends.Fault faults
IsEndedBy (refusals.Grammar offset rule) end = end ≡ watch_ends.Flaw rule offset
IsEndedBy (refusals.Compressed offset name) end = ⊥
IsEndedBy (refusals.Limit offset) end = ⊥
IsEndedBy refusals.Memory end = end ≡ watch_ends.Memory
