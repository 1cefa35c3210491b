-- What a watcher has written, and why it ended.
use Rattle.std.specs.Prelude.{◌≡◌, ◌⊎◌, ℕ, List, [], ◌++◌, Option, Some, None}
use Rattle.std.specs.List.{AllZip}
use Rattle.mcap_io.specs.Outside.{SinkState, RisesOnce}
use Rattle.mcap_model.specs.declared.ends.End.{End}
use Rattle.mcap_model.specs.declared.replay.Range.{Range}
use Rattle.live_entry.specs.declared.entry.Entry.{Entry}
use Rattle.live_entry.specs.Following.{Stored, IsStored}
use Rattle.live_directory.specs.Published.{entries_of, end_of}
use Rattle.live_directory.specs.Reading.{ReaderState}
use Rattle.live_watcher.specs.declared.report.WatchEnd.{WatchEnd}
use Rattle.live_watcher.specs.declared.report.WatchReport.{WatchReport}
use Rattle.live_watcher.specs.declared.report.WatchEnd.TheVariants as watch_ends
use Rattle.live_watcher.specs.Text.{SealState, undecided, sealed_by, unsealed, FrontsTextOf, WatchTextOf, WatchPartOf}

-- The fronts whose lines were written, why the watcher ended, if it did, and what is seen of its sink and its view.
pub record Written : Type 0 where
  pub fronts : List ℕ
  pub end : Option WatchEnd
  pub sink : SinkState
  pub failures : ℕ

pub record WatcherState (X : Type 0) : Type 0 where
  pub reader : ReaderState X
  pub range : Range
  pub written : Written

abbrev pub unwritten : SinkState → ℕ → Written
unwritten sink failures = record { fronts = []; end = None; sink = sink; failures = failures }

-- what a watcher came back with
abbrev pub written_by : SinkState → ℕ → WatchReport → Written
written_by sink failures report =
    record { fronts = report.fronts.items; end = Some report.end; sink = sink; failures = failures }

abbrev pub new_watcher : {X : Type 0} → ReaderState X → Range → SinkState → ℕ → WatcherState X
new_watcher reader range sink failures = record { reader = reader; range = range; written = unwritten sink failures }

-- ---- causes

-- neither the sink nor the view failed
pub record IsQuiet (before now : Written) : Type 0 where
  pub sink : now.sink.faults ≡ before.sink.faults
  pub view : now.failures ≡ before.failures

-- the sink failed once, and the view didn't; that is its count then
abbrev pub HasFailedSink : Written → Written → ℕ → Type 0
HasFailedSink before now faults = RisesOnce before.sink.faults now.sink.faults × (faults ≡ now.sink.faults)
    × (now.failures ≡ before.failures)

-- the view failed once, and the sink didn't
abbrev pub HasFailedView : Written → Written → ℕ → Type 0
HasFailedView before now faults = RisesOnce before.failures now.failures × (faults ≡ now.failures)
    × (now.sink.faults ≡ before.sink.faults)

-- the extents of these entries don't all tell bytes
abbrev pub IsUntold : {X : Type 0} → (X → Option (List ℕ)) → List (Entry X) → Type 0
IsUntold tells entries = (stored : List Stored) → AllZip (IsStored tells) entries stored → ⊥

-- ---- what was written

-- where the sink tells what it took, such a text stands behind that now
abbrev pub TakesSuchText : (List ℕ → Type 0) → Option (List ℕ) → Option (List ℕ) → Type 0
TakesSuchText P old new =
    (before : List ℕ) → old ≡ Some before → (text : List ℕ) × P text × (new ≡ Some (before ++ text))

-- Since then, when there were no fronts and no end, this was written of these blocks. Only where the sink failed may a first
-- part of a line stand at the end.
abbrev pub WritesTo : {X : Type 0} → (X → Option (List ℕ)) → Range → List (Entry X) → SealState → Written → Written
    → Option WatchEnd → Type 0
WritesTo tells range entries ending before now None =
    IsQuiet before now × TakesSuchText (FrontsTextOf tells range entries now.fronts) before.sink.took now.sink.took
WritesTo tells range entries ending before now (Some watch_ends.Whole) = IsQuiet before now
    × ((end : End) × (ending ≡ sealed_by end))
    × TakesSuchText (WatchTextOf tells range entries now.fronts ending) before.sink.took now.sink.took
WritesTo tells range entries ending before now (Some watch_ends.Unsealed) = IsQuiet before now × (ending ≡ unsealed)
    × TakesSuchText (WatchTextOf tells range entries now.fronts ending) before.sink.took now.sink.took
WritesTo tells range entries ending before now (Some (watch_ends.Fault faults)) =
    (HasFailedSink before now faults
    × TakesSuchText (WatchPartOf tells range entries now.fronts ending) before.sink.took now.sink.took)
    ⊎ (HasFailedView before now faults
    × TakesSuchText (FrontsTextOf tells range entries now.fronts) before.sink.took now.sink.took)
WritesTo tells range entries ending before now (Some (watch_ends.Flaw rule offset)) = IsQuiet before now
    × IsUntold tells entries
    × TakesSuchText (FrontsTextOf tells range entries now.fronts) before.sink.took now.sink.took
WritesTo tells range entries ending before now (Some watch_ends.Memory) = IsQuiet before now
    × TakesSuchText (FrontsTextOf tells range entries now.fronts) before.sink.took now.sink.took

abbrev pub Watches : {X : Type 0} → (X → Option (List ℕ)) → Range → List (Entry X) → SealState → Written → Written
    → Type 0
Watches tells range entries ending before now = WritesTo tells range entries ending before now now.end

-- the reader holds all blocks of a directory that was sealed so, as far as the ending says so
abbrev pub HoldsAllSealed : {X : Type 0} → ReaderState X → SealState → Type 0
HoldsAllSealed reader undecided = Unit {0}
HoldsAllSealed reader (sealed_by end) = (reader.entries ≡ entries_of reader.known) × (end_of reader.known ≡ Some end)
HoldsAllSealed reader unsealed = ⊥
