-- What a recording, with any number of watchers, does to the names of the feeds, of the output and of the watch files, and what it came to.
use Rattle.std.specs.Prelude.{◌≡◌, ◌⊎◌, ℕ, ◌+◌, ◌≤◌, ◌||◌, List, [], ◌∷◌, ◌++◌, map, Bool, true, false, Option, Some, None}
use Rattle.std.specs.List.{AllZip, sum, concat}
use Rattle.mcap_io.specs.Outside.{Rose, RisesOnce, added, WorldState, SourceState, LiveState, Told, Opening, TellsName}
use Rattle.mcap_io.specs.declared.outside.ObjectKind.TheVariants as kinds
use Rattle.mcap_model.specs.declared.replay.Range.{Range}
use Rattle.mcap_model.specs.Places.{Has, Each}
use Rattle.live_directory.specs.Published.{at_most_one}
use Rattle.mcap_model.specs.declared.options.RecordOptions.{RecordOptions}
use Rattle.recorder.specs.declared.report.Report.{Report}
use Rattle.recorder.specs.Recorded.{sides, Recorded, AreReadable}
use Rattle.live_watcher.specs.declared.report.WatchReport.{WatchReport}
use Rattle.live_watcher.specs.declared.report.WatchEnd.{WatchEnd}
use Rattle.live_watcher.specs.declared.report.WatchEnd.TheVariants as watch_ends
use Rattle.live_recording.specs.Watched.{Watch, AsksViews}
use Rattle.live_recording.specs.Files.{IsWatchedFile, HasWatchForm}
use Rattle.command_base.specs.Ran.{Wanted, wanted, CountsKept, has_failed}
use Rattle.command_base.specs.Outputs.{inputs_and_output}
use Rattle.command_record.specs.Record.{FeedKept, feed_entry, live_entry, feed_names_kept, back_sources, OutputHolds, Unreported}
use Rattle.command_record.specs.Sinks.{SinkKept, sink_entry, sink_names, back_sinks, watch_faults, SinkHolds}

-- ---- what is asked, and what is reported

-- the names of the output, of the watch files and of the feeds
pub record Named : Type 0 where
  pub out : List ℕ
  pub watches : List (List ℕ)
  pub feeds : List (List ℕ)

-- how it is recorded, of which times watchers replay the messages, and the names
pub record Requested : Type 0 where
  pub options : RecordOptions
  pub range : Range
  pub names : Named

abbrev pub named : List ℕ → List (List ℕ) → List (List ℕ) → Named
named out watches feeds = record { out = out; watches = watches; feeds = feeds }

abbrev pub requested : RecordOptions → Range → List ℕ → List (List ℕ) → List (List ℕ) → Requested
requested options range out watches feeds = record { options = options; range = range; names = named out watches feeds }

-- what the recorder reported, whether the directory was sealed, and what the watchers did
pub record Reporting : Type 0 where
  pub report : Report
  pub sealed : Bool
  pub watches : List WatchReport

abbrev pub reported_with : Report → Bool → List WatchReport → Reporting
reported_with report sealed watches = record { report = report; sealed = sealed; watches = watches }

-- ---- names

-- the feeds, then the output, and then the watch files
abbrev pub wanted_names : List ℕ → List (List ℕ) → List (List ℕ) → List Wanted
wanted_names out watches feeds =
    wanted (inputs_and_output kinds.Source feeds out) ++ map (λ (name : List ℕ). (kinds.Sink, name)) watches

-- a live store or a sink was given under that name
pub record IsWrittenBeside (entries : List Opening) (name : List ℕ) : Type 0 where
  pub entry : Opening
  pub there : Has entries entry
  pub written : (entry.kind ≡ kinds.Live) ⊎ (entry.kind ≡ kinds.Sink)
  pub given : entry.given ≡ true
  pub named : entry.name ≡ name

-- Where the world tells, it goes on telling: these openings stand behind those before, and a name that isn't written holds
-- what it held.
abbrev pub LeavesBeside : WorldState → WorldState → List Opening → Type 0
LeavesBeside old new entries = (told : Told) → old.told ≡ Some told
    → (now : Told) × (new.told ≡ Some now) × (now.log ≡ told.log ++ entries)
    × ((name : List ℕ) → (IsWrittenBeside entries name → ⊥) → now.names name ≡ told.names name)

-- the world counted its own failures, the faults of what it took back, and those of the views that were let go
pub record CountsBeside (old new : WorldState) (entries : List Opening) (failures : ℕ) : Type 0 where
  pub kept : CountsKept old new entries
  pub watches : new.watch_faults ≡ added old.watch_faults (watch_faults entries + failures)

-- ---- why a watcher ended

-- Its sink failed once, or its view did, and that is its count then; or the store gave it no view, since it failed, and that
-- is the store's.
abbrev pub FaultCause : LiveState → LiveState → Watch → ℕ → Type 0
FaultCause before now w faults = (RisesOnce w.before.faults w.now.faults × (faults ≡ w.now.faults) × (w.view ≡ Some 0))
    ⊎ ((RisesOnce 0 faults × (w.view ≡ Some faults) × (w.now.faults ≡ w.before.faults))
    ⊎ ((w.view ≡ None) × (w.now ≡ w.before) × Rose before.faults faults × (faults ≤ now.faults)))

-- its sink didn't fail, nor did its view
abbrev pub IsCalm : Watch → Type 0
IsCalm w = (w.view ≡ Some 0) × (w.now.faults ≡ w.before.faults)

-- What the end of a watcher's report says of the counts, where the store was asked for the views between these two states: it
-- ended at a fault exactly where one of them rose. It wrote the end of a directory that was sealed, and that there is none of one
-- that wasn't.
abbrev pub EndsSo : LiveState → LiveState → Bool → Watch → WatchEnd → Type 0
EndsSo before now sealed w (watch_ends.Fault faults) = FaultCause before now w faults
EndsSo before now sealed w watch_ends.Whole = IsCalm w × (sealed ≡ true)
EndsSo before now sealed w watch_ends.Unsealed = IsCalm w × (sealed ≡ false)
EndsSo before now sealed w (watch_ends.Flaw rule offset) = IsCalm w
EndsSo before now sealed w watch_ends.Memory = IsCalm w

-- ---- which watchers failed

-- the faults of the views that were given
abbrev pub view_faults : List Watch → ℕ
view_faults watches = sum (concat (map (λ (w : Watch). at_most_one w.view) watches))

abbrev pub is_watch_fault : WatchEnd → Bool
is_watch_fault (watch_ends.Fault faults) = true
is_watch_fault watch_ends.Whole = false
is_watch_fault watch_ends.Unsealed = false
is_watch_fault (watch_ends.Flaw rule offset) = false
is_watch_fault watch_ends.Memory = false

abbrev pub is_flaw : WatchEnd → Bool
is_flaw watch_ends.Whole = false
is_flaw watch_ends.Unsealed = false
is_flaw (watch_ends.Fault faults) = false
is_flaw (watch_ends.Flaw rule offset) = true
is_flaw watch_ends.Memory = false

-- which of the answers are that a watch file failed, or that its watcher ended at a fault
abbrev pub with_ends : List Bool → List WatchReport → List Bool
with_ends [] reports = []
with_ends (failed ∷ more) [] = failed ∷ with_ends more []
with_ends (failed ∷ more) (report ∷ reports) = (failed || is_watch_fault report.end) ∷ with_ends more reports

-- the same of these openings, with the reports on their watchers, as far as there are some
abbrev pub watch_flags : List Opening → List WatchReport → List Bool
watch_flags entries reports = with_ends (map has_failed entries) reports

-- ---- with a report

-- The feeds' sources were recorded into the output's store, beside watchers.
pub record ReportedBeside (request : Requested) (old new : WorldState) (entries : List Opening) (failures : ℕ)
    (did : Reporting) : Type 0 where
  -- as the world gave them and as it took them back, in the order of the words, and whether that went well
  pub given : List SourceState
  pub kept_feeds : List FeedKept
  pub names_are : request.names.feeds ≡ feed_names_kept kept_feeds
  pub live : LiveState
  -- as it was when it had been asked for the watchers' views
  pub viewed : LiveState
  pub live_now : LiveState
  pub live_kept : Bool
  -- what was read of the sources, which history their reports and that of the writer describe, and what the store holds of it
  pub recorded : Recorded request.options (sides given viewed) (sides (back_sources kept_feeds) live_now) did.report
  -- each source told the bytes under its feed's name, which is there, where the world tells
  pub tells : AllZip (TellsName old) request.names.feeds given
  pub unused : Each (λ (s : SourceState). s.faults ≡ 0) given
  pub live_unused : live.faults ≡ 0
  -- the sinks as the world took them back, in the order of their names, and their watchers
  pub kept_sinks : List SinkKept
  pub watches_are : request.names.watches ≡ sink_names kept_sinks
  pub seen : List Watch
  pub asked : AsksViews live seen viewed
  pub sinks_are : map (λ (w : Watch). w.now) seen ≡ back_sinks kept_sinks
  pub reports_are : did.watches ≡ map (λ (w : Watch). w.report) seen
  pub failures_are : failures ≡ view_faults seen
  pub sinks_unused : Each (λ (w : Watch). w.before.faults ≡ 0) seen
  pub sinks_empty : (told : Told) → old.told ≡ Some told → Each (λ (w : Watch). w.before.took ≡ Some []) seen
  -- each watcher ended with its cause
  pub ends : Each (λ (w : Watch). EndsSo live viewed did.sealed w w.report.end) seen
  -- without watchers there is none to be told of the end
  pub unwatched : request.names.watches ≡ [] → did.sealed ≡ true
  pub sealed_ends : did.sealed ≡ true → Each (λ (w : Watch). w.report.end ≡ watch_ends.Unsealed → ⊥) seen
  pub fault_cause : Each
      (λ (w : Watch). is_watch_fault w.report.end ≡ true → Rose old.output_faults new.output_faults ⊎ Rose old.watch_faults new.watch_faults)
      seen
  -- and then the output's name holds the file of that history
  pub file : (told now : Told) → old.told ≡ Some told → new.told ≡ Some now
      → OutputHolds request.options.file recorded.history did.report.writer live_kept (told.names request.names.out)
      (now.names request.names.out)
  -- and the watch files what the watchers' sinks took, which is of that history's blocks, whether they were told of the end or not
  pub placed : (told now : Told) → old.told ≡ Some told → new.told ≡ Some now
      → Each (SinkHolds told.names now.names) kept_sinks
  pub texts : (told : Told) → old.told ≡ Some told → AreReadable request.options.file
      → Each (IsWatchedFile request.options.file request.range recorded.history did.report.writer did.sealed) seen
  -- which in every world has the form of a watch file: lines of fronts, and then the end that its report names
  pub forms : Each (HasWatchForm did.report.writer did.sealed) seen
  -- there no watcher finds a flaw
  pub unflawed : (told : Told) → old.told ≡ Some told → Each (λ (w : Watch). is_flaw w.report.end ≡ false) seen
  pub kept_are : entries
      ≡ map feed_entry kept_feeds ++ live_entry request.names.out live_now live_kept ∷ map sink_entry kept_sinks

-- ---- without a report

-- Nothing was read from the feeds and nothing written: the watch files hold what they held, or nothing, as the output does.
pub record UnreportedBeside (out : List ℕ) (watches : List (List ℕ)) (old new : WorldState) (entries : List Opening)
    (failures : ℕ) : Type 0 where
  pub same : Unreported out old new entries
  pub sinks : watch_faults entries ≡ 0
  pub views : failures ≡ 0
  pub watch_files : (told now : Told) → old.told ≡ Some told → new.told ≡ Some now
      → Each (λ (name : List ℕ). (now.names name ≡ told.names name) ⊎ (now.names name ≡ Some [])) watches
