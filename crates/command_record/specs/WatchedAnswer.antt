-- What a recording promises, with any number of watchers: how it ends, what standard error is told, and which names are blamed.
use Rattle.std.specs.Prelude.{◌≡◌, ◌⊎◌, ◌↔◌, ◌≤◌, ◌<◌, ◌-◌, ◌^◌, ◌||◌, not, ℕ, List, [], ◌∷◌, ◌++◌, map, length, Bool, true, false, if◌then◌else◌, Option, Some, None}
use Rattle.std.specs.List.{list_any, AllZip}
use Rattle.mcap_io.specs.Outside.{Rose, WorldState, SinkState, Told, Opening}
use Rattle.mcap_io.specs.declared.outside.ObjectKind.TheVariants as kinds
use Rattle.mcap_model.specs.Places.{Each}
use Rattle.mcap_model.specs.Kept.{Halt}
use Rattle.feed_lane.specs.declared.report.FeedReport.{FeedReport}
use Rattle.mcap_model.specs.declared.options.RecordOptions.{RecordOptions}
use Rattle.recorder.specs.declared.report.Report.{Report}
use Rattle.live_watcher.specs.declared.report.WatchEnd.{WatchEnd}
use Rattle.live_watcher.specs.declared.report.WatchEnd.TheVariants as watch_ends
use Rattle.live_watcher.specs.declared.report.WatchReport.{WatchReport}
use Rattle.command_base.specs.declared.statuses.Status.{Status}
use Rattle.command_base.specs.declared.statuses.Status.TheVariants as statuses
use Rattle.command_base.specs.Printing.{Takes}
use Rattle.command_base.specs.Texts.{Trouble, fault, output_fault, output_limit, flaw, no_memory, halt_status}
use Rattle.command_base.specs.Ran.{Scene, counted_faults, AnyRose, CountsOn, AreOpened, has_failed, failed_names, blamed_names, BlamesOutput, when, told_of, Complains}
use Rattle.command_record.specs.declared.watched_answer.WatchedCounts.{WatchedCounts}
use Rattle.command_record.specs.declared.recording.RecordingReport.{RecordingReport}
use Rattle.recorder.specs.Findings.{limit_passed, passes_limit, lacks_memory}
use Rattle.command_record.specs.Record.{ends_of, reports_in, end_status, worst, report_text, RecordsAll, FeedHalts, SparesOutput}
use Rattle.command_base.specs.Outputs.{inputs_and_output, failed_of, some_failed}
use Rattle.command_record.specs.Watched.{Named, Requested, reported_with, wanted_names, LeavesBeside, CountsBeside, ReportedBeside, UnreportedBeside, watch_flags}

-- ---- counts of faults

-- the count of the watchers' sinks and views: without watchers there is none that rises
abbrev pub counted_watches : List (List ℕ) → ℕ → ℕ
counted_watches [] faults = 0
counted_watches (watch ∷ watches) faults = faults

-- the counts that every command has, and that of the watchers' sinks and views
abbrev pub watched_counts : List (List ℕ) → WorldState → SinkState → WatchedCounts
watched_counts watches world out =
    record { seen = counted_faults world out; watches = counted_watches watches world.watch_faults }

abbrev pub watched_counts_in : List (List ℕ) → Scene → WatchedCounts
watched_counts_in watches s = watched_counts watches s.world s.out

-- one of the five has risen
abbrev pub AnyCountRose : WatchedCounts → WatchedCounts → Type 0
AnyCountRose before now = AnyRose before.seen now.seen ⊎ Rose before.watches now.watches

-- no count of a world stands at the end of its type
pub record AllCountsOn (watches : List (List ℕ)) (w : WorldState) : Type 0 where
  pub seen : CountsOn w
  pub watching : counted_watches watches w.watch_faults < 2 ^ 64 - 1

-- ---- what watchers tell

-- the trouble that a watcher's end is
abbrev pub watch_troubles : List ℕ → WatchEnd → List Trouble
watch_troubles name watch_ends.Whole = []
watch_troubles name watch_ends.Unsealed = []
watch_troubles name (watch_ends.Fault faults) = []
watch_troubles name (watch_ends.Flaw rule n) = flaw name rule n ∷ []
watch_troubles name watch_ends.Memory = []

abbrev pub is_memory_watch : WatchEnd → Bool
is_memory_watch watch_ends.Whole = false
is_memory_watch watch_ends.Unsealed = false
is_memory_watch (watch_ends.Fault faults) = false
is_memory_watch (watch_ends.Flaw rule n) = false
is_memory_watch watch_ends.Memory = true

-- the flaws of all watchers, in their order
abbrev pub flaws_of : List (List ℕ) → List WatchReport → List (List Trouble)
flaws_of [] reports = []
flaws_of (name ∷ names) [] = []
flaws_of (name ∷ names) (report ∷ reports) = watch_troubles name report.end ∷ flaws_of names reports

-- memory lacked for the recording, for telling the watchers of the end, or for a watcher
abbrev pub lacks_beside : Report → Bool → List WatchReport → Bool
lacks_beside r sealed reports =
    lacks_memory r || (not sealed || list_any (λ (w : WatchReport). is_memory_watch w.end) reports)

-- memory lacked exactly where the reports name that; or there are none though no count rose
abbrev pub LackIsToldBeside : WatchedCounts → WatchedCounts → Option Report → Bool → List WatchReport → Bool → Type 0
LackIsToldBeside before now None sealed reports lacked = (AnyCountRose before now → ⊥) ↔ (lacked ≡ true)
LackIsToldBeside before now (Some r) sealed reports lacked = lacked ≡ lacks_beside r sealed reports

-- ---- which names are blamed

-- of the feeds, in their order, the output, and of the watchers, in theirs
pub record Blamed : Type 0 where
  pub feeds : List Bool
  pub out : Bool
  pub watches : List Bool

-- As the counts tell: each that is blamed has its cause, and for each count that rose some name is blamed. A watcher that the
-- store refused a view has the store's count as its cause.
pub record CausesBeside (before now : WatchedCounts) (b : Blamed) : Type 0 where
  pub feed_cause : some_failed b.feeds ≡ true
      → Rose before.seen.world now.seen.world ⊎ Rose before.seen.inputs now.seen.inputs
  pub out_cause : b.out ≡ true → Rose before.seen.world now.seen.world ⊎ Rose before.seen.outputs now.seen.outputs
  pub watch_cause : some_failed b.watches ≡ true
      → Rose before.seen.world now.seen.world
      ⊎ (Rose before.seen.outputs now.seen.outputs ⊎ Rose before.watches now.watches)
  pub inputs_told : Rose before.seen.inputs now.seen.inputs → some_failed b.feeds ≡ true
  pub outputs_told : Rose before.seen.outputs now.seen.outputs → b.out ≡ true
  pub watches_told : Rose before.watches now.watches → some_failed b.watches ≡ true
  pub world_told : Rose before.seen.world now.seen.world
      → (some_failed b.feeds ≡ true) ⊎ ((b.out ≡ true) ⊎ (some_failed b.watches ≡ true))

-- These are the entries of the feeds, of the output and of the watchers that were reached, and exactly those are blamed that
-- failed, but where a count stands at the end of its type and so can't tell.
pub record BlamesExactly (old : WorldState) (names : Named) (entries : List Opening) (reports : List WatchReport)
    (b : Blamed) : Type 0 where
  pub inputs : List Opening
  pub outputs : List Opening
  pub sinks : List Opening
  pub parts : entries ≡ inputs ++ (outputs ++ sinks)
  pub sources : Each (λ (entry : Opening). entry.kind ≡ kinds.Source) inputs
  pub stores : Each (λ (entry : Opening). entry.kind ≡ kinds.Live) outputs
  pub writers : Each (λ (entry : Opening). entry.kind ≡ kinds.Sink) sinks
  pub few_feeds : length b.feeds ≤ length names.feeds
  pub few_watches : length b.watches ≤ length names.watches
  pub feeds_are : AllCountsOn names.watches old → b.feeds ≡ map has_failed inputs
  pub out_is : AllCountsOn names.watches old → b.out ≡ list_any has_failed outputs
  pub watches_are : AllCountsOn names.watches old → b.watches ≡ watch_flags sinks reports
  pub named : AllCountsOn names.watches old → failed_names (inputs ++ outputs)
      ≡ blamed_names (inputs_and_output kinds.Source names.feeds names.out) (failed_of b.feeds b.out)

-- ---- standard error

-- all troubles, in their order: those of the feeds, of the output, of the watchers, and the others
abbrev pub watched_troubles : Named → Option Report → List WatchReport → Bool → Blamed → Bool → List Trouble
watched_troubles names report reports lacked b printing =
    told_of names.feeds (ends_of names.feeds (reports_in report)) b.feeds (when b.out (fault names.out)
    ++ (when (limit_passed report) (output_limit names.out)
    ++ told_of names.watches (flaws_of names.watches reports) b.watches (when printing output_fault
    ++ when lacked no_memory)))

-- ---- the status

abbrev pub watch_status : WatchEnd → Status
watch_status watch_ends.Whole = statuses.Done
watch_status watch_ends.Unsealed = statuses.Done
watch_status (watch_ends.Fault faults) = statuses.Done
watch_status (watch_ends.Flaw rule n) = statuses.Refused
watch_status watch_ends.Memory = statuses.Done

-- that of the ends of the feeds and of the watchers
abbrev pub ends_status_beside : List FeedReport → List WatchReport → Status
ends_status_beside feeds reports =
    worst (map (λ (f : FeedReport). end_status f.end) feeds ++ map (λ (w : WatchReport). watch_status w.end) reports)

-- a want of memory where memory lacked; else a fault where a count rose; else a limit where one would be passed; else that of the
-- ends
pub record EndsBeside (before now : WatchedCounts) (report : Option Report) (reports : List WatchReport) (lacked : Bool)
    (status : Status) : Type 0 where
  pub memory : lacked ≡ true → status ≡ statuses.Memory
  pub rose : lacked ≡ false → AnyCountRose before now → status ≡ statuses.Fault
  pub calm : lacked ≡ false → (AnyCountRose before now → ⊥) → (r : Report) → report ≡ Some r
      → status ≡ (if passes_limit r then statuses.Limit else ends_status_beside r.feeds.items reports)

-- all of the feeds was recorded, the file was closed, the watchers were told of that, and each wrote all that it had to
pub record RecordsAllBeside (options : RecordOptions) (r : Report) (sealed : Bool) (reports : List WatchReport)
    : Type 0 where
  pub all : RecordsAll options r
  pub sealed_is : sealed ≡ true
  pub whole : Each (λ (w : WatchReport). w.end ≡ watch_ends.Whole) reports

-- ---- the command

-- what `record` does that answers this report, whether its watchers were told of the end, and what each of them came to
pub record RecordsSo (request : Requested) (old new : Scene) (report : Option Report) (sealed : Bool)
    (reports : List WatchReport) (status : Status) : Type 0 where
  -- these names were opened, and nothing else; all failures are counted
  pub entries : List Opening
  pub opened : AreOpened (wanted_names request.names.out request.names.watches request.names.feeds) entries
  pub leaves : LeavesBeside old.world new.world entries
  pub failures : ℕ
  pub counts : CountsBeside old.world new.world entries failures
  -- with a report the feeds were recorded, the output holds the file, and the watchers' names hold what these reported
  pub reported : (r : Report) → report ≡ Some r
      → ReportedBeside request old.world new.world entries failures (reported_with r sealed reports)
  -- without one nothing was read or written
  pub unreported : report ≡ None
      → UnreportedBeside request.names.out request.names.watches old.world new.world entries failures
  pub none : report ≡ None → reports ≡ []
  pub spares : SparesOutput request.names.out request.names.feeds old.world new.world
  pub lacked : Bool
  pub lacks : LackIsToldBeside (watched_counts_in request.names.watches old) (watched_counts_in request.names.watches new)
      report sealed reports lacked
  -- standard output took the text of the report, or a first part of it where it failed
  pub printed : Takes old.out new.out (report_text report)
  -- standard error took the lines of the troubles, which name what failed
  pub blamed : Blamed
  pub exact : BlamesExactly old.world request.names entries reports blamed
  pub causes : CausesBeside (watched_counts_in request.names.watches old) (watched_counts_in request.names.watches new)
      blamed
  pub printing : Bool
  pub blames_output : BlamesOutput old.out new.out printing
  pub said : Complains (watched_troubles request.names report reports lacked blamed printing) old.err new.err status
  -- the status says what became of it
  pub ended : EndsBeside (watched_counts_in request.names.watches old) (watched_counts_in request.names.watches new)
      report reports lacked status
  -- where the world tells, the bytes under the feeds' names decide the status, unless a count rises, memory lacks, or a limit
  -- would be passed
  pub decided : (told : Told) (halts : List Halt) → old.world.told ≡ Some told
      → AllZip (FeedHalts told) request.names.feeds halts
      → (AnyCountRose (watched_counts_in request.names.watches old) (watched_counts_in request.names.watches new) → ⊥)
      → lacked ≡ false
      → limit_passed report ≡ false → status ≡ worst (map halt_status halts)
  -- that all was done says that all of the feeds was recorded, and that each watcher wrote all that it had to
  pub whole : status ≡ statuses.Done
      → (r : Report) × (report ≡ Some r) × RecordsAllBeside request.options r sealed reports

-- what `record` does, with any number of watchers
abbrev pub Records : Requested → Scene → Scene → Option RecordingReport → Status → Type 0
Records request old new None status = RecordsSo request old new None true [] status
Records request old new (Some r) status =
    RecordsSo request old new (Some r.recorded) r.sealed r.watchers.items status
