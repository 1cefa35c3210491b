-- The steps of a recording with watchers, and of its answer.
use Rattle.std.specs.Prelude.{◌≡◌, ◌⊎◌, ℕ, zero, suc, ◌-◌, ◌^◌, ◌<◌, ◌≤◌, ◌||◌, List, [], ◌∷◌, ◌++◌, map, take, length, Bool, true, Some, None, ◌↔◌, if◌then◌else◌, Option}
use Rattle.std.specs.List.{list_any}
use Rattle.mcap_io.specs.Outside.{Rose, WorldState, Opening, SinkState}
use Rattle.mcap_io.specs.declared.outside.ObjectKind.TheVariants as kinds
use Rattle.mcap_model.specs.Places.{Each}
use Rattle.recorder.specs.declared.report.Report.{Report}
use Rattle.command_base.specs.Ran.{AreOpened, has_failed, failed_names, blamed_names, Complains}
use Rattle.command_base.specs.Outputs.{inputs_and_output, failed_of, some_failed}
use Rattle.command_record.specs.declared.watched_names.WatchedOutcome.{WatchedOutcome}
use Rattle.command_record.specs.Record.{SparesOutput}
use Rattle.command_record.specs.Watched.{Requested, reported_with, wanted_names, LeavesBeside, CountsBeside, watch_flags, ReportedBeside, UnreportedBeside, Named, is_flaw}
use Rattle.live_watcher.specs.declared.report.WatchReport.{WatchReport}
use Rattle.command_base.specs.declared.statuses.Status.{Status}
use Rattle.command_base.specs.Texts.{Trouble}
use Rattle.command_record.specs.declared.watched_answer.WatchedCounts.{WatchedCounts}
use Rattle.command_record.specs.declared.watched_answer.WatchedFailures.{WatchedFailures}
use Rattle.command_base.specs.OutputSteps.{flags_of, PartFailed}
use Rattle.command_record.specs.WatchedAnswer.{AnyCountRose, watch_troubles, lacks_beside, Blamed, CausesBeside, watched_troubles}

-- ---- which watchers failed

-- the answers, with one added to that at the place
abbrev pub or_at : List Bool → ℕ → Bool → List Bool
or_at [] n failed = []
or_at (first ∷ more) zero failed = (first || failed) ∷ more
or_at (first ∷ more) (suc n) failed = first ∷ or_at more n failed

-- ---- the whole

-- What the opening, recording and keeping of all names did.
pub record NamesWatched (request : Requested) (old new : WorldState) (outcome : WatchedOutcome) : Type 0 where
  pub entries : List Opening
  pub opened : AreOpened (wanted_names request.names.out request.names.watches request.names.feeds) entries
  pub leaves : LeavesBeside old new entries
  -- the faults of the views that were let go
  pub failures : ℕ
  pub counts : CountsBeside old new entries failures
  pub reported : (r : Report) → outcome.report ≡ Some r
      → ReportedBeside request old new entries failures (reported_with r outcome.sealed outcome.watches.items)
  pub unreported : outcome.report ≡ None
      → UnreportedBeside request.names.out request.names.watches old new entries failures
  pub none : outcome.report ≡ None → outcome.watches.items ≡ []
  pub spares : SparesOutput request.names.out request.names.feeds old new
  -- the entries of the feeds failed so, then that of the output, if it was reached, and then those of the watch files
  pub inputs : List Opening
  pub outputs : List Opening
  pub sinks : List Opening
  pub few : length inputs ≤ length request.names.feeds
  pub few_sinks : length sinks ≤ length request.names.watches
  pub parts : entries ≡ inputs ++ (outputs ++ sinks)
  pub sources : Each (λ (entry : Opening). entry.kind ≡ kinds.Source) inputs
  pub stores : Each (λ (entry : Opening). entry.kind ≡ kinds.Live) outputs
  pub writers : Each (λ (entry : Opening). entry.kind ≡ kinds.Sink) sinks
  pub sinks_named : map (λ (entry : Opening). entry.name) sinks ≡ take (length sinks) request.names.watches
  pub feeds_failed : outcome.feeds_failed.items ≡ map has_failed inputs
  pub out_failed : outcome.out_failed ≡ list_any has_failed outputs
  pub watches_failed : outcome.watches_failed.items ≡ watch_flags sinks outcome.watches.items
  pub failed : failed_names (inputs ++ outputs)
      ≡ blamed_names (inputs_and_output kinds.Source request.names.feeds request.names.out)
      (failed_of outcome.feeds_failed.items outcome.out_failed)
  -- a watch file is blamed only with a cause, and one is where its count rose
  pub watch_cause : some_failed outcome.watches_failed.items ≡ true
      → Rose old.faults new.faults ⊎ (Rose old.output_faults new.output_faults ⊎ Rose old.watch_faults new.watch_faults)
  pub watch_told : old.watch_faults < 2 ^ 64 - 1 → Rose old.watch_faults new.watch_faults
      → some_failed outcome.watches_failed.items ≡ true

-- ---- the answer

-- the flaw of the watcher of the first report
abbrev pub first_flaw : List ℕ → List WatchReport → List Trouble
first_flaw name [] = []
first_flaw name (w ∷ ws) = watch_troubles name w.end

-- a flaw was found
abbrev pub some_flaw : List WatchReport → Bool
some_flaw reports = list_any (λ (w : WatchReport). is_flaw w.end) reports

-- which of the watchers are blamed
abbrev pub watch_flags_of : List (List ℕ) → WatchedFailures → List Bool
watch_flags_of watches failed = if failed.every_watch then map (λ (name : List ℕ). true) watches else failed.watches.now

abbrev pub blamed_in : List (List ℕ) → List (List ℕ) → WatchedFailures → Blamed
blamed_in watches feeds failed =
    record { feeds = flags_of feeds failed.parts; out = failed.parts.out; watches = watch_flags_of watches failed }

-- some part failed
abbrev pub AnyPartFailed : WatchedFailures → Type 0
AnyPartFailed failed = PartFailed failed.parts ⊎ ((failed.every_watch ≡ true) ⊎ (some_failed failed.watches.now ≡ true))

-- what a recording told of failures and what the counts tell: which parts failed
pub record WatchedPartsShow (before now : WatchedCounts) (watches feeds : List (List ℕ)) (outcome : WatchedOutcome)
    (failed : WatchedFailures) : Type 0 where
  pub causes : CausesBeside before now (blamed_in watches feeds failed)
  pub printing : (failed.parts.printing ≡ true) ↔ Rose before.seen.printing now.seen.printing
  pub any : AnyCountRose before now → AnyPartFailed failed
  pub every : failed.every_watch ≡ true → Rose before.watches now.watches
  pub feeds_told : failed.parts.inputs.now ≡ outcome.feeds_failed.items
  pub watches_told : failed.watches.now ≡ outcome.watches_failed.items
  -- nothing else is blamed where each count that rose shows in what the recording told
  pub feeds_are : (Rose before.seen.inputs now.seen.inputs → some_failed outcome.feeds_failed.items ≡ true)
      → flags_of feeds failed.parts ≡ outcome.feeds_failed.items
  pub watches_are : (Rose before.watches now.watches → some_failed outcome.watches_failed.items ≡ true)
      → watch_flags_of watches failed ≡ outcome.watches_failed.items
  pub out_is : (Rose before.seen.outputs now.seen.outputs → outcome.out_failed ≡ true)
      → (Rose before.seen.world now.seen.world
      → (some_failed outcome.feeds_failed.items ≡ true)
      ⊎ ((outcome.out_failed ≡ true) ⊎ (some_failed outcome.watches_failed.items ≡ true)))
      → failed.parts.out ≡ outcome.out_failed

-- memory lacked exactly where the reports name that, or where there are none though no part failed
abbrev pub LacksMemoryBeside : Option Report → Bool → List WatchReport → WatchedFailures → Bool → Type 0
LacksMemoryBeside None sealed reports failed lacked = (AnyPartFailed failed → ⊥) ↔ (lacked ≡ true)
LacksMemoryBeside (Some r) sealed reports failed lacked = lacked ≡ lacks_beside r sealed reports

-- what standard error is told of a recording with watchers, and the status
pub record AnswersBeside (names : Named) (outcome : WatchedOutcome) (failed : WatchedFailures) (before now : SinkState)
    (status : Status) : Type 0 where
  pub lacked : Bool
  pub lacks : LacksMemoryBeside outcome.report outcome.sealed outcome.watches.items failed lacked
  pub told : Complains
      (watched_troubles names outcome.report outcome.watches.items lacked (blamed_in names.watches names.feeds failed) failed.parts.printing)
      before now status
