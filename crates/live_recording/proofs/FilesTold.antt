-- What watchers wrote is what the file of the history holds.
use Rattle.std.proofs.Common.{◌≡◌, ℕ, List, [], ◌∷◌, map, Option, Some, None, inl, inr, sym, ap, subst, ◌∙◌}
use Rattle.std.specs.Prelude.{true}
use Rattle.std.specs.List.{AllZip}
use Rattle.mcap_io.specs.Outside.{LiveState}
use Rattle.mcap_model.specs.declared.replay.Range.{Range}
use Rattle.mcap_model.specs.Places.{At}
use Rattle.mcap_model.proofs.Places.{at_none}
use Rattle.live_entry.specs.declared.entry.Entry.{Entry}
use Rattle.live_entry.specs.Following.{Stored, IsStored}
use Rattle.live_directory.specs.Published.{end_of}
use Rattle.mcap_model.specs.declared.options.RecordOptions.{RecordOptions}
use Rattle.recorder.specs.declared.report.Report.{Report}
use Rattle.recorder.specs.Recorded.{Sides, AreReadable}
use Rattle.live_watcher.specs.declared.report.WatchEnd.{WatchEnd}
use Rattle.live_watcher.specs.Text.{SealState}
use Rattle.live_watcher.specs.Watching.{Written, unwritten, written_by, WritesTo}
use Rattle.live_recording.specs.Watched.{Watch, AsksViews}
use Rattle.live_recording.specs.WatchedSteps.{WatchTells, SeenWatching, RecordedWatched, WatchFilesAreTold}
use Rattle.live_recording.specs.Files.{FrontReplay, told_end, FindsNoFlaw, TellsWatchFile}
use Rattle.live_recording.proofs.LinesTold.{lines_told, of_given}
use Rattle.live_recording.proofs.FilesFronts.{front_replayed}

-- the store holds what it held before it was asked for views
still_held : (before now : LiveState) (watches : List Watch) → AsksViews before watches now → now.held ≡ before.held
still_held before now [] asked = ap (λ (l : LiveState). l.held) asked
still_held before now (w ∷ more) asked = let (mid, same, few, one, others) = asked in still_held mid now more others ∙ same

-- there are no watchers without sinks
none_watched : (watches : List Watch) → [] ≡ map (λ (w : Watch). w.before) watches → (n : ℕ) (w : Watch) → At watches n w → ⊥
none_watched [] none n w at = at_none n w at
none_watched (x ∷ more) none n w at = absurd (cc none)

-- a watcher that found a flaw read blocks that weren't all told
no_flaw : {X : Type 0} (tells : X → Option (List ℕ)) (range : Range) (entries : List (Entry X)) (ending : SealState) (stored : List Stored) → AllZip (IsStored tells) entries stored → (before now : Written) (end : WatchEnd)
    → WritesTo tells range entries ending before now (Some end) → FindsNoFlaw end
no_flaw tells range entries ending stored told before now end is rule offset flaw =
    (subst (λ (e : WatchEnd). WritesTo tells range entries ending before now (Some e)) flaw is).1 stored told

module _ {X : Type 0} (tells : X → Option (List ℕ)) (options : RecordOptions) (range : Range) (before now : Sides) (r : Report) (told : SeenWatching) (it : RecordedWatched tells options range before now r told)
    (readable : AreReadable options.file) (size : ℕ) (some : options.file.chunk ≡ Some size) (held : List ℕ) (held_is : before.live.held ≡ Some held) where
  ended_so : told.sealed ≡ true → (told.handed ≡ [] → ⊥) → end_of it.note ≡ Some r.writer.end
  ended_so is handed = elim (it.sealed is) [ inl none ↦ absurd (handed none) | inr end ↦ end ]

  file_of_watch : (w : Watch) (view : Option ℕ) → (told.handed ≡ [] → ⊥) → WatchTells tells range it.note w.before w.now view w.report → TellsWatchFile options.file range it.recorded.history r.writer told.sealed w view
  file_of_watch w None handed is = is
  file_of_watch w (Some failures) handed is =
      let recorded = it.recorded in
      let shows = it.shows handed in
      let blocks = shows.blocks_are in
      let (stored, stores) = blocks.tell held (still_held before.live it.viewed it.watches it.asked ∙ held_is) in
      let wrote = of_given tells range r.writer it.note shows.given shows.first shows.sealed told.sealed (λ sealed. ended_so sealed handed) (λ unsealed. (it.unsealed unsealed).1) (unwritten w.before 0) (written_by w.now failures w.report) (Some w.report.end) is in (
        no_flaw tells range shows.given (told_end told.sealed r.writer.end) stored stores (unwritten w.before 0) (written_by w.now failures w.report) w.report.end wrote,
        lines_told tells range (FrontReplay options.file range recorded.history) r.writer shows.given blocks.many
            (front_replayed tells options.file size recorded.history blocks.pieces shows.given readable some recorded.assembled.numbered recorded.kept blocks.first blocks.each range stored stores)
            told.sealed (unwritten w.before 0) (written_by w.now failures w.report) w.report.end wrote,
      )

pub watch_files_are_told : {X : Type 0} (tells : X → Option (List ℕ)) → WatchFilesAreTold tells
watch_files_are_told tells options range before now r told it readable size some held held_is n w at =
    file_of_watch tells options range before now r told it readable size some held held_is w w.view (λ none. none_watched it.watches (sym none ∙ it.are.before_are) n w at) (it.each n w at)
