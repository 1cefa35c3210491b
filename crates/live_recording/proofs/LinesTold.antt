-- What a watcher wrote of the blocks that a directory showed is written of all that were given.
use Rattle.std.proofs.Common.{◌≡◌, ℕ, ◌≤◌, List, length, Option, Some, None, inl, inr, refl, subst}
use Rattle.std.specs.Prelude.{Bool, true, false}
use mathlib.Core.List.{IsPrefix}
use Rattle.mcap_model.specs.declared.ends.End.{End}
use Rattle.mcap_model.specs.declared.replay.Range.{Range}
use Rattle.live_entry.specs.declared.entry.Entry.{Entry}
use Rattle.live_directory.specs.declared.front.Added.{Added}
use Rattle.live_directory.specs.Published.{entries_of, end_of}
use Rattle.recorder.specs.declared.report.WriterReport.{WriterReport}
use Rattle.live_watcher.specs.declared.report.WatchEnd.{WatchEnd}
use Rattle.live_watcher.specs.declared.report.WatchEnd.TheVariants as watch_ends
use Rattle.live_watcher.specs.Text.{SealState, sealed_by, unsealed, FrontsText, WatchText, WatchPart, FrontsTextOf, WatchTextOf, WatchPartOf, replays_of}
use Rattle.live_watcher.specs.Watching.{Written, unwritten, written_by, TakesSuchText, WritesTo}
use Rattle.live_watcher.proofs.Taking.{takes_as}
use Rattle.live_watcher.proofs.Texts.{fronts_as, whole_as, part_as}
use Rattle.live_watcher.proofs.Steps.{unsealed_lift}
use Rattle.live_recording.specs.Watched.{Watch}
use Rattle.live_recording.specs.WatchedSteps.{seal_by, seal_of, WatchTells}
use Rattle.live_recording.specs.Files.{told_end, WritesLines, any_lines, TellsWatchForm}

module _ {X : Type 0} (tells : X → Option (List ℕ)) (range : Range) (lines : ℕ → ℕ → List ℕ → Type 0) (w : WriterReport) (entries : List (Entry X)) (many : length entries ≡ w.blocks)
    (are : (n count : ℕ) (text : List ℕ) → n ≤ length entries → replays_of tells range entries n count text → lines n count text) where
  whole_told : (fronts : List ℕ) (ending : SealState) (old new : Option (List ℕ)) → TakesSuchText (WatchTextOf tells range entries fronts ending) old new → TakesSuchText (WatchText lines w.blocks fronts ending) old new
  whole_told fronts ending old new took =
      takes_as (WatchTextOf tells range entries fronts ending) (WatchText lines w.blocks fronts ending) old new
      (λ t is. subst (λ (blocks : ℕ). WatchText lines blocks fronts ending t) many (whole_as (replays_of tells range entries) lines (length entries) are fronts ending t is)) took

  part_told : (fronts : List ℕ) (ending : SealState) (old new : Option (List ℕ)) → TakesSuchText (WatchPartOf tells range entries fronts ending) old new → TakesSuchText (WatchPart lines w.blocks fronts ending) old new
  part_told fronts ending old new took =
      takes_as (WatchPartOf tells range entries fronts ending) (WatchPart lines w.blocks fronts ending) old new
      (λ t is. subst (λ (blocks : ℕ). WatchPart lines blocks fronts ending t) many (part_as (replays_of tells range entries) lines (length entries) are fronts ending t is)) took

  fronts_told : (fronts : List ℕ) (old new : Option (List ℕ)) → TakesSuchText (FrontsTextOf tells range entries fronts) old new → TakesSuchText (FrontsText lines w.blocks fronts) old new
  fronts_told fronts old new took =
      takes_as (FrontsTextOf tells range entries fronts) (FrontsText lines w.blocks fronts) old new
      (λ t is. subst (λ (blocks : ℕ). FrontsText lines blocks fronts t) many (fronts_as (replays_of tells range entries) lines (length entries) are fronts t is)) took

  pub lines_told : (sealed : Bool) (before now : Written) (end : WatchEnd) → WritesTo tells range entries (told_end sealed w.end) before now (Some end) → WritesLines lines w sealed before now end
  lines_told true before now watch_ends.Whole is = (is.0, refl, whole_told now.fronts (sealed_by w.end) before.sink.took now.sink.took is.2)
  lines_told false before now watch_ends.Whole is = absurd (cc (is.1.1))
  lines_told true before now watch_ends.Unsealed is = absurd (cc (is.1))
  lines_told false before now watch_ends.Unsealed is = (is.0, refl, whole_told now.fronts unsealed before.sink.took now.sink.took is.2)
  lines_told sealed before now (watch_ends.Fault faults) (inl is) = inl (is.0, part_told now.fronts (told_end sealed w.end) before.sink.took now.sink.took is.1)
  lines_told sealed before now (watch_ends.Fault faults) (inr is) = inr (is.0, fronts_told now.fronts before.sink.took now.sink.took is.1)
  lines_told sealed before now (watch_ends.Flaw rule offset) is = (is.0, fronts_told now.fronts before.sink.took now.sink.took is.2)
  lines_told sealed before now watch_ends.Memory is = (is.0, fronts_told now.fronts before.sink.took now.sink.took is.1)

-- ---- of what the directory showed

module _ {X : Type 0} (tells : X → Option (List ℕ)) (range : Range) (w : WriterReport) (note : List (Added X)) (given : List (Entry X)) (first : IsPrefix (entries_of note) given)
    (sealed_so : (end : End) → end_of note ≡ Some end → (end ≡ w.end) × (entries_of note ≡ given)) where
  -- what was written of first blocks is written of all, where there is no end
  pub of_given : (sealed : Bool) → (sealed ≡ true → end_of note ≡ Some w.end) → (sealed ≡ false → end_of note ≡ None) → (before now : Written) (e : Option WatchEnd)
      → WritesTo tells range (entries_of note) (seal_of note) before now e → WritesTo tells range given (told_end sealed w.end) before now e
  of_given true ends unended before now e is =
      let end = ends refl in
      subst (λ (es : List (Entry X)). WritesTo tells range es (sealed_by w.end) before now e) (sealed_so w.end end).1
      (subst (λ (o : Option End). WritesTo tells range (entries_of note) (seal_by o) before now e) end is)
  of_given false ends unended before now e is =
      unsealed_lift tells range (entries_of note) given before now e first (subst (λ (o : Option End). WritesTo tells range (entries_of note) (seal_by o) before now e) (unended refl) is)

  -- whatever the extents tell
  pub form_told : length given ≡ w.blocks → (sealed : Bool) → (sealed ≡ true → end_of note ≡ Some w.end) → (sealed ≡ false → end_of note ≡ None) → (it : Watch) (view : Option ℕ)
      → WatchTells tells range note it.before it.now view it.report → TellsWatchForm w sealed it view
  form_told many sealed ends unended it None is = is
  form_told many sealed ends unended it (Some failures) is =
      lines_told tells range any_lines w given many (λ n count text within replays. tt) sealed (unwritten it.before 0) (written_by it.now failures it.report) it.report.end
      (of_given sealed ends unended (unwritten it.before 0) (written_by it.now failures it.report) (Some it.report.end) is)
