-- What the laws of recordings take of one, with any number of watchers.
use Rattle.std.proofs.Common.{◌≡◌, ℕ, ◌+◌, Bool, true, false, if◌then◌else◌, List, ◌∷◌, map, Option, Some, refl, sym, ap, subst, inl, ◌∙◌, arith}
use Rattle.std.proofs.lemmas.Option.{same_Some}
use Rattle.mcap_io.specs.Outside.{Rose, added, WorldState, Told, Opening}
use Rattle.mcap_model.specs.declared.ends.End.TheVariants as ends
use Rattle.mcap_model.specs.declared.replay.Range.{Range}
use Rattle.mcap_model.specs.declared.options.RecordOptions.{RecordOptions}
use Rattle.recorder.specs.declared.report.Report.{Report}
use Rattle.recorder.specs.Recorded.{Sides, sides, Recorded}
use Rattle.live_watcher.specs.declared.report.WatchReport.{WatchReport}
use Rattle.command_base.specs.declared.statuses.Status.{Status}
use Rattle.command_base.specs.declared.statuses.Status.TheVariants as statuses
use Rattle.command_base.specs.Ran.{Scene, world_faults}
use Rattle.command_record.specs.declared.recording.RecordingReport.{RecordingReport}
use Rattle.command_record.specs.declared.watched_answer.WatchedCounts.{WatchedCounts}
use Rattle.command_record.specs.Record.{feed_entry, live_entry, back_sources, OutputHolds}
use Rattle.command_record.specs.Sinks.{sink_entry}
use Rattle.command_record.specs.Watched.{requested}
use Rattle.command_record.specs.WatchedAnswer.{watched_counts_in, AnyCountRose, EndsBeside, Records}
use Rattle.command_record.proofs.Runs.{world_faults-append}
use Rattle.command_record.proofs.Whole.{undone_memory, undone_fault}

-- What was recorded, by what was seen of the sources and of the store, and what then stands under the output's name. Where all was
-- done the writer closed, and the output was kept.
pub record Recording (options : RecordOptions) (out : List ℕ) (old new : WorldState) (r : Report) (status : Status) : Type 0 where
  pub before : Sides
  pub after : Sides
  pub recorded : Recorded options before after r
  pub live_kept : Bool
  pub goes_on : (told : Told) → old.told ≡ Some told → (now : Told) × (new.told ≡ Some now)
  pub file : (told now : Told) → old.told ≡ Some told → new.told ≡ Some now → OutputHolds options.file recorded.history r.writer live_kept (told.names out) (now.names out)
  pub closed : status ≡ statuses.Done → r.writer.end ≡ ends.Closed
  pub well : status ≡ statuses.Done → live_kept ≡ true

-- the keeping of the store went well where the world's count stood still
kept_well : (before now others : ℕ) (live : Bool) → now ≡ added before (others + (if live then 0 else 1)) → (Rose before now → ⊥) → live ≡ true
kept_well before now others true is quiet = refl
kept_well before now others false is quiet = absurd (quiet (omega (arith, is)))

pub watched_calm : (before now : WatchedCounts) (report : Option Report) (reports : List WatchReport) (lacked : Bool) (status : Status) → EndsBeside before now report reports lacked status → status ≡ statuses.Done → AnyCountRose before now → ⊥
watched_calm before now report reports true status ended done risen = undone_memory status (ended.memory refl) done
watched_calm before now report reports false status ended done risen = undone_fault status (ended.rose refl risen) done

pub watched_closed : (options : RecordOptions) (range : Range) (out : List ℕ) (watches feeds : List (List ℕ)) (old new : Scene) (r : RecordingReport) (status : Status) → Records (requested options range out watches feeds) old new (Some r) status → status ≡ statuses.Done → r.recorded.writer.end ≡ ends.Closed
watched_closed options range out watches feeds old new r status it done =
    let all = it.whole done in
    subst (λ (x : Report). x.writer.end ≡ ends.Closed) (same_Some all.0 r.recorded (sym all.1)) all.2.all.closed

-- the world's count stood still, and it has the failures of all that was taken back
pub watched_still : (options : RecordOptions) (range : Range) (out : List ℕ) (watches feeds : List (List ℕ)) (old new : Scene) (r : RecordingReport) (status : Status) → Records (requested options range out watches feeds) old new (Some r) status → status ≡ statuses.Done → Rose old.world.faults new.world.faults → ⊥
watched_still options range out watches feeds old new r status it done rose =
    watched_calm (watched_counts_in watches old) (watched_counts_in watches new) (Some r.recorded) r.watchers.items it.lacked status it.ended done (inl (inl rose))

pub watched_total : (options : RecordOptions) (range : Range) (out : List ℕ) (watches feeds : List (List ℕ)) (old new : Scene) (r : RecordingReport) (status : Status) → (it : Records (requested options range out watches feeds) old new (Some r) status)
    → new.world.faults ≡ added old.world.faults (world_faults (map feed_entry (it.reported r.recorded refl).kept_feeds) + world_faults (map sink_entry (it.reported r.recorded refl).kept_sinks) + (if (it.reported r.recorded refl).live_kept then 0 else 1))
watched_total options range out watches feeds old new r status it =
    let is = it.reported r.recorded refl in
    let counts = it.counts.kept.world ∙ ap (λ (es : List Opening). added old.world.faults (world_faults es)) is.kept_are in
    let total = world_faults-append (map feed_entry is.kept_feeds) (live_entry out is.live_now is.live_kept ∷ map sink_entry is.kept_sinks) in
    omega (arith, counts, total)

pub watched_well : (options : RecordOptions) (range : Range) (out : List ℕ) (watches feeds : List (List ℕ)) (old new : Scene) (r : RecordingReport) (status : Status) → (it : Records (requested options range out watches feeds) old new (Some r) status) → status ≡ statuses.Done → (it.reported r.recorded refl).live_kept ≡ true
watched_well options range out watches feeds old new r status it done =
    let is = it.reported r.recorded refl in
    kept_well old.world.faults new.world.faults (world_faults (map feed_entry is.kept_feeds) + world_faults (map sink_entry is.kept_sinks)) is.live_kept (watched_total options range out watches feeds old new r status it) (watched_still options range out watches feeds old new r status it done)

abbrev pub of_watched : (options : RecordOptions) (range : Range) (out : List ℕ) (watches feeds : List (List ℕ)) (old new : Scene) (r : RecordingReport) (status : Status) → Records (requested options range out watches feeds) old new (Some r) status → Recording options out old.world new.world r.recorded status
of_watched options range out watches feeds old new r status it = record {
  before = sides (it.reported r.recorded refl).given (it.reported r.recorded refl).viewed;
  after = sides (back_sources (it.reported r.recorded refl).kept_feeds) (it.reported r.recorded refl).live_now;
  recorded = (it.reported r.recorded refl).recorded;
  live_kept = (it.reported r.recorded refl).live_kept;
  goes_on = λ told here. let left = it.leaves told here in (left.0, left.1);
  file = (it.reported r.recorded refl).file;
  closed = watched_closed options range out watches feeds old new r status it;
  well = watched_well options range out watches feeds old new r status it;
}
