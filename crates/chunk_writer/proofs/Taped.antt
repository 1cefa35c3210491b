-- A scribe as a tape: what one call of it does.
use Rattle.std.proofs.Common.{◌≡◌, ℕ, zero, suc, ◌<◌, List, [], ◌∷◌, length, take, drop, Option, Result, Ok, Err, refl, sym, subst, append-nil, arith}
use Rattle.std.specs.Prelude.{IfErr, OnOk}
use Rattle.std.proofs.lemmas.List.{take-append-drop}
use Rattle.rec_data.specs.declared.owned.Rec.{Rec}
use Rattle.mcap_io.specs.Outside.{LiveState}
use Rattle.mcap_model.specs.declared.options.FileOptions.{FileOptions}
use Rattle.mcap_model.specs.declared.ends.Stop.{Stop}
use Rattle.mcap_model.specs.declared.ends.Stop.TheVariants as stops
use Rattle.live_entry.specs.declared.entry.Entry.{Entry}
use Rattle.live_entry.specs.Entries.{SeenExtents, seen_before}
use Rattle.chunk_writer.specs.declared.phase.Phase.{Phase}
use Rattle.chunk_writer.specs.declared.phase.Phase.TheVariants as phases
use Rattle.chunk_writer.specs.declared.scribe.Scribe.{Scribe}
use Rattle.chunk_writer.specs.Stops.{numbers, Cause}
use Rattle.chunk_writer.specs.StopSteps.{StopsBehind}
use Rattle.chunk_writer.specs.Scribes.{ScribeGrows, OfEach, KeepsOn, PutsFront, GoesThrough, store_of, phase_of, planned_bytes}
use Rattle.chunk_writer.specs.Tapes.{EndsFor, KeepsCause, IsLeft, PutsFirst, seen_store, TakesOn, MeetsLimit}
use Rattle.chunk_writer.proofs.Writing.{going_apart}

-- ---- what is left

drop_all : (records : List Rec) → drop (length records) records ≡ []
drop_all [] = refl
drop_all (r ∷ rs) = drop_all rs

drop_some : (records : List Rec) (count : ℕ) → count < length records → (next : Rec) × (rest : List Rec) × (drop count records ≡ next ∷ rest)
drop_some [] count less = absurd (omega (arith, less))
drop_some (r ∷ rs) zero less = (r, rs, refl)
drop_some (r ∷ rs) (suc n) less = drop_some rs n (omega (arith, less))

first_so : {X : Type 0} (seen : SeenExtents X) (options : FileOptions) (history records : List Rec) (entries : List (Entry X)) (bytes : ℕ) (phase : Phase) (end : Result Unit Stop)
    → (it : PutsFront seen options history records entries bytes end) → IsLeft phase (drop it.count records) → PutsFirst seen options history records entries bytes phase
first_so seen options history records entries bytes phase end it left = record {
  first = take it.count records;
  behind = drop it.count records;
  cut = sym (take-append-drop it.count records);
  entries_are = it.entries_are;
  bytes_are = it.bytes_are;
  left = left;
}

-- ---- a call

module _ {L X : Type 0} (state : L → LiveState) (tells : X → Option (List ℕ)) (size : X → ℕ) (old new : Scribe L) (records : List Rec) (entries : List (Entry X)) where
  left_so : (options : FileOptions) (history : List Rec) (end : Result Unit Stop) → OnOk end ((phase_of old ≡ phases.Going) × (phase_of new ≡ phases.Going)) → IfErr end (λ stop. phase_of new ≡ phases.Stopped stop)
      → (it : PutsFront (seen_before tells size (state (store_of old))) options history records entries (planned_bytes new) end) → IsLeft (phase_of new) (drop it.count records)
  left_so options history (Ok done) on stopped it =
      let none : drop it.count records ≡ [] = subst (λ (n : ℕ). drop n records ≡ []) (sym it.all) (drop_all records) in
      subst (λ (p : Phase). IsLeft p (drop it.count records)) (sym on.1) none
  left_so options history (Err stop) on stopped it = subst (λ (p : Phase). IsLeft p (drop it.count records)) (sym stopped) (drop_some records it.count it.before)

  cause_so : (end : Result Unit Stop) → OnOk end ((phase_of old ≡ phases.Going) × (phase_of new ≡ phases.Going)) → IfErr end (λ stop. phase_of new ≡ phases.Stopped stop)
      → Cause (state (store_of old)).faults (state (store_of new)).faults end → KeepsCause (phase_of new) (state (store_of old)).faults (state (store_of new)).faults
  cause_so (Ok done) on stopped cause = subst (λ (p : Phase). KeepsCause p (state (store_of old)).faults (state (store_of new)).faults) (sym on.1) cause
  cause_so (Err stop) on stopped cause = subst (λ (p : Phase). KeepsCause p (state (store_of old)).faults (state (store_of new)).faults) (sym stopped) cause

  through_so : (end : Result Unit Stop) → IfErr end (λ stop. phase_of new ≡ phases.Stopped stop)
      → OnOk end (OfEach state old (λ options history. GoesThrough options records (state (store_of old)).waiting (state (store_of new)).waiting))
      → OfEach state old (λ options history. phase_of new ≡ phases.Going → (state (store_of old)).waiting ≡ 0 → (state (store_of new)).waiting ≡ 0)
  through_so (Ok done) stopped through = λ options extras opened history writes going none. (through options extras opened history writes).still none
  through_so (Err stop) stopped through = λ options extras opened history writes going none. absurd (going_apart (phase_of new) stop stopped going)

  pub takes : (end : Result Unit Stop) → ScribeGrows state old new records
      → (phase_of old ≡ phases.Going → OfEach state old (λ options history. PutsFront (seen_before tells size (state (store_of old))) options history records entries (planned_bytes new) end))
      → KeepsOn (state (store_of old)).held (state (store_of new)).held
      → OnOk end ((phase_of old ≡ phases.Going) × (phase_of new ≡ phases.Going)) → IfErr end (λ stop. phase_of new ≡ phases.Stopped stop)
      → OnOk end (OfEach state old (λ options history. GoesThrough options records (state (store_of old)).waiting (state (store_of new)).waiting))
      → ((stop : Stop) → phase_of old ≡ phases.Stopped stop → (end ≡ Err stop) × (entries ≡ []) × (new ≡ old))
      → (phase_of old ≡ phases.Going → Cause (state (store_of old)).faults (state (store_of new)).faults end) → TakesOn (seen_store state tells size) old new records entries
  takes end grows front keeps on stopped through kept cause = record {
    grown = grows;
    front = λ going options extras opened history writes.
        let it = front going options extras opened history writes in
        first_so (seen_before tells size (state (store_of old))) options history records entries (planned_bytes new) (phase_of new) end it (left_so options history end on stopped it);
    keeps = keeps;
    through = through_so end stopped through;
    cause = λ going. cause_so end on stopped (cause going);
    kept = λ stop is. let all = kept stop is in (all.2, all.1);
  }

-- ---- why a call was refused

pub meets : {L : Type 0} (state : L → LiveState) (scribe : Scribe L) (blocks bytes : ℕ) → phase_of scribe ≡ phases.Stopped (stops.Limit blocks bytes) → MeetsLimit state scribe blocks bytes
meets state scribe blocks bytes is = record {
  stopped = is;
  at = λ options extras opened history writes.
      (subst (λ (l : List Rec). StopsBehind options extras l opened.held (state (store_of scribe)).held (stops.Limit blocks bytes) (numbers scribe.plan.blocks scribe.plan.bytes)) (append-nil history)
      (writes.0.stopped (stops.Limit blocks bytes) is extras [])).stops;
}

pub ends_for : (before now : ℕ) (phase : Phase) (limit_met : ℕ → ℕ → Type 0) (end : Result Unit Stop) → Cause before now end → IfErr end (λ stop. phase ≡ phases.Stopped stop)
    → ((blocks bytes : ℕ) → phase ≡ phases.Stopped (stops.Limit blocks bytes) → limit_met blocks bytes) → EndsFor before now limit_met end
ends_for before now phase limit_met (Ok done) cause stopped met = omega (arith, cause)
ends_for before now phase limit_met (Err (stops.Fault faults)) cause stopped met =
    let (rose, same) = cause in
    (omega (arith, rose.once), omega (arith, rose.once, same), omega (arith, same))
ends_for before now phase limit_met (Err (stops.Limit blocks bytes)) cause stopped met = (met blocks bytes stopped, omega (arith, cause))
ends_for before now phase limit_met (Err stops.Memory) cause stopped met = omega (arith, cause)
