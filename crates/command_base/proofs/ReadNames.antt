-- What the opening, the reading and the keeping of a file's name come to.
use Rattle.std.proofs.Common.{◌≡◌, ℕ, ◌^◌, ◌<◌, Bool, List, [], ◌∷◌, Some, Result, Ok, Err, refl, sym, subst, inl, inr, ◌∙◌}
use Rattle.std.specs.Prelude.{true, false}
use Rattle.mcap_io.specs.Outside.{SourceState, WorldState, Told, Keeping, Opening}
use Rattle.mcap_io.specs.OutsideCalls.{Opens, OpenCause, CountsStand}
use Rattle.mcap_io.specs.Stores.{StoreState}
use Rattle.mcap_io.specs.declared.outside.Failed.{Failed}
use Rattle.mcap_io.specs.declared.outside.ObjectKind.{ObjectKind}
use Rattle.mcap_io.specs.declared.outside.OutsideRefused.{OutsideRefused}
use Rattle.mcap_io.specs.declared.outside.OutsideRefused.TheVariants as outside_refusals
use Rattle.command_base.specs.declared.file_reading.Reading.{Reading}
use Rattle.command_base.specs.declared.file_reading.Reading.TheVariants as readings
use Rattle.command_base.specs.Ran.{kept, refused, failed_so}
use Rattle.command_base.specs.OneFile.{Ending, was_read, halted, failing, lacked}
use Rattle.command_base.specs.OneFileSteps.{HaltsWell}
use Rattle.command_base.specs.Readings.{ending_of, StoreUse, store_use, IsOpened, IsSourceRead, IsStoreRead}
use Rattle.command_base.specs.ReadingSteps.{is_failure, IsRefusal, NameEnds}
use Rattle.command_base.proofs.Counting.{failed_often}
use Rattle.command_base.specs.InputKinds.{IsInput}
use Rattle.command_base.proofs.OneFile.{IsTakenBack, taken_back, unopened, unopened_for_memory, halts_so, read_halts, failed_halts, lacked_halts, lacked_sure, read_sure}

-- ---- endings

same_text : (a b : List ℕ) → was_read a ≡ was_read b → a ≡ b
same_text a b e = cc

-- a refusal halts well
refusal_halts : (ending : Ending) → IsRefusal ending → HaltsWell ending
refusal_halts (was_read text) is = absurd is
refusal_halts (halted trouble) is = halts_so trouble is
refusal_halts failing is = failed_halts
refusal_halts lacked is = lacked_halts

-- and has no text
refusal_unread : (ending : Ending) (text : List ℕ) → IsRefusal ending → ending ≡ was_read text → ⊥
refusal_unread (was_read other) text is e = is
refusal_unread (halted trouble) text is e = absurd cc
refusal_unread failing text is e = absurd cc
refusal_unread lacked text is e = absurd cc

module _ {T R : Type 0} (text : T → List ℕ) (refusal : R → Ending) where
  -- so does a reading
  pub reading_halts : ((why : R) → IsRefusal (refusal why)) → (reading : Reading T R) → HaltsWell (ending_of text refusal reading)
  reading_halts refuses (readings.Unopened outside_refusals.Failed) = failed_halts
  reading_halts refuses (readings.Unopened outside_refusals.Memory) = lacked_halts
  reading_halts refuses (readings.Opened (Ok what)) = read_halts (text what)
  reading_halts refuses (readings.Opened (Err why)) = refusal_halts (refusal why) (refuses why)

  -- what was read has its text
  pub read_is : ((why : R) → IsRefusal (refusal why)) → (reading : Reading T R) (t : List ℕ) → ending_of text refusal reading ≡ was_read t → (what : T) × (reading ≡ readings.Opened (Ok what)) × (text what ≡ t)
  read_is refuses (readings.Unopened outside_refusals.Failed) t e = absurd cc
  read_is refuses (readings.Unopened outside_refusals.Memory) t e = absurd cc
  read_is refuses (readings.Opened (Ok what)) t e = (what, refl, same_text (text what) t e)
  read_is refuses (readings.Opened (Err why)) t e = absurd (refusal_unread (refusal why) t (refuses why) e)

  -- ---- the name

  module _ (kind : ObjectKind) (file : List ℕ) (Under : Keeping → Result T R → Type 0) where
    abbrev Ends : WorldState → WorldState → Reading T R → Bool → Type 0
    Ends old new reading failed = NameEnds kind file old new (λ entries. IsOpened kind Under file entries reading) (ending_of text refusal reading) failed

    -- the opening was refused
    pub unopened_ends : (old new : WorldState) (why : OutsideRefused) → Opens {T = Unit} old new kind file (Err why) → CountsStand old new → OpenCause {T = Unit} old.faults new.faults (Err why)
        → old.faults < 2 ^ 64 → old.input_faults < 2 ^ 64 → old.output_faults < 2 ^ 64 → IsInput kind → Ends old new (readings.Unopened why) (is_failure why)
    unopened_ends old new outside_refusals.Failed opens stand cause world_fits inputs_fit outputs_fit input = record {
      entries = refused kind file ∷ [];
      reading = inl (refl, refl);
      name = unopened kind file old new outside_refusals.Failed refl opens stand cause inputs_fit outputs_fit input;
      sure = λ e. refl;
    }
    unopened_ends old new outside_refusals.Memory opens stand cause world_fits inputs_fit outputs_fit input = record {
      entries = [];
      reading = refl;
      name = unopened_for_memory kind file old new outside_refusals.Memory refl opens stand cause world_fits inputs_fit outputs_fit;
      sure = lacked_sure false;
    }

    -- a reading that failed has an object that failed
    sure : (keeping : Keeping) (came : Result T R) → ((why : R) → came ≡ Err why → refusal why ≡ failing → keeping.faults ≡ 0 → ⊥) → ending_of text refusal (readings.Opened came) ≡ failing → failed_so keeping.well keeping.faults ≡ true
    sure keeping (Ok what) fails e = read_sure (text what) (failed_so keeping.well keeping.faults) e
    sure keeping (Err why) fails e = failed_often keeping.well keeping.faults (fails why refl e)

    -- an object was given, read so, and taken back
    pub opened_ends : (w0 w1 w2 : WorldState) (keeping : Keeping) (result : Result Unit Failed) (came : Result T R) (failed : Bool) → IsTakenBack kind file w0 w1 w2 keeping result → Under keeping came
        → failed_so keeping.well keeping.faults ≡ failed → ((why : R) → came ≡ Err why → refusal why ≡ failing → keeping.faults ≡ 0 → ⊥) → Ends w0 w2 (readings.Opened came) failed
    opened_ends w0 w1 w2 keeping result came failed back under is fails =
        subst (λ (f : Bool). Ends w0 w2 (readings.Opened came) f) is (record {
          entries = kept kind file keeping ∷ [];
          reading = inr (keeping, refl, (came, refl, under));
          name = taken_back kind file w0 w1 w2 keeping result back;
          sure = sure keeping came fails;
        })

-- ---- the bytes

-- What holds of a name that wasn't opened, and of whatever came of an object that told the bytes, holds of its reading.
module _ {T R : Type 0} (P : Reading T R → Type 0) (file bytes : List ℕ) (world : WorldState) (told : Told) (here : world.told ≡ Some told) (there : told.names file ≡ Some bytes) (none : (why : OutsideRefused) → P (readings.Unopened why)) where
  pub source_shows : (Comes : SourceState → SourceState → Result T R → Type 0) → ((source now : SourceState) (came : Result T R) → source.left ≡ Some bytes → Comes source now came → P (readings.Opened came))
      → (entries : List Opening) (reading : Reading T R) → IsSourceRead Comes file world entries reading → P reading
  source_shows Comes some [] reading is = subst P (sym is) (none outside_refusals.Memory)
  source_shows Comes some (entry ∷ more) reading (inl unopened) = subst P (sym unopened.1) (none outside_refusals.Failed)
  source_shows Comes some (entry ∷ more) reading (inr (keeping, is, (came, opened, under))) =
      subst P (sym opened) (some under.source (record { left = keeping.left; faults = keeping.faults }) came ((under.tells told here).0 ∙ there) under.comes)

  pub store_shows : (Comes : StoreState → StoreUse → Result T R → Type 0) → ((store : StoreState) (now : StoreUse) (came : Result T R) → store.bytes ≡ Some bytes → Comes store now came → P (readings.Opened came))
      → (entries : List Opening) (reading : Reading T R) → IsStoreRead Comes file world entries reading → P reading
  store_shows Comes some [] reading is = subst P (sym is) (none outside_refusals.Memory)
  store_shows Comes some (entry ∷ more) reading (inl unopened) = subst P (sym unopened.1) (none outside_refusals.Failed)
  store_shows Comes some (entry ∷ more) reading (inr (keeping, is, (came, opened, under))) =
      subst P (sym opened) (some under.store (store_use keeping.faults keeping.asked) came ((under.tells told here).0 ∙ there) under.comes)
