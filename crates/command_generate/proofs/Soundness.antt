-- Where all was done the file was closed, kept, and read back.
use Rattle.std.proofs.Common.{◌≡◌, ◌||◌, ℕ, ◌≤◌, Bool, true, false, List, [], ◌∷◌, Option, Some, None, Result, Ok, Err, refl, sym, ap, subst, inl, inr, ◌∙◌, arith}
use Rattle.std.proofs.lemmas.Bool.{both_ways}
use Rattle.mcap_io.specs.Outside.{Rose, added, SourceState, WorldState, SinkState, Told, Keeping, Opening}
use Rattle.mcap_io.specs.declared.outside.ObjectKind.TheVariants as kinds
use Rattle.mcap_model.specs.declared.refusals.ReadingRefused.TheVariants as refusals
use Rattle.mcap_model.specs.declared.options.RecordOptions.{RecordOptions}
use Rattle.recorder.specs.declared.report.Report.{Report}
use Rattle.command_generate.specs.declared.sums.Sums.{Sums}
use Rattle.command_generate.specs.SumReading.{SumsAll}
use Rattle.command_base.specs.Printing.{TellsAll, Takes}
use Rattle.command_base.specs.OneFile.{failing, troubles_in, is_lack, NameRead}
use Rattle.command_base.specs.Ran.{Scene, counts_in, WorldRose, AnyRose, AreOpened, kept, refused}
use Rattle.mcap_model.specs.declared.refusals.ReadingRefused.{ReadingRefused}
use Rattle.command_base.specs.declared.file_reading.Reading.{Reading}
use Rattle.command_base.specs.declared.file_reading.Reading.TheVariants as readings
use Rattle.mcap_io.specs.declared.outside.OutsideRefused.TheVariants as outside_refusals
use Rattle.command_generate.specs.declared.making.Written.{Written}
use Rattle.command_base.specs.Readings.{IsSourceRead}
use Rattle.command_base.proofs.ReadNames.{source_shows}
use Rattle.command_generate.specs.Back.{Back, SumsComeTo, back_ending, NameReadBack}
use Rattle.command_generate.specs.Making.{RecordedInto, IsWriting}
use Rattle.command_generate.specs.Generating.{ReadsBack}
use Rattle.command_generate.proofs.Silent.{IsQuiet}

-- ---- the report

-- there is one
pub reported : (feeds : ℕ) (out : List ℕ) (old new : Scene) (report : Option Report) (back : Option Back) → IsQuiet feeds out old new report back → (r : Report) × (report ≡ Some r)
reported feeds out old new None back quiet = absurd (both_ways false refl (quiet.enough.0 any))
  where
    any : AnyRose (counts_in old) (counts_in new) → ⊥
    any (inl world) = quiet.world (inl world)
    any (inr (inl inputs)) = quiet.world (inr (inl inputs))
    any (inr (inr (inl outputs))) = quiet.world (inr (inr outputs))
    any (inr (inr (inr printing))) = quiet.printing printing
reported feeds out old new (Some r) back quiet = (r, refl)

pub neither : (a b : Bool) → false ≡ (a || b) → (a ≡ false) × (b ≡ false)
neither true b is = absurd cc
neither false true is = absurd cc
neither false false is = (refl, refl)

-- ---- the name of the output

-- a store was given under it, and taken back
pub record IsStored (options : RecordOptions) (sources : List SourceState) (out : List ℕ) (old middle : WorldState) (entries : List Opening) (w : Written) : Type 0 where
  pub keeping : Keeping
  pub entries_are : entries ≡ kept kinds.Live out keeping ∷ []
  pub stored : RecordedInto options sources out old middle keeping w

given_not : (out : List ℕ) (keeping : Keeping) → kept kinds.Live out keeping ≡ refused kinds.Live out → ⊥
given_not out keeping same = both_ways true (ap (λ (e : Opening). e.given) same) refl

pub stored_there : (options : RecordOptions) (sources : List SourceState) (out : List ℕ) (old middle : WorldState) (entries : List Opening) (r : Report) (well : Bool) → IsWriting options sources out old middle entries (record { report = Some r; kept = well })
    → AreOpened ((kinds.Live, out) ∷ []) entries → IsStored options sources out old middle entries (record { report = Some r; kept = well })
stored_there options sources out old middle [] r well writing opened = absurd (let none = writing.0 in cc)
stored_there options sources out old middle (entry ∷ more) r well (inl none) opened = absurd (let gone = none.1 in cc)
stored_there options sources out old middle (entry ∷ more) r well (inr (keeping, is, stored)) (inl none) = absurd (given_not out keeping (sym is ∙ none.0))
stored_there options sources out old middle (entry ∷ more) r well (inr (keeping, is, stored)) (inr (other, other_is, last)) =
    record { keeping = keeping; entries_are = ap (λ (e : Opening). e ∷ more) is ∙ ap (λ (l : List Opening). kept kinds.Live out keeping ∷ l) last; stored = stored }

-- ---- what was read back

pub outputs_stay : (sound : Bool) (out : List ℕ) (middle new : WorldState) (back : Option Back) → ReadsBack sound out middle new back → new.output_faults ≡ middle.output_faults
outputs_stay sound out middle new None reads = ap (λ (w : WorldState). w.output_faults) reads.1
outputs_stay sound out middle new (Some back) reads = let name = reads.1.name in name.outputs

-- a failure before is one in the end
pub rose_later : (sound : Bool) (out : List ℕ) (old middle new : WorldState) (back : Option Back) (some : ℕ) → ReadsBack sound out middle new back → middle.faults ≡ added old.faults some → 1 ≤ some → Rose old.faults new.faults
rose_later sound out old middle new None some reads were more = omega (arith, were, more, ap (λ (w : WorldState). w.faults) reads.1)
rose_later sound out old middle new (Some back) some reads were more =
    let name = reads.1.name in
    let counts = name.counts in
    omega (arith, were, more, counts.world)

-- a failure of the reading back is one in the end
pub failed_rose : (out : List ℕ) (old middle new : WorldState) (failures faults : ℕ) (entries : List Opening) (failed : Bool) → middle.faults ≡ added old.faults failures → middle.input_faults ≡ added old.input_faults faults
    → NameRead kinds.Source out middle new entries failed → failed ≡ true → WorldRose old new
failed_rose out old middle new failures faults entries failed world inputs name is = elim (name.cause is) [
  | inl rose ↦ inl (omega (arith, world, rose))
  | inr rose ↦ inr (inl (omega (arith, inputs, rose)))
]

pub there_back : (sound : Bool) (out : List ℕ) (middle new : WorldState) (back : Option Back) → ReadsBack sound out middle new back → sound ≡ true → (b : Back) × (back ≡ Some b) × NameReadBack out middle new b
there_back sound out middle new None reads is = absurd (both_ways sound reads.0 is)
there_back sound out middle new (Some b) reads is = (b, refl, reads.1)

pub summed : (feeds : ℕ) (out : List ℕ) (reading : Reading Sums ReadingRefused) → (back_ending feeds out reading ≡ failing → ⊥) → troubles_in (back_ending feeds out reading) ≡ [] → is_lack (back_ending feeds out reading) ≡ false → (sums : Sums) × (reading ≡ readings.Opened (Ok sums))
summed feeds out (readings.Unopened outside_refusals.Failed) failed none enough = absurd (failed refl)
summed feeds out (readings.Unopened outside_refusals.Memory) failed none enough = absurd cc
summed feeds out (readings.Opened (Ok sums)) failed none enough = (sums, refl)
summed feeds out (readings.Opened (Err (refusals.Fault faults))) failed none enough = absurd (failed refl)
summed feeds out (readings.Opened (Err (refusals.Grammar n rule))) failed none enough = absurd cc
summed feeds out (readings.Opened (Err (refusals.Compressed n name))) failed none enough = absurd cc
summed feeds out (readings.Opened (Err (refusals.Limit n))) failed none enough = absurd cc
summed feeds out (readings.Opened (Err refusals.Memory)) failed none enough = absurd cc

same_came : (a b : Result Sums ReadingRefused) → readings.Opened a ≡ readings.Opened b → a ≡ b
same_came a b e = cc

-- where the name told these bytes, these are what was summed
pub summed_of : (out file : List ℕ) (world : WorldState) (told : Told) (entries : List Opening) (reading : Reading Sums ReadingRefused) (sums : Sums) → world.told ≡ Some told → told.names out ≡ Some file → IsSourceRead SumsComeTo out world entries reading → reading ≡ readings.Opened (Ok sums)
    → (before : SourceState) × (now : SourceState) × (before.left ≡ Some file) × SumsAll before now sums
summed_of out file world told entries reading sums here there is same =
    source_shows (λ (r : Reading Sums ReadingRefused). r ≡ readings.Opened (Ok sums) → (before : SourceState) × (now : SourceState) × (before.left ≡ Some file) × SumsAll before now sums)
    out file world told here there (λ why e. absurd cc) SumsComeTo
    (λ source now came left comes e. (source, now, left, subst (SumsComeTo source now) (same_came came (Ok sums) e) comes)) entries reading is same

-- ---- what was printed

pub all_taken : (before now : SinkState) (text : List ℕ) → Takes before now text → (Rose before.faults now.faults → ⊥) → TellsAll before now text
all_taken before now text takes still = elim takes.tells [
  | inl all ↦ all
  | inr part ↦ let rises = part.rises in absurd (still (omega (arith, rises.once)))
]
