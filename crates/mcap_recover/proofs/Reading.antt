-- What is kept with a record of a source more, and how the reading of a first record is answered.
use Rattle.std.proofs.Common.{◌≡◌, ℕ, List, [], ◌∷◌, length, Option, Result, Ok, Err, refl, sym, ap, subst, inl, inr, arith}
use Rattle.rec_data.specs.Fields.{HeaderFields}
use Rattle.rec_data.specs.Records.{ShowsHeader}
use Rattle.mcap_io.specs.Outside.{SourceState, LiveState}
use Rattle.mcap_model.specs.declared.options.FileOptions.{FileOptions}
use Rattle.mcap_model.specs.declared.ends.Stop.{Stop}
use Rattle.mcap_model.specs.declared.replay.Place.{Place}
use Rattle.mcap_model.specs.declared.rules.Rule.{Rule}
use Rattle.mcap_model.specs.declared.rules.Rule.TheVariants as rules
use Rattle.mcap_model.specs.declared.refusals.ReadingRefused.{ReadingRefused}
use Rattle.mcap_model.specs.declared.refusals.ReadingRefused.TheVariants as scans
use Rattle.mcap_model.specs.Tops.{Top, Placed}
use Rattle.mcap_model.specs.Rules.{V1}
use Rattle.mcap_model.specs.Kept.{reading_limits, Halt, grammar, compressed, beyond, HaltsAt, no_magic, at_data_end, behind_kept}
use Rattle.mcap_model.specs.Made.{top}
use Rattle.mcap_model.specs.Repaired.{Repairs}
use Rattle.mcap_model.proofs.Places.{at_none}
use Rattle.mcap_scan.specs.declared.reader.Stage.{Stage}
use Rattle.mcap_scan.specs.declared.reader.Stage.TheVariants as stages
use Rattle.mcap_scan.specs.Scanning.{IsOver, IsGoing}
use Rattle.mcap_scan.specs.RefusedReadings.{RefusalStands}
use Rattle.mcap_scan.proofs.Scanning.{good_stand, lacks_behind}
use Rattle.mcap_scan.specs.declared.flat_reader.FlatReader.{FlatReader}
use Rattle.mcap_scan.specs.Walking.{flat_content, IsHeldFrame, ahead_of, FlatStands, FlatGives, FlatFinds, FlatRefuses, IsFlatDone}
use Rattle.chunk_writer.specs.Scribes.{KeepsOn, phase_of}
use Rattle.chunk_writer.specs.declared.phase.Phase.TheVariants as phases
use Rattle.record_keeping.specs.declared.keeping.Keeping.{Keeping}
use Rattle.record_keeping.specs.declared.ending.Over.TheVariants as overs
use Rattle.record_keeping.specs.Keeping.{AddsOneRecord, HasWritten}
use Rattle.record_keeping.specs.NewFiles.{HasMagic}
use Rattle.record_keeping.specs.Readings.{RepairsGiven, KeepsNone}
use Rattle.record_keeping.proofs.Keepings.{stopped_more}
use Rattle.record_keeping.proofs.Reading.{ended_some, header_alone, reading_on, stopped_reading, ended_reading, refused_reading}
use Rattle.record_keeping.proofs.Ripe.{wrote_first}
use Rattle.mcap_recover.specs.declared.answers.RecoverRefused.{RecoverRefused}
use Rattle.mcap_recover.specs.declared.answers.RecoverRefused.TheVariants as refusals
use Rattle.mcap_recover.specs.Readings.{stands_kept, Repairing, origin, ReadingCameToEnd, IsStopped, BeginsReading, StartsSo, IsBreak, HaltsStart}
use Rattle.mcap_recover.specs.Recovering.{lacks, BreaksOff, HasHalted}
use denote.Ref.{Bor}

-- one record more was read, and kept
pub repairing_on : {L : Type 0} (seen : L → LiveState) (options : FileOptions) (before mid now : SourceState) (opened : LiveState) (flat next : FlatReader) (k after : Keeping L) (op : ℕ) (place : Place) (frame : Option (Bor (List ℕ)))
    → (was : Repairing seen options before mid opened flat k) → (IsFlatDone flat → ⊥) → FlatGives next before now was.tops was.given op place → IsHeldFrame next frame → AddsOneRecord seen k after frame (top op (flat_content next))
    → Repairing seen options before now opened next after
repairing_on seen options before mid now opened flat next k after op place frame was undone gives held takes =
    reading_on (stands_kept seen options opened k) (stands_kept seen options opened after) options.profile before mid now flat next op place frame was undone gives held
    (λ rs zip keeps. takes rs zip options was.extras opened was.history keeps)

-- it was read, and the writer stopped at what it shows: it stands for the records of the chunk too that weren't given
pub stopped_on_it : {L : Type 0} (seen : L → LiveState) (options : FileOptions) (before mid now : SourceState) (opened : LiveState) (flat next : FlatReader) (k after : Keeping L) (op : ℕ) (place : Place) (frame : Option (Bor (List ℕ))) (stop : Stop)
    → (was : Repairing seen options before mid opened flat k) → (IsFlatDone flat → ⊥) → FlatGives next before now was.tops was.given op place → IsHeldFrame next frame → AddsOneRecord seen k after frame (top op (flat_content next))
    → phase_of k.scribe ≡ phases.Going → KeepsOn (seen k.scribe.store).held (seen after.scribe.store).held → phase_of after.scribe ≡ phases.Stopped stop → IsStopped seen options before now opened after stop
stopped_on_it seen options before mid now opened flat next k after op place frame stop was undone gives held takes going on stopped = (
  stopped_reading (stands_kept seen options opened k) (stands_kept seen options opened after) (stands_kept seen options opened after) (HasWritten seen options opened after) options.profile before mid now flat next op place frame was undone gives held
      (λ rs zip keeps. takes rs zip options was.extras opened was.history keeps)
      (λ later ss. stopped_more seen options later.extras opened later.history ss after stop stopped later.keeps)
      (λ earlier others first more good repairs is. wrote_first seen options was.extras opened was.history first more k after was.keeps going on is),
  stopped,
)

-- the Data End was given
pub ended_over : {L : Type 0} (seen : L → LiveState) (options : FileOptions) (before mid now : SourceState) (opened : LiveState) (flat next : FlatReader) (k : Keeping L) (offset : ℕ)
    → (was : Repairing seen options before mid opened flat k) → FlatFinds next before now was.tops was.given offset → ReadingCameToEnd seen (origin options before opened) now next.reader k (overs.Ended offset)
ended_over seen options before mid now opened flat next k offset was finds = ended_reading (stands_kept seen options opened k) options.profile before mid now flat next offset was finds

-- the reading was refused
pub refused_over : {L : Type 0} (seen : L → LiveState) (options : FileOptions) (before mid now : SourceState) (opened : LiveState) (flat next : FlatReader) (k : Keeping L)
    → (was : Repairing seen options before mid opened flat k) → FlatRefuses next before now was.tops was.given → ReadingCameToEnd seen (origin options before opened) now next.reader k overs.Refused
refused_over seen options before mid now opened flat next k was refuses = refused_reading (stands_kept seen options opened k) options.profile before mid now flat next was refuses

-- ---- the first record

grammar_place : (at : ℕ) (rule : Rule) → grammar at rule ≡ grammar 0 rules.V1 → at ≡ 0
grammar_place at rule is = cc

-- bytes whose reading halts elsewhere begin with the magic
magic_by : (bytes : List ℕ) (halt : Halt) → HaltsAt reading_limits bytes [] halt → (halt ≡ grammar 0 rules.V1 → ⊥) → V1 bytes
magic_by bytes halt (no_magic none) other = absurd (other refl)
magic_by bytes halt (at_data_end rest stands ended) other = (rest, stands.split)
magic_by bytes halt (behind_kept rest stands unended it there) other = (rest, stands.split)

-- the reading was refused for what breaks it off
breaks_off : (why : ReadingRefused) (before now : SourceState) (tops : List Top) → RefusalStands why before now tops → IsBreak why → BreaksOff why before now tops
breaks_off (scans.Fault faults) before now tops it few = it
breaks_off (scans.Grammar offset rule) before now tops it few = absurd few
breaks_off (scans.Compressed offset name) before now tops it few = absurd few
breaks_off (scans.Limit offset) before now tops it few = absurd few
breaks_off scans.Memory before now tops it few = it

pub begun_refused : (flat : FlatReader) (before now : SourceState) (why : ReadingRefused) (result : Result (List ℕ) RecoverRefused) → FlatStands flat before now [] [] → IsFlatDone flat → RefusalStands why before now [] → StartsSo why result → BeginsReading before now flat result
begun_refused flat before now why (Ok profile) was done stands (none, halts) = record {
  tops = [];
  given = [];
  stands = was;
  good = λ n t at. absurd (at_none n t at);
  read = λ bytes told. inl refl;
  magic = has_magic why stands halts;
  begun = λ same. (done, refl, keeps_none why stands halts);
  repairs = subst (λ (l : List ℕ). RepairsGiven [] [] l [] []) (sym none) (record { profile_is = refl; extras_are = refl; flattened = []; are_flattened = tt; history_is = refl });
  shows = record {
    first = [];
    good = λ n t at. absurd (at_none n t at);
    stopped = inr (refl, halted why stands halts);
    none = λ same. keeps_none why stands halts;
    repairs = subst (λ (l : List ℕ). Repairs [] l [] []) (sym none) (record { profile_is = refl; extras_are = refl; flattened = []; are_flattened = tt; history_is = refl });
  };
  short = (let size = ap (λ (l : List ℕ). length l) none in omega (arith, size));
  still = start_still why stands halts;
}
  where
    start_still : (w : ReadingRefused) → RefusalStands w before now [] → HaltsStart w → now.faults ≡ before.faults
    start_still (scans.Fault faults) it start = absurd start
    start_still (scans.Grammar at rule) it start = it.still
    start_still (scans.Compressed at name) it start = it.still
    start_still (scans.Limit at) it start = it.still
    start_still scans.Memory it start = absurd start

    halted : (w : ReadingRefused) → RefusalStands w before now [] → HaltsStart w → HasHalted before now []
    halted (scans.Fault faults) it start = absurd start
    halted (scans.Grammar at rule) it start = (grammar at rule, it)
    halted (scans.Compressed at name) it start = (compressed at name, it)
    halted (scans.Limit at) it start = (beyond at, it)
    halted scans.Memory it start = absurd start

    has_magic : (w : ReadingRefused) → RefusalStands w before now [] → HaltsStart w → HasMagic before
    has_magic (scans.Fault faults) it start = absurd start
    has_magic (scans.Grammar at rule) it start = λ bytes told. magic_by bytes (grammar at rule) (it.halts bytes told).there (λ is. start (grammar_place at rule is))
    has_magic (scans.Compressed at name) it start = λ bytes told. magic_by bytes (compressed at name) (it.halts bytes told).there (λ is. cc)
    has_magic (scans.Limit at) it start = λ bytes told. magic_by bytes (beyond at) (it.halts bytes told).there (λ is. cc)
    has_magic scans.Memory it start = absurd start

    keeps_none : (w : ReadingRefused) → RefusalStands w before now [] → HaltsStart w → KeepsNone before
    keeps_none (scans.Fault faults) it start = absurd start
    keeps_none (scans.Grammar at rule) it start = λ bytes told. (it.halts bytes told).kept
    keeps_none (scans.Compressed at name) it start = λ bytes told. (it.halts bytes told).kept
    keeps_none (scans.Limit at) it start = λ bytes told. (it.halts bytes told).kept
    keeps_none scans.Memory it start = absurd start
begun_refused flat before now why (Err refusals.NoMagic) was done stands (rule, is) = (rule, subst (λ w. RefusalStands w before now []) is stands)
begun_refused flat before now why (Err (refusals.Refused told)) was done stands (same, breaks) = record {
  tops = [];
  good = λ n t at. absurd (at_none n t at);
  few = inl refl;
  broken = breaks_off told before now [] (subst (λ w. RefusalStands w before now []) same stands) breaks;
}
begun_refused flat before now why (Err (refusals.Stopped stop)) was done stands is = absurd is

-- the Header was read, and memory lacked for its profile
pub begun_lacks : (flat : FlatReader) (before now : SourceState) (op : ℕ) (place : Place) → FlatGives flat before now [] [] op place → ((f : HeaderFields) → ShowsHeader (flat_content flat) f → f.profile ≡ [] → ⊥) → BeginsReading before now flat (Err lacks)
begun_lacks flat before now op place gives named =
    let stands = gives.stands in
    record {
      tops = gives.tops;
      good = good_stand flat.reader before now gives.tops gives.going stands.stands;
      few = inr (refl, header_alone flat before now op place gives named);
      broken = lacks_behind flat.reader before now gives.tops gives.going stands.stands;
    }

-- no Data End is given before a record
pub none_ended : (flat : FlatReader) (before now : SourceState) (offset : ℕ) → FlatFinds flat before now [] [] offset → ⊥
none_ended flat before now offset finds = let end = finds.finds in let is = end.is in ended_some finds.tops is.ended finds.same

-- of a reader that keeps a refusal nothing is due
refused_done : (flat : FlatReader) (before now : SourceState) (tops : List Top) (given : List Placed) (why : ReadingRefused) → flat.reader.stage ≡ stages.Stopped why → FlatStands flat before now tops given → IsFlatDone flat
refused_done flat before now tops given why stage was = (subst IsOver (sym stage) tt, by (ahead_of flat) was.going)
  where
    by : (ahead : List Placed) → ((ahead ≡ [] → ⊥) → IsGoing flat.reader.stage) → ahead ≡ []
    by [] going = refl
    by (p ∷ ps) going = absurd (subst IsGoing stage (going (λ none. let size : length (p ∷ ps) ≡ 0 = ap length none in omega (arith, size))))

pub refused_begun : (flat : FlatReader) (before now : SourceState) (why : ReadingRefused) (result : Result (List ℕ) RecoverRefused) → FlatRefuses flat before now [] [] → flat.reader.stage ≡ stages.Stopped why → StartsSo why result → BeginsReading before now flat result
refused_begun flat before now why result refuses stage starts =
    let it = refuses.refuses in
    let none = refuses.same in
    let same : it.why ≡ why = one_why flat.reader.stage it.why why it.stage stage in
    begun_refused flat before now why result
    (subst (λ (l : List Top). FlatStands flat before now l []) none refuses.stands)
    (refused_done flat before now [] [] why stage (subst (λ (l : List Top). FlatStands flat before now l []) none refuses.stands))
    (subst (λ w. RefusalStands w before now []) same (subst (λ (l : List Top). RefusalStands it.why before now l) none it.stands)) starts
  where
    one_why : (s : Stage) (v w : ReadingRefused) → s ≡ stages.Stopped v → s ≡ stages.Stopped w → v ≡ w
    one_why s v w one two = cc
