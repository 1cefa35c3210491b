-- What is recorded keeps all rules.
use Rattle.std.proofs.Common.{◌≡◌, ◌⊎◌, ℕ, ◌≤◌, List, [], ◌++◌, length, Option, Some, None, Ok, Err, refl, ap, subst, inl, inr, ◌∙◌, arith, length-append}
use Rattle.std.specs.Prelude.{IsUtf8}
use Rattle.std.proofs.lemmas.Bool.{both_ways}
use Rattle.mcap_wire.specs.Layout.{magic}
use Rattle.mcap_io.specs.Outside.{WorldState, Told}
use Rattle.mcap_model.specs.declared.checked.Verdict.{Verdict}
use Rattle.mcap_model.specs.declared.checked.Verdict.TheVariants as verdicts
use Rattle.mcap_model.specs.declared.options.FileOptions.{FileOptions}
use Rattle.mcap_model.specs.Tops.{Top, spelled}
use Rattle.mcap_model.specs.Kept.{Halt, HaltsAt, Halts, reading_limits, is_beyond, at_end, grammar as breaks, compressed as names, beyond, no_magic, at_data_end, behind_kept}
use Rattle.mcap_model.specs.Readings.{SameHalt}
use Rattle.mcap_model.specs.File.{file_of}
use Rattle.mcap_model.specs.Places.{At, Each}
use Rattle.mcap_model.specs.Fields.{IsFooter}
use Rattle.mcap_model.specs.Summary.{footer_of_offsets}
use Rattle.mcap_model.specs.Valid.{IsFullyIndexed}
use Rattle.mcap_model.specs.Laws.{CanBeWritten}
use Rattle.rec_data.specs.declared.owned.Rec.{Rec}
use Rattle.rec_data.proofs.Contents.{footer_shown}
use Rattle.mcap_model.proofs.Places.{at_none}
use Rattle.mcap_model.proofs.Edges.{header_top}
use Rattle.mcap_model.proofs.Files.{body_tops, footer_top, written_tops, file_spelled, whole_of}
use Rattle.mcap_model.proofs.Front.{IsTail, summary_only}
use Rattle.mcap_model.proofs.Body.{standing, header_is, body_right}
use Rattle.mcap_model.proofs.WholeFiles.{whole_files_are_one}
use Rattle.mcap_model.proofs.Halting.{readings_halt_once}
use Rattle.mcap_model.proofs.Prefixes.{ends_there}
use Rattle.mcap_model.proofs.Fronts.{fronts_keep_whole}
use Rattle.mcap_model.proofs.Flaws.{flaws_exclude_validity}
use Rattle.mcap_model.specs.declared.options.RecordOptions.{RecordOptions}
use Rattle.recorder.specs.declared.report.Report.{Report}
use Rattle.recorder.specs.Laws.{ReadsAs, IsSoundFile}
use Rattle.recorder.proofs.Validity.{recordings_are_valid}
use Rattle.mcap_io.specs.declared.outside.OutsideRefused.TheVariants as outside_refusals
use Rattle.mcap_model.specs.declared.refusals.ReadingRefused.{ReadingRefused}
use Rattle.mcap_model.specs.declared.refusals.ReadingRefused.TheVariants as refusals
use Rattle.mcap_model.specs.declared.rules.Rule.TheVariants as rules
use Rattle.file_check.specs.Checking.{IsSo, HaltsBefore, MeetsReadingLimit}
use Rattle.file_check.proofs.RealLimits.{limits_are_real}
use Rattle.command_base.specs.declared.statuses.Status.{Status}
use Rattle.command_base.specs.declared.statuses.Status.TheVariants as statuses
use Rattle.command_base.specs.declared.file_reading.Reading.{Reading}
use Rattle.command_base.specs.declared.file_reading.Reading.TheVariants as readings
use Rattle.command_read.specs.Check.{verdict_status, Decides, FileChecks}
use Rattle.command_base.specs.Ran.{Scene, counts_in, AnyRose}
use Rattle.command_record.specs.RecordSteps.{AreAllowed}
use Rattle.mcap_app.specs.Laws.{IsSaid, PrintsSound, RecordingsAreSound}
use Rattle.mcap_app.proofs.Recordings.{Recording, of_watched}
use Rattle.mcap_app.proofs.RoundTrip.{closed_left}

-- ---- no compression

abbrev EndsOrBreaks : Halt → Type 0
EndsOrBreaks (at_end n) = Unit {0}
EndsOrBreaks (breaks n rule) = Unit {0}
EndsOrBreaks (names n name) = ⊥
EndsOrBreaks (beyond n) = ⊥

same_ends : (halt other : Halt) → SameHalt halt other → EndsOrBreaks other → EndsOrBreaks halt
same_ends (at_end n) other same ends = tt
same_ends (breaks n rule) other same ends = tt
same_ends (names n name) (at_end m) same ends = absurd cc
same_ends (names n name) (breaks m rule) same ends = same
same_ends (names n name) (names m other) same ends = ends
same_ends (names n name) (beyond m) same ends = ends
same_ends (beyond n) (at_end m) same ends = absurd cc
same_ends (beyond n) (breaks m rule) same ends = same
same_ends (beyond n) (names m other) same ends = ends
same_ends (beyond n) (beyond m) same ends = ends

-- bytes of which a reading halts for another reason than a missing magic have one
long : (bytes : List ℕ) (tops : List Top) (halt : Halt) → HaltsAt reading_limits bytes tops halt → (halt ≡ breaks 0 rules.V1 → ⊥) → 8 ≤ length bytes
long bytes tops halt (no_magic none) other = absurd (other refl)
long bytes tops halt (at_data_end rest stand ended) other = omega (arith, ap length stand.split, length-append magic (spelled tops ++ rest))
long bytes tops halt (behind_kept rest stand unended why there) other = omega (arith, ap length stand.split, length-append magic (spelled tops ++ rest))

-- where a file is read to its Data End, a reading in front of its last magic meets no compression
reads_on : (file : List ℕ) (tops : List Top) (end : ℕ) → Halts reading_limits file tops (at_end end) → (halt : Halt) → (halt ≡ breaks 0 rules.V1 → ⊥) → HaltsBefore file halt → EndsOrBreaks halt
reads_on file tops end halts halt other (inner, others, is, found) =
    let (rest, stand, ended) = ends_there file tops (at_end end) end halts.there refl in
    let keeps = fronts_keep_whole file inner magic tops rest stand halts.kept.good ended is (long inner others halt found.there other) in
    elim keeps.halts [
      | inl all ↦ same_ends halt _ (readings_halt_once inner others keeps.whole halt _ found all.1).1 tt
      | inr cut ↦ same_ends halt _ (readings_halt_once inner others keeps.whole halt _ found cut.1).1 tt
    ]

-- ---- a file without chunks

no_foot : IsFooter (footer_top 0 0 0) 0 0 0
no_foot = record { kind = refl; layout = footer_shown (footer_of_offsets 0 0 0) (omega arith) (omega arith) (omega arith) }

no_tail : Each IsTail []
no_tail k t there = absurd (at_none k t there)

abbrev options_at : List ℕ → Option ℕ → Option ℕ → FileOptions
options_at profile chunk span = record { profile = profile; chunk = chunk; span = span }

abbrev plain_of : List ℕ → Option ℕ → FileOptions
plain_of profile span = options_at profile None span

-- it has no Statistics
plain_unindexed : (profile : List ℕ) (span : Option ℕ) (history : List Rec) → CanBeWritten (plain_of profile span) [] history → IsFullyIndexed (file_of (plain_of profile span) [] history) → ⊥
plain_unindexed profile span history written (tops, full) =
    let options = plain_of profile span in
    let stand = standing options [] history written in
    let all = written_tops options [] history in
    let file = file_of options [] history in
    let same : tops ≡ all = whole_files_are_one file tops all full.valid.v4 (whole_of file all (file_spelled options [] history) written.size_fits) in
    let (n, t, at, within, kind) = full.statistics in
    let (j, is, second) = summary_only (header_top profile) (body_tops options [] history) [] (footer_top 0 0 0) 0 0 0 (header_is options [] history stand) (body_right options [] history stand) no_tail no_foot
    11 (λ e. omega (arith, e)) (λ e. omega (arith, e)) (λ e. omega (arith, e)) refl n t (subst (λ (l : List Top). At l n t) same at) kind in
    at_none j t second

unindexed_at : (profile : List ℕ) (chunk span : Option ℕ) (history : List Rec) → CanBeWritten (options_at profile chunk span) [] history → chunk ≡ None → IsFullyIndexed (file_of (options_at profile chunk span) [] history) → ⊥
unindexed_at profile None span history written none full = plain_unindexed profile span history written full
unindexed_at profile (Some size) span history written none full = absurd cc

unindexed : (options : FileOptions) (history : List Rec) → CanBeWritten options [] history → options.chunk ≡ None → IsFullyIndexed (file_of options [] history) → ⊥
unindexed options history written none full = unindexed_at options.profile options.chunk options.span history written none full

-- ---- the check

-- a file that is sound, and not fully indexed where there are no chunks
pub record IsExact (options : FileOptions) (file : List ℕ) : Type 0 where
  pub sound : IsSoundFile options file
  pub plain : options.chunk ≡ None → IsFullyIndexed file → ⊥

plain_said : (chunk : Option ℕ) (file : List ℕ) → ((size : ℕ) → chunk ≡ Some size → IsFullyIndexed file) → (IsFullyIndexed file → ⊥) → chunk ≡ None
plain_said None file indexed missing = refl
plain_said (Some size) file indexed missing = absurd (missing (indexed size refl))

said_of : (options : FileOptions) (file : List ℕ) (verdict : Verdict) → IsExact options file → IsSo file verdict → IsSaid options.chunk verdict
said_of options file (verdicts.Indexed n) exact (tops, full, counted) = λ none. let plain = exact.plain in plain none (tops, full)
said_of options file (verdicts.Plain n) exact (tops, valid, missing, counted) = plain_said options.chunk file exact.sound.indexed missing
said_of options file (verdicts.Flawed rule offset) exact so = flaws_exclude_validity file rule offset so exact.sound.valid

verdict_ends : (chunk : Option ℕ) (verdict : Verdict) (answer : Status) → IsSaid chunk verdict → answer ≡ verdict_status verdict → answer ≡ statuses.Done
verdict_ends chunk (verdicts.Indexed n) answer said why = why
verdict_ends chunk (verdicts.Plain n) answer said why = why
verdict_ends chunk (verdicts.Flawed rule offset) answer said why = absurd said

-- a file whose records are within the limits of reading meets none
meets_none : (options : FileOptions) (file : List ℕ) (offset : ℕ) → IsSoundFile options file → MeetsReadingLimit file offset → ⊥
meets_none options file offset sound meets =
    let (tops, valid) = sound.valid in
    let past = limits_are_real file tops offset valid.v4 meets in
    let (n, at, there) = past.at in
    let within = sound.within in
    both_ways (is_beyond reading_limits offset (length past.top.content)) (ap (λ (k : ℕ). is_beyond reading_limits k (length past.top.content)) there ∙ within tops n past.top valid.v4 at) past.past

-- the status where the bytes of a sound file decide it
ends_well : (options : FileOptions) (file : List ℕ) (tops : List Top) (end : ℕ) (reading : Reading Verdict ReadingRefused) (answer : Status) → IsExact options file → Halts reading_limits file tops (at_end end)
    → Decides file reading answer → (answer ≡ statuses.Done) ⊎ (answer ≡ statuses.Memory)
ends_well options file tops end (readings.Unopened outside_refusals.Failed) answer exact halts is = absurd is
ends_well options file tops end (readings.Unopened outside_refusals.Memory) answer exact halts is = inr is
ends_well options file tops end (readings.Opened (Ok verdict)) answer exact halts is = inl (verdict_ends options.chunk verdict answer (said_of options file verdict exact is.0) is.1)
ends_well options file tops end (readings.Opened (Err (refusals.Fault faults))) answer exact halts is = absurd is
ends_well options file tops end (readings.Opened (Err (refusals.Grammar n rule))) answer exact halts is = absurd is
ends_well options file tops end (readings.Opened (Err (refusals.Compressed n name))) answer exact halts is = absurd (reads_on file tops end halts (names n name) (λ e. absurd cc) is.0)
ends_well options file tops end (readings.Opened (Err (refusals.Limit n))) answer exact halts is = absurd (meets_none options file n exact.sound is.0)
ends_well options file tops end (readings.Opened (Err refusals.Memory)) answer exact halts is = inr is

-- a check of such a file that is read to its Data End, in which no count rises
pub found_sound : (options : FileOptions) (file name : List ℕ) (tops : List Top) (end : ℕ) (later last : Scene) (told : Told) (answer : Status) → IsExact options file → Halts reading_limits file tops (at_end end) → later.world.told ≡ Some told
    → told.names name ≡ Some file → FileChecks name later last answer → (AnyRose (counts_in later) (counts_in last) → ⊥) → ((answer ≡ statuses.Done) × PrintsSound options.chunk later.out last.out) ⊎ (answer ≡ statuses.Memory)
found_sound options file name tops end later last told answer exact halts here held checks quiet =
    let decided = checks.decided told file here held quiet in
    elim (ends_well options file tops end checks.reads.reading answer exact halts decided) [
      | inr other ↦ inr other
      | inl done ↦
          let given = checks.whole done in
          let so : IsSo file given.0 = (subst (λ (r : Reading Verdict ReadingRefused). Decides file r answer) given.1 decided).0 in
          inl (done, record { verdict = given.0; said = said_of options file given.0 exact so; line = given.3 })
    ]

-- a check of the output of a recording in which all was done
pub checked_so : (options : RecordOptions) (out : List ℕ) (old new : WorldState) (later last : Scene) (r : Report) (answer : Status) (told : Told) → AreAllowed options → IsUtf8 options.file.profile
    → Recording options out old new r statuses.Done → old.told ≡ Some told
    → later.world ≡ new → FileChecks out later last answer → (AnyRose (counts_in later) (counts_in last) → ⊥)
    → ((answer ≡ statuses.Done) × PrintsSound options.file.chunk later.out last.out) ⊎ (answer ≡ statuses.Memory)
checked_so options out old new later last r answer told allowed text it here same checks quiet =
    let history = it.recorded.history in
    let left = it.goes_on told here in
    let stands = closed_left options out old new r told allowed text it here in
    let file = file_of options.file [] history in
    let held : left.0.names out ≡ Some file = stands.2 in
    let reads : ReadsAs file history = stands.3 in
    let valid = recordings_are_valid options it.before it.after r stands.1 it.recorded stands.0 in
    let exact : IsExact options.file file = record { sound = valid.1; plain = unindexed options.file history valid.0 } in
    let tells : later.world.told ≡ Some left.0 = ap (λ (w : WorldState). w.told) same ∙ left.1 in
    found_sound options.file file out reads.tops reads.end later last left.0 answer exact reads.halts tells held checks quiet

pub recordings_are_sound : RecordingsAreSound
recordings_are_sound options range out watches feeds old new later last r answer told allowed text it here same checks quiet =
    checked_so options out old.world new.world later last r.recorded answer told allowed text (of_watched options range out watches feeds old new r statuses.Done it) here same checks quiet
