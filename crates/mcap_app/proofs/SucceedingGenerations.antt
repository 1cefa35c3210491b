-- Feeds that are generated are recorded and read back, or memory lacked.
use Rattle.std.proofs.Common.{◌≡◌, ℕ, Bool, true, false, List, [], ◌∷◌, ◌++◌, map, Option, Some, None, Result, Ok, Err, refl, sym, ap, subst, inl, inr, arith}
use Rattle.std.specs.Prelude.{◌&&◌, IsUtf8}
use Rattle.std.specs.List.{AllZip, range_with_len}
use Rattle.mcap_io.specs.Outside.{SourceState, WorldState, Told, Keeping, Opening}
use Rattle.mcap_io.specs.declared.outside.OutsideRefused.{OutsideRefused}
use Rattle.mcap_io.specs.declared.outside.OutsideRefused.TheVariants as outside_refusals
use Rattle.rec_data.specs.declared.owned.Rec.{Rec}
use Rattle.mcap_model.specs.declared.ends.End.{End}
use Rattle.mcap_model.specs.declared.ends.End.TheVariants as ends
use Rattle.mcap_model.specs.declared.options.RecordOptions.{RecordOptions}
use Rattle.mcap_model.specs.declared.refusals.ReadingRefused.{ReadingRefused}
use Rattle.mcap_model.specs.declared.refusals.ReadingRefused.TheVariants as refusals
use Rattle.mcap_model.specs.Kept.{at_end, grammar as breaks, compressed as names, beyond}
use Rattle.mcap_model.specs.File.{file_of}
use Rattle.mcap_model.proofs.Places.{heads, tails}
use Rattle.mcap_model.proofs.Halting.{readings_halt_once}
use Rattle.recorder.specs.declared.report.Report.{Report}
use Rattle.recorder.specs.Recorded.{FeedRecorded, sides, AreReadable}
use Rattle.recorder.specs.Findings.{passes_limit, limit_passed}
use Rattle.recorder.specs.Laws.{ReadsAs}
use Rattle.recorder.proofs.ReadBack.{closed_file, recordings_are_read_back}
use Rattle.command_base.specs.declared.file_reading.Reading.{Reading}
use Rattle.command_base.specs.declared.file_reading.Reading.TheVariants as readings
use Rattle.command_base.specs.declared.statuses.Status.{Status}
use Rattle.command_base.specs.OneFile.{troubles_in}
use Rattle.command_base.specs.Texts.{Trouble, fault, output_fault, output_limit, no_memory, status_of}
use Rattle.command_base.specs.Ran.{Scene, counts_in, AnyRose, WorldRose, when}
use Rattle.command_base.proofs.ReadNames.{source_shows}
use Rattle.command_generate.specs.declared.sums.Sums.{Sums}
use Rattle.command_generate.specs.declared.making.Numbers.{Numbers}
use Rattle.command_generate.specs.Feeds.{feed_bytes}
use Rattle.command_generate.specs.Back.{Back, SumsComeTo, back_ending}
use Rattle.command_generate.specs.Making.{generated_source, sources_of, IsPutUnder, RecordedInto, IsWriting}
use Rattle.command_generate.specs.Allowed.{OptionsAllowed}
use Rattle.command_generate.specs.Generating.{writer_closed, is_sound, ReadsBack, halts_after, Generates}
use Rattle.mcap_app.specs.Completeness.{IsAllDone, Makes, CanBeRecorded, GenerationsSucceed}
use Rattle.mcap_app.proofs.Succeeding.{names_end, beyond_end, lane_gives, real, passes_nothing}

-- ---- what the lanes read

made_of : (numbers : Numbers) (feeds : List ℕ) (fs : List FeedRecorded) → map (generated_source numbers) feeds ≡ map (λ (f : FeedRecorded). f.before) fs → AllZip (λ (feed : ℕ) (f : FeedRecorded). Makes numbers feed f.reports.tops) feeds fs
made_of numbers [] [] same = tt
made_of numbers [] (f ∷ fs) same = absurd cc
made_of numbers (x ∷ xs) [] same = absurd cc
made_of numbers (x ∷ xs) (f ∷ fs) same =
    let first = heads (generated_source numbers x) f.before (map (generated_source numbers) xs) (map (λ (g : FeedRecorded). g.before) fs) same in
    let later = tails (generated_source numbers x) f.before (map (generated_source numbers) xs) (map (λ (g : FeedRecorded). g.before) fs) same in
    (lane_gives f.before f.now f.reports.tops f.feed.end (feed_bytes numbers.seed x numbers.messages) f.reports.ends (sym (ap (λ (s : SourceState). s.left) first)), made_of numbers xs fs later)

-- ---- the output

-- where there is a report, a store was given
stored : (options : RecordOptions) (sources : List SourceState) (out : List ℕ) (old middle : WorldState) (entries : List Opening) (r : Report) (well : Bool) → IsWriting options sources out old middle entries (record { report = Some r; kept = well })
    → (keeping : Keeping) × RecordedInto options sources out old middle keeping (record { report = Some r; kept = well })
stored options sources out old middle [] r well writing = absurd (let none = writing.0 in cc)
stored options sources out old middle (entry ∷ more) r well (inl none) = absurd (let gone = none.1 in cc)
stored options sources out old middle (entry ∷ more) r well (inr (keeping, is, into)) = (keeping, into)

unpassed : (options : RecordOptions) (numbers : Numbers) (out : List ℕ) (old middle : WorldState) (entries : List Opening) (report : Option Report) (well : Bool) → IsWriting options (sources_of numbers) out old middle entries (record { report = report; kept = well })
    → CanBeRecorded (Makes numbers) options (range_with_len 0 numbers.feeds) → limit_passed report ≡ false
unpassed options numbers out old middle entries None well writing can = refl
unpassed options numbers out old middle entries (Some r) well writing can = by (passes_limit r) refl
  where
    by : (b : Bool) → passes_limit r ≡ b → passes_limit r ≡ false
    by false is = is
    by true is =
        let (keeping, into) = stored options (sources_of numbers) out old middle entries r well writing in
        let (back, still, recorded) = into.reported r refl in
        let before = sides (sources_of numbers) into.live in
        let after = sides back into.live_now in
        absurd (passes_nothing (Makes numbers) options before after r recorded (range_with_len 0 numbers.feeds) (made_of numbers (range_with_len 0 numbers.feeds) recorded.feeds recorded.are.before_are) can (real options before after r recorded is))

-- ---- reading back

sound_parts : (end : End) (well : Bool) → (writer_closed end && well) ≡ true → (end ≡ ends.Closed) × (well ≡ true)
sound_parts ends.Closed true is = (refl, refl)
sound_parts ends.Closed false is = absurd cc
sound_parts (ends.Stopped stop) well is = absurd cc

-- the file of a closed recording halts no reading of it
unhalted : (feeds : ℕ) (out file : List ℕ) (history : List Rec) (reads : ReadsAs file history) (source now : SourceState) (came : Result Sums ReadingRefused) → source.left ≡ Some file → SumsComeTo source now came
    → troubles_in (back_ending feeds out (readings.Opened came)) ≡ []
unhalted feeds out file history reads source now (Ok sums) left comes = refl
unhalted feeds out file history reads source now (Err (refusals.Fault faults)) left comes = refl
unhalted feeds out file history reads source now (Err (refusals.Grammar n rule)) left (tops, so) = absurd (readings_halt_once file tops reads.tops (breaks n rule) (at_end reads.end) (so.halts file left) reads.halts).1
unhalted feeds out file history reads source now (Err (refusals.Compressed n name)) left (tops, so) = absurd (names_end n reads.end name (readings_halt_once file tops reads.tops (names n name) (at_end reads.end) (so.halts file left) reads.halts).1)
unhalted feeds out file history reads source now (Err (refusals.Limit n)) left (tops, so) = absurd (beyond_end n reads.end (readings_halt_once file tops reads.tops (beyond n) (at_end reads.end) (so.halts file left) reads.halts).1)
unhalted feeds out file history reads source now (Err refusals.Memory) left comes = refl

-- ---- the status

all_done : (halts : List Trouble) (out : List ℕ) (blamed limited printing lacked : Bool) (status : Status) → halts ≡ [] → (blamed ≡ true → ⊥) → limited ≡ false → (printing ≡ true → ⊥)
    → status ≡ status_of (halts ++ (when blamed (fault out) ++ (when limited (output_limit out) ++ (when printing output_fault ++ when lacked no_memory)))) → IsAllDone status
all_done (t ∷ ts) out blamed limited printing lacked status none unblamed within printed is = absurd cc
all_done [] out true limited printing lacked status none unblamed within printed is = absurd (unblamed refl)
all_done [] out false true printing lacked status none unblamed within printed is = absurd cc
all_done [] out false false true lacked status none unblamed within printed is = absurd (printed refl)
all_done [] out false false false true status none unblamed within printed is = inr is
all_done [] out false false false false status none unblamed within printed is = inl is

module _ (options : RecordOptions) (numbers : Numbers) (out : List ℕ) (told : Told) (old new : Scene) (status : Status) (allowed : OptionsAllowed options) (utf8 : IsUtf8 options.file.profile) (here : old.world.told ≡ Some told) where
  unopened : (why : OutsideRefused) → troubles_in (back_ending numbers.feeds out (readings.Unopened why)) ≡ []
  unopened outside_refusals.Failed = refl
  unopened outside_refusals.Memory = refl

  read_back : (report : Option Report) (it : Generates options numbers out old new report status) (back : Back) → is_sound report it.kept ≡ true → ReadsBack (is_sound report it.kept) out it.middle new.world (Some back)
      → troubles_in (back_ending numbers.feeds out back.reading) ≡ []
  read_back None it back sound reads = absurd cc
  read_back (Some r) it back sound (is, name) =
      let (closed, well) = sound_parts r.writer.end it.kept sound in
      let (keeping, into) = stored options (sources_of numbers) out old.world it.middle it.written.entries r it.kept it.written.writing in
      let (sources, still, recorded) = into.reported r refl in
      let left = it.written.leaves told here in
      let file = file_of options.file [] recorded.history in
      let short = allowed.short in
      let readable : AreReadable options.file = record { profile = utf8; short = omega (arith, short); size = allowed.size } in
      let adds = (closed_file options (sides (sources_of numbers) into.live) (sides sources into.live_now) r recorded closed).1 in
      let held : into.live_now.held ≡ Some file = adds [] (into.empty told here) in
      let there : left.0.names out ≡ Some file = subst (λ (b : Bool). IsPutUnder file b (told.names out) (left.0.names out)) well (into.placed told left.0 file here left.1 held) in
      let reads : ReadsAs file recorded.history = (recordings_are_read_back options (sides (sources_of numbers) into.live) (sides sources into.live_now) r readable recorded closed).0 in
      source_shows (λ (x : Reading Sums ReadingRefused). troubles_in (back_ending numbers.feeds out x) ≡ []) out file it.middle left.0 left.1 there unopened SumsComeTo (unhalted numbers.feeds out file recorded.history reads) name.entries back.reading name.reading

  unhalted_after : (report : Option Report) (it : Generates options numbers out old new report status) (back : Option Back) → ReadsBack (is_sound report it.kept) out it.middle new.world back → halts_after numbers.feeds out back ≡ []
  unhalted_after report it None reads = refl
  unhalted_after report it (Some back) reads = read_back report it back reads.0 reads

pub generations_succeed : GenerationsSucceed
generations_succeed options numbers out told old new report status allowed utf8 it calm can =
    let written = it.written in
    all_done (halts_after numbers.feeds out it.back) out it.blamed (limit_passed report) it.printing it.lacked status
    (unhalted_after options numbers out told old new status allowed utf8 calm.tells report it it.back it.reads)
    (λ is. calm.quiet (any (it.blame.0 is)))
    (unpassed options numbers out old.world it.middle written.entries report it.kept written.writing can)
    (λ is. calm.quiet (inr (inr (inr (it.print_blame.0 is)))))
    it.said.status_is
  where
    any : WorldRose old.world new.world → AnyRose (counts_in old) (counts_in new)
    any (inl world) = inl world
    any (inr (inl inputs)) = inr (inl inputs)
    any (inr (inr outputs)) = inr (inr (inl outputs))
