-- What a recovery leaves where it ends.
use Rattle.std.proofs.Common.{◌≡◌, ℕ, ◌+◌, List, [], ◌++◌, length, Result, Ok, Err, refl, sym, ap, subst, inl, inr, ◌∙◌, append-nil, arith}
use Rattle.std.specs.Prelude.{filter}
use Rattle.rec_data.specs.declared.owned.Rec.{Rec}
use Rattle.mcap_io.specs.Outside.{SourceState, LiveState}
use Rattle.mcap_model.specs.declared.ends.Stop.{Stop}
use Rattle.mcap_model.specs.Tops.{Top, spelled, offset_behind}
use Rattle.mcap_model.specs.Rules.{V1}
use Rattle.mcap_model.specs.Kept.{reading_limits, Halt, at_end, grammar, compressed, beyond, HaltsThere, HaltsAt, no_magic, behind_kept, at_data_end, short_head, zero_opcode, past_limit, cut_short, packed_chunk, broken_rule}
use Rattle.mcap_model.specs.History.{is_message}
use Rattle.mcap_model.specs.Histories.{written_of}
use Rattle.mcap_model.specs.Repaired.{is_extra}
use Rattle.mcap_model.proofs.Places.{at_none}
use Rattle.mcap_model.specs.declared.refusals.ReadingRefused.{ReadingRefused}
use Rattle.mcap_model.specs.declared.refusals.ReadingRefused.TheVariants as scans
use Rattle.mcap_model.specs.declared.rules.Rule.{Rule}
use Rattle.mcap_scan.specs.declared.reader.Reader.{Reader}
use Rattle.mcap_scan.specs.RefusedReadings.{HaltsSo, RefusalStands}
use Rattle.mcap_scan.specs.Sources.{ReadFromFront}
use Rattle.mcap_scan.specs.declared.flat_reader.FlatReader.{FlatReader}
use Rattle.chunk_writer.specs.Stops.{numbers, StopsAt, StopCause}
use Rattle.chunk_writer.specs.Scribes.{phase_of, blocks_of, planned_bytes}
use Rattle.chunk_writer.specs.declared.phase.Phase.TheVariants as phases
use Rattle.record_keeping.specs.declared.keeping.Keeping.{Keeping}
use Rattle.record_keeping.specs.declared.ending.Over.{Over}
use Rattle.record_keeping.specs.declared.ending.Over.TheVariants as overs
use Rattle.record_keeping.specs.Keeping.{KeepingStandsFor}
use Rattle.record_keeping.specs.Ending.{OverSo}
use Rattle.record_keeping.specs.NewFiles.{recovered_options, OfRepaired, StandsPart, StandsRipe}
use Rattle.record_keeping.specs.Readings.{BeginsFile}
use Rattle.record_keeping.proofs.Reading.{good_within, begin_reading}
use Rattle.record_keeping.proofs.Ripe.{cut_stopped, cut_over, cut_begun, first_begins}
use Rattle.record_keeping.proofs.Given.{not_none}
use Rattle.record_keeping.proofs.Files.{of_longer, of_exact, nothing_stands, going_part, filter_few, tops_few, history_few, all_counted}
use Rattle.mcap_recover.specs.declared.answers.Recovered.{Recovered}
use Rattle.mcap_recover.specs.declared.answers.Why.{Why}
use Rattle.mcap_recover.specs.declared.answers.Why.TheVariants as whys
use Rattle.mcap_recover.specs.declared.answers.RecoverRefused.{RecoverRefused}
use Rattle.mcap_recover.specs.declared.answers.RecoverRefused.TheVariants as refusals
use Rattle.mcap_recover.specs.Readings.{GrammarTold, RefusalTold, HaltTold, stands_kept, Repairing, KeptOf, origin, ReadingCameToEnd, IsStopped, UnbegunSo, BeginsReading}
use Rattle.mcap_recover.specs.Recovering.{lacks, TellsHalt, BreaksOff, recovered_making, HasHalted, IsUnrecovered, Recovers}
use Rattle.mcap_recover.specs.RecoverySteps.{FinishesFile}

-- ---- where the writer stopped

pub is_stopped_recovers : {L : Type 0} (seen : L → LiveState) (chunk : ℕ) (profile : List ℕ) (before now : SourceState) (opened : LiveState) (k : Keeping L) (stop : Stop)
    → StopCause opened.faults (seen k.scribe.store).faults stop → IsStopped seen (recovered_options profile chunk) before now opened k stop → Recovers chunk before now opened (seen k.scribe.store) (Err (refusals.Stopped stop))
is_stopped_recovers seen chunk profile before now opened k stop cause (it, stopped) =
    let options = recovered_options profile chunk in
    let at = numbers (blocks_of k.scribe) (planned_bytes k.scribe) in
    let held = (seen k.scribe.store).held in
    let stops : (others : List Top) (behind : List Rec) → StopsAt options others (it.history ++ behind) opened.held held stop at = λ others behind. (it.keeps.writes.0.stopped stop stopped others behind).stops in
    record {
      source = it.still;
      store = cause;
      magic = λ bytes told. let (rest, left, there) = it.read bytes told in (spelled it.tops ++ rest, there.split);
      written = at;
      cut = cut_stopped seen (recovered_making chunk) (HasHalted before now) (stands_kept seen options opened k) profile before now opened k stop at it
          (subst (λ (l : List Rec). StopsAt options it.extras l opened.held held stop at) (append-nil it.history) (stops it.extras []));
      stops = of_longer chunk before it.tops it.extras profile it.history (λ options extras history. StopsAt options extras history opened.held held stop at)
          it.good (λ bytes told. let (rest, left, there) = it.read bytes told in inr (rest, there)) (λ none. absurd (not_none it.earlier it.last (sym it.are ∙ none))) it.repairs stops;
    }

-- ---- where the source failed, or memory lacked

place_of : Halt → ℕ
place_of (at_end n) = n
place_of (grammar n r) = n
place_of (compressed n name) = n
place_of (beyond n) = n

there_place : (tops : List Top) (rest : List ℕ) (halt : Halt) → HaltsThere reading_limits tops rest halt → place_of halt ≡ offset_behind tops
unfolding place_of
there_place tops rest halt (short_head a) = refl
there_place tops rest halt (zero_opcode a b) = refl
there_place tops rest halt (past_limit a b) = refl
there_place tops rest halt (cut_short a b) = refl
there_place tops rest halt (packed_chunk name a b c) = refl
there_place tops rest halt (broken_rule rule a b c d) = refl

no_front : (bytes : List ℕ) (tops : List Top) (halt : Halt) (r : Rule) → HaltsAt reading_limits bytes tops halt → halt ≡ grammar 0 r → V1 bytes → ⊥
unfolding place_of
no_front bytes tops halt r (no_magic none) is has = none has
no_front bytes tops halt r (at_data_end rest stands ended) is has = let place : 8 + length (spelled tops) ≡ 0 = ap place_of is in omega (arith, place)
no_front bytes tops halt r (behind_kept rest stands unended other there) is has =
    let place : place_of halt ≡ 0 = ap place_of is in
    let same = there_place tops rest halt there in
    omega (arith, place, same)

-- the reading broke off before anything was written
unbegun_recovers : (chunk : ℕ) (before now : SourceState) (opened : LiveState) (why : ReadingRefused) → UnbegunSo before now why → IsUnrecovered chunk before now opened opened why
unbegun_recovers chunk before now opened why it = record {
  tops = it.tops;
  good = it.good;
  broken = it.broken;
  still = refl;
  keeps = inl (it.few, refl);
  part = λ bytes told profile extras history repaired. nothing_stands opened (recovered_options profile chunk) extras history;
}

-- memory lacked before anything was done
pub nothing_recovers : (chunk : ℕ) (before : SourceState) (opened : LiveState) → Recovers chunk before before opened opened (Err lacks)
nothing_recovers chunk before opened = unbegun_recovers chunk before before opened scans.Memory (record {
  tops = [];
  good = λ n t at. absurd (at_none n t at);
  few = inl refl;
  broken = record { still = refl; good = λ n t at. absurd (at_none n t at); leaves = λ bytes told. inl (refl, told) };
})

pub begun_recovers : (chunk : ℕ) (before now : SourceState) (opened : LiveState) (flat : FlatReader) (refusal : RecoverRefused) → BeginsReading before now flat (Err refusal) → Recovers chunk before now opened opened (Err refusal)
begun_recovers chunk before now opened flat refusals.NoMagic (rule, halts) = (
  λ bytes told has. no_front bytes [] (grammar 0 rule) rule (halts.halts bytes told).there refl has,
  record { source = halts.still; store = refl },
  refl,
)
begun_recovers chunk before now opened flat (refusals.Refused why) begun = unbegun_recovers chunk before now opened why begun
begun_recovers chunk before now opened flat (refusals.Stopped stop) begun = absurd begun

-- the reading failed behind records that were kept
pub over_recovers : {L : Type 0} (seen : L → LiveState) (chunk : ℕ) (profile : List ℕ) (before now : SourceState) (opened : LiveState) (reader : Reader) (k : Keeping L) (over : Over) (refusal : RecoverRefused)
    → ReadingCameToEnd seen (origin (recovered_options profile chunk) before opened) now reader k over → HaltTold reader over (Err refusal) → phase_of k.scribe ≡ phases.Going → (seen k.scribe.store).faults ≡ opened.faults
    → Recovers chunk before now opened (seen k.scribe.store) (Err refusal)
over_recovers seen chunk profile before now opened reader k over refusal it told going still = by over it.over_so told
  where
    was : KeptOf seen (recovered_options profile chunk) before opened k
    was = it.kept

    part : OfRepaired chunk before (StandsPart opened (seen k.scribe.store))
    part = of_longer chunk before was.tops was.extras profile was.history (StandsPart opened (seen k.scribe.store)) was.good was.read was.begun was.repairs
        (going_part seen (recovered_options profile chunk) was.extras opened was.history k going was.keeps)

    ripe : StandsRipe (recovered_making chunk) was.tops opened (seen k.scribe.store)
    ripe = let writes = was.keeps.writes in record {
      text = written_of (recovered_options profile chunk) was.history;
      ripe = record { profile = profile; extras = was.extras; history = was.history; repairs = was.repairs; are = refl };
      adds = (writes.0.going going).1;
      through = writes.2 going refl;
    }

    unread : (w : ReadingRefused) → BreaksOff w before now was.tops → IsUnrecovered chunk before now opened (seen k.scribe.store) w
    unread w broken = record { tops = was.tops; good = was.good; broken = broken; still = still; keeps = inr (was.magic, ripe); part = part }

    refused : (w : ReadingRefused) → RefusalStands w before now was.tops → RefusalTold w (Err refusal) → Recovers chunk before now opened (seen k.scribe.store) (Err refusal)
    refused (scans.Fault faults) stands is =
        let same : refusal ≡ refusals.Refused (scans.Fault faults) = cc in
        subst (λ (r : RecoverRefused). Recovers chunk before now opened (seen k.scribe.store) (Err r)) (sym same) (unread (scans.Fault faults) stands)
    refused (scans.Grammar at rule) stands (why, kind, is) = absurd (cc)
    refused (scans.Compressed at name) stands is = absurd (cc)
    refused (scans.Limit at) stands is = absurd (cc)
    refused scans.Memory stands is =
        let same : refusal ≡ lacks = cc in
        subst (λ (r : RecoverRefused). Recovers chunk before now opened (seen k.scribe.store) (Err r)) (sym same) (unread scans.Memory stands)

    by : (o : Over) → OverSo reader before now was.tops o → HaltTold reader o (Err refusal) → Recovers chunk before now opened (seen k.scribe.store) (Err refusal)
    by (overs.Ended at) so is = absurd (cc)
    by overs.Refused (why, stage, stands) it_is = refused why stands (it_is why stage)

same_ok : (a : Result (ℕ × Why) RecoverRefused) (x y : ℕ × Why) → a ≡ Ok x → a ≡ Ok y → x ≡ y
same_ok a x y one other = cc

-- how a reading that came to a halt is told
pub over_halts : (reader : Reader) (before now : SourceState) (tops : List Top) (over : Over) (at : ℕ) (why : Why) → OverSo reader before now tops over → HaltTold reader over (Ok (at, why)) → (halt : Halt) × HaltsSo before now tops halt × TellsHalt at why halt
over_halts reader before now tops (overs.Ended place) at why so is =
    let pair = same_ok (Ok (at, why)) (at, why) (place, whys.Complete) refl is in
    let same_at : at ≡ place = ap (λ v. v.0) pair in
    let same_why : why ≡ whys.Complete = ap (λ v. v.1) pair in
    (at_end place, so, subst (λ (w : Why). TellsHalt at w (at_end place)) (sym same_why) (ap at_end (sym same_at)))
over_halts reader before now tops overs.Refused at why (w, stage, stands) told = by w stands (told w stage)
  where
    by : (v : ReadingRefused) → RefusalStands v before now tops → RefusalTold v (Ok (at, why)) → (halt : Halt) × HaltsSo before now tops halt × TellsHalt at why halt
    by (scans.Fault faults) it is = absurd (cc)
    by (scans.Grammar place rule) it (reason, kind, is) =
        let pair = same_ok (Ok (at, why)) (at, why) (place, reason) refl is in
        let same_at : at ≡ place = ap (λ v. v.0) pair in
        let same_why : why ≡ reason = ap (λ v. v.1) pair in
        (grammar place rule, it, subst (λ (x : Why). TellsHalt at x (grammar place rule)) (sym same_why) (kinds place rule reason (sym same_at) kind))
      where
        kinds : (p : ℕ) (n : Rule) (x : Why) → p ≡ at → GrammarTold n x → TellsHalt at x (grammar p n)
        kinds p n x same (inl (four, short)) = subst (λ (y : Why). TellsHalt at y (grammar p n)) (sym short) (ap (λ (q : ℕ). grammar q n) same ∙ ap (grammar at) four)
        kinds p n x same (inr (other, broken)) = subst (λ (y : Why). TellsHalt at y (grammar p n)) (sym broken) (n, ap (λ (q : ℕ). grammar q n) same, other)
    by (scans.Compressed place name) it is =
        let pair = same_ok (Ok (at, why)) (at, why) (place, whys.Compressed) refl is in
        let same_at : at ≡ place = ap (λ v. v.0) pair in
        let same_why : why ≡ whys.Compressed = ap (λ v. v.1) pair in
        (compressed place name, it, subst (λ (x : Why). TellsHalt at x (compressed place name)) (sym same_why) (name, ap (λ (q : ℕ). compressed q name) (sym same_at)))
    by (scans.Limit place) it is =
        let pair = same_ok (Ok (at, why)) (at, why) (place, whys.Limit) refl is in
        let same_at : at ≡ place = ap (λ v. v.0) pair in
        let same_why : why ≡ whys.Limit = ap (λ v. v.1) pair in
        (beyond place, it, subst (λ (x : Why). TellsHalt at x (beyond place)) (sym same_why) (ap beyond (sym same_at)))
    by scans.Memory it is = absurd (cc)

pub finish_recovers : {L : Type 0} (seen : L → LiveState) (chunk : ℕ) (profile : List ℕ) (before now : SourceState) (opened stored : LiveState) (reader : Reader) (k : Keeping L) (over : Over) (at : ℕ) (why : Why) (result : Result Recovered RecoverRefused)
    → ReadingCameToEnd seen (origin (recovered_options profile chunk) before opened) now reader k over → HaltTold reader over (Ok (at, why)) → (seen k.scribe.store).faults ≡ opened.faults → FinishesFile seen k stored at why result
    → Recovers chunk before now opened stored result
finish_recovers seen chunk profile before now opened stored reader k over at why (Ok r) it told still finishes =
    let was = it.kept in
    let (halt, halts, tells) = over_halts reader before now was.tops over at why it.over_so told in
    let (adds, answers, holds, same, through) = finishes (recovered_options profile chunk) was.extras opened was.history was.keeps in
    let (at_is, why_is, messages, records, others) = answers in
    let few = history_few was.tops was.extras profile was.history was.repairs in
    let within = good_within was.tops was.good in
    let extra_size = ap (λ (l : List Top). length l) was.repairs.extras_are in
    record {
      tops = was.tops;
      good = was.good;
      halt = halt;
      halts = halts;
      magic = was.magic;
      told = subst (λ (w : Why). TellsHalt r.at w halt) (sym why_is) (subst (λ (n : ℕ). TellsHalt n why halt) (sym at_is) tells);
      profile = profile;
      extras = was.extras;
      history = was.history;
      repairs = was.repairs;
      file = adds;
      within = holds;
      messages = messages ∙ all_counted (length (filter is_message was.history)) (omega (arith, few, within, filter_few is_message was.history));
      records = records ∙ all_counted (length was.history) (omega (arith, few, within));
      extras_are = others ∙ all_counted (length was.extras) (omega (arith, within, extra_size, filter_few is_extra was.tops, tops_few was.tops));
      still = same ∙ still;
      through = through;
    }
finish_recovers seen chunk profile before now opened stored reader k over at why (Err refusals.NoMagic) it told still finishes = let was = it.kept in absurd (finishes (recovered_options profile chunk) was.extras opened was.history was.keeps)
finish_recovers seen chunk profile before now opened stored reader k over at why (Err (refusals.Refused other)) it told still finishes = let was = it.kept in absurd (finishes (recovered_options profile chunk) was.extras opened was.history was.keeps)
finish_recovers seen chunk profile before now opened stored reader k over at why (Err (refusals.Stopped stop)) it told still finishes =
    let was = it.kept in
    let (halt, halts, tells) = over_halts reader before now was.tops over at why it.over_so told in
    let (written, stops, cause, adds) = finishes (recovered_options profile chunk) was.extras opened was.history was.keeps in
    record {
      source = halts.still;
      store = subst (λ (n : ℕ). StopCause n stored.faults stop) still cause;
      magic = was.magic;
      written = written;
      cut = cut_over (recovered_making chunk) (ReadFromFront before now) (HasHalted before now) was.tops was.extras profile was.history opened.held stored.held stop written was.good (halt, halts) was.repairs stops (adds refl);
      stops = of_exact chunk before was.tops was.extras profile was.history (λ options extras history. StopsAt options extras history opened.held stored.held stop written) (λ b known. (halts.halts b known).kept) was.repairs stops;
    }

-- ---- the begin of the new file

pub begin_repairing : {L : Type 0} (seen : L → LiveState) (chunk : ℕ) (profile : List ℕ) (before now : SourceState) (opened : LiveState) (flat : FlatReader) (k : Keeping L) → BeginsFile (HasHalted before now) before now flat profile
    → KeepingStandsFor seen (recovered_options profile chunk) [] opened [] k → Repairing seen (recovered_options profile chunk) before now opened flat k
begin_repairing seen chunk profile before now opened flat k begins keeps = begin_reading (HasHalted before now) (stands_kept seen (recovered_options profile chunk) opened k) profile before now flat begins keeps

pub open_recovers : (chunk : ℕ) (profile : List ℕ) (before now : SourceState) (opened stored : LiveState) (flat : FlatReader) (stop : Stop) → BeginsFile (HasHalted before now) before now flat profile
    → StopCause opened.faults stored.faults stop → ((extras : List Top) (history : List Rec) → StopsAt (recovered_options profile chunk) extras history opened.held stored.held stop (numbers 0 0)) → Recovers chunk before now opened stored (Err (refusals.Stopped stop))
open_recovers chunk profile before now opened stored flat stop begins cause stops =
    let shows = begins.shows in
    record {
      source = begins.still;
      store = cause;
      magic = begins.magic;
      written = numbers 0 0;
      cut = cut_begun (recovered_making chunk) (HasHalted before now) profile before now opened stored stop (numbers 0 0) shows (stops [] []);
      stops = of_longer chunk before shows.first [] profile [] (λ options extras history. StopsAt options extras history opened.held stored.held stop (numbers 0 0)) shows.good (first_begins (HasHalted before now) before now profile shows) shows.none shows.repairs
          (λ others behind. stops others behind);
    }
