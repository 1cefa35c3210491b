-- What a filtering leaves where it ends.
use Rattle.std.proofs.Common.{◌≡◌, ℕ, ◌*◌, ◌≤◌, List, [], ◌++◌, length, Result, Ok, Err, refl, sym, subst, inl, inr, ◌∙◌, append-nil, arith}
use Rattle.std.specs.Prelude.{filter}
use Rattle.rec_data.specs.declared.owned.Rec.{Rec}
use Rattle.rec_data.specs.Fields.{HeaderFields}
use Rattle.rec_data.specs.Records.{ShowsHeader}
use Rattle.mcap_io.specs.Outside.{SourceState, LiveState}
use Rattle.mcap_model.specs.declared.ends.Stop.{Stop}
use Rattle.mcap_model.specs.declared.refusals.ReadingRefused.{ReadingRefused}
use Rattle.mcap_model.specs.declared.refusals.ReadingRefused.TheVariants as scans
use Rattle.mcap_model.specs.declared.replay.Place.{Place}
use Rattle.mcap_model.specs.Tops.{Top, spelled}
use Rattle.mcap_model.specs.Kept.{Good, reading_limits}
use Rattle.mcap_model.specs.Histories.{written_of}
use Rattle.mcap_model.proofs.Places.{at_none}
use Rattle.mcap_model.specs.History.{is_message}
use Rattle.mcap_scan.specs.declared.reader.Stage.TheVariants as stages
use Rattle.mcap_scan.specs.RefusedReadings.{RefusalStands}
use Rattle.mcap_scan.specs.Sources.{ReadFromFront}
use Rattle.mcap_scan.specs.Walking.{flat_content, FlatGives, FlatFinds, FlatRefuses}
use Rattle.mcap_scan.proofs.Scanning.{good_stand, lacks_behind}
use Rattle.mcap_scan.specs.declared.flat_reader.FlatReader.{FlatReader}
use Rattle.chunk_writer.specs.declared.phase.Phase.TheVariants as phases
use Rattle.chunk_writer.specs.Stops.{numbers, StopsAt, StopCause}
use Rattle.chunk_writer.specs.Scribes.{phase_of, blocks_of, planned_bytes}
use Rattle.record_keeping.specs.declared.keeping.Keeping.{Keeping}
use Rattle.record_keeping.specs.declared.ending.Over.TheVariants as overs
use Rattle.record_keeping.specs.Keeping.{counted}
use Rattle.record_keeping.specs.NewFiles.{recovered_options, StandsPart, IsUnbegun}
use Rattle.record_keeping.specs.Readings.{BeginsFile}
use Rattle.record_keeping.proofs.Files.{of_longer, of_exact, nothing_stands, going_part, history_few, filter_few}
use Rattle.record_keeping.proofs.Given.{not_none}
use Rattle.record_keeping.proofs.Reading.{good_within, ended_some, header_alone}
use Rattle.record_keeping.proofs.Ripe.{cut_stopped, cut_over, cut_begun, first_begins}
use Rattle.mcap_filter.specs.declared.answers.Picked.{Picked}
use Rattle.mcap_filter.specs.declared.answers.PickRefused.{PickRefused}
use Rattle.mcap_filter.specs.declared.answers.PickRefused.TheVariants as refusals
use Rattle.mcap_filter.specs.declared.choices.Choices.{Choices}
use Rattle.mcap_filter.specs.Picked.{Asking, filtered}
use Rattle.mcap_filter.specs.Picking.{start, stands_written, IsCut, PicksOn, FinishesPicked}
use Rattle.mcap_filter.specs.Filtering.{Filters, UnreadCause, filtered_making, HasEnded}
use Rattle.mcap_filter.proofs.Completing.{complete_whole}
use Rattle.mcap_filter.proofs.Growing.{filtered_grows, filtered_few}

-- ---- why it wasn't read

unread_cause : (why : ReadingRefused) (before now : SourceState) (tops : List Top) → RefusalStands why before now tops → UnreadCause why before now tops
unread_cause (scans.Fault faults) before now tops it = it
unread_cause (scans.Grammar offset rule) before now tops it = it
unread_cause (scans.Compressed offset name) before now tops it = it
unread_cause (scans.Limit offset) before now tops it = it
unread_cause scans.Memory before now tops it = it

-- the reading was refused before anything was written
unbegun_filters : (a : Asking) (chunk : ℕ) (before now : SourceState) (opened : LiveState) (why : ReadingRefused) (tops : List Top) → Good reading_limits tops → RefusalStands why before now tops → IsUnbegun why (ReadFromFront before now) tops → Filters a chunk before now opened opened (Err (refusals.Refused why))
unbegun_filters a chunk before now opened why tops good it few = record {
  tops = tops;
  good = good;
  broken = unread_cause why before now tops it;
  still = refl;
  keeps = inl (few, refl);
  part = λ bytes told profile extras history repaired. nothing_stands opened (recovered_options profile chunk) extras (filtered a history);
}

-- memory lacked before anything was done
pub nothing_filters : (a : Asking) (chunk : ℕ) (before : SourceState) (opened : LiveState) → Filters a chunk before before opened opened (Err (refusals.Refused scans.Memory))
nothing_filters a chunk before opened =
    unbegun_filters a chunk before before opened scans.Memory [] (λ n t at. absurd (at_none n t at)) (record { still = refl; good = λ n t at. absurd (at_none n t at); leaves = λ bytes told. inl (refl, told) }) (inl refl)

-- the first record was refused
pub refused_filters : (a : Asking) (chunk : ℕ) (before now : SourceState) (opened : LiveState) (flat : FlatReader) (why : ReadingRefused) → FlatRefuses flat before now [] [] → ((w : ReadingRefused) → flat.reader.stage ≡ stages.Stopped w → why ≡ w) → Filters a chunk before now opened opened (Err (refusals.Refused why))
refused_filters a chunk before now opened flat why refuses told =
    let it = refuses.refuses in
    unbegun_filters a chunk before now opened why [] (λ n t at. absurd (at_none n t at))
    (subst (λ (w : ReadingRefused). RefusalStands w before now []) (sym (told it.why it.stage)) (subst (λ (l : List Top). RefusalStands it.why before now l) refuses.same it.stands)) (inl refl)

-- memory lacked for the profile of the first record
pub unnamed_filters : (a : Asking) (chunk : ℕ) (before now : SourceState) (opened : LiveState) (flat : FlatReader) (op : ℕ) (place : Place) → FlatGives flat before now [] [] op place → ((f : HeaderFields) → ShowsHeader (flat_content flat) f → f.profile ≡ [] → ⊥)
    → Filters a chunk before now opened opened (Err (refusals.Refused scans.Memory))
unnamed_filters a chunk before now opened flat op place gives named =
    let stands = gives.stands in
    unbegun_filters a chunk before now opened scans.Memory gives.tops (good_stand flat.reader before now gives.tops gives.going stands.stands) (lacks_behind flat.reader before now gives.tops gives.going stands.stands)
    (inr (refl, header_alone flat before now op place gives named))

-- no Data End is given before a record
pub none_ended : (flat : FlatReader) (before now : SourceState) (offset : ℕ) → FlatFinds flat before now [] [] offset → ⊥
none_ended flat before now offset finds = let end = finds.finds in let is = end.is in ended_some finds.tops is.ended finds.same

-- ---- the writer stopped

pub open_filters : (a : Asking) (chunk : ℕ) (profile : List ℕ) (before now : SourceState) (opened stored : LiveState) (flat : FlatReader) (stop : Stop) → BeginsFile (HasEnded before now) before now flat profile → StopCause opened.faults stored.faults stop
    → ((extras : List Top) (history : List Rec) → StopsAt (recovered_options profile chunk) extras history opened.held stored.held stop (numbers 0 0)) → Filters a chunk before now opened stored (Err (refusals.Stopped stop))
open_filters a chunk profile before now opened stored flat stop begins cause stops =
    let shows = begins.shows in
    record {
      source = begins.still;
      store = cause;
      magic = begins.magic;
      written = numbers 0 0;
      cut = cut_begun (filtered_making a chunk) (HasEnded before now) profile before now opened stored stop (numbers 0 0) shows (stops [] (filtered a []));
      stops = of_longer chunk before shows.first [] profile [] (λ options extras history. StopsAt options extras (filtered a history) opened.held stored.held stop (numbers 0 0)) shows.good (first_begins (HasEnded before now) before now profile shows) shows.none shows.repairs
          (λ others behind. stops others (filtered a behind));
    }

pub cut_filters : {L : Type 0} (seen : L → LiveState) (a : Asking) (chunk : ℕ) (profile : List ℕ) (before now : SourceState) (opened : LiveState) (k : Keeping L) (stop : Stop) → StopCause opened.faults (seen k.scribe.store).faults stop
    → IsCut seen (start a (recovered_options profile chunk) before opened) now k stop → Filters a chunk before now opened (seen k.scribe.store) (Err (refusals.Stopped stop))
cut_filters seen a chunk profile before now opened k stop cause (it, stopped) =
    let options = recovered_options profile chunk in
    let whole = complete_whole it.tops it.extras profile it.history it.good it.repairs in
    let keeps = it.keeps in
    let at = numbers (blocks_of k.scribe) (planned_bytes k.scribe) in
    let held = (seen k.scribe.store).held in
    let stops : (others : List Top) (more : List Rec) → StopsAt options others (filtered a it.history ++ more) opened.held held stop at = λ others more. (keeps.writes.0.stopped stop stopped others more).stops in
    record {
      source = it.still;
      store = cause;
      magic = λ bytes told. let (rest, left, there) = it.read bytes told in (spelled it.tops ++ rest, there.split);
      written = at;
      cut = cut_stopped seen (filtered_making a chunk) (HasEnded before now) (stands_written seen (start a options before opened) k) profile before now opened k stop at it
          (subst (λ (l : List Rec). StopsAt options it.extras l opened.held held stop at) (append-nil (filtered a it.history)) (stops it.extras []));
      stops = of_longer chunk before it.tops it.extras profile it.history (λ options extras history. StopsAt options extras (filtered a history) opened.held held stop at)
          it.good (λ bytes told. let (rest, left, there) = it.read bytes told in inr (rest, there)) (λ none. absurd (not_none it.earlier it.last (sym it.are ∙ none))) it.repairs
          (λ others behind. let (more, is) = filtered_grows a it.history behind whole in
          subst (λ (l : List Rec). StopsAt options others l opened.held held stop at) (sym is) (stops others more));
    }

-- ---- the reading was refused

pub unread_filters : {L : Type 0} (seen : L → LiveState) (a : Asking) (chunk : ℕ) (profile : List ℕ) (before now : SourceState) (opened : LiveState) (flat : FlatReader) (k : Keeping L) (c : Choices) (why : ReadingRefused)
    → PicksOn seen (start a (recovered_options profile chunk) before opened) now flat k c (Ok overs.Refused) → ((w : ReadingRefused) → flat.reader.stage ≡ stages.Stopped w → why ≡ w)
    → phase_of k.scribe ≡ phases.Going → (seen k.scribe.store).faults ≡ opened.faults → Filters a chunk before now opened (seen k.scribe.store) (Err (refusals.Refused why))
unread_filters seen a chunk profile before now opened flat k c why end told going still =
    let it = end.kept in
    let (w, stage, stands) = end.over_so in
    let picks = it.keeps in
    let keeps = picks.keeps in
    let whole = complete_whole it.tops it.extras profile it.history it.good it.repairs in
    record {
      tops = it.tops;
      good = it.good;
      broken = subst (λ (x : ReadingRefused). UnreadCause x before now it.tops) (sym (told w stage)) (unread_cause w before now it.tops stands);
      still = still;
      keeps = inr (
        it.magic,
        record {
          text = written_of (recovered_options profile chunk) (filtered a it.history);
          ripe = record { profile = profile; extras = it.extras; history = it.history; repairs = it.repairs; are = refl };
          adds = (keeps.writes.0.going going).1;
          through = keeps.writes.2 going refl;
        },
      );
      part = of_longer chunk before it.tops it.extras profile it.history (λ options extras history. StandsPart opened (seen k.scribe.store) options extras (filtered a history)) it.good it.read it.begun it.repairs
          (λ others behind. let (more, is) = filtered_grows a it.history behind whole in
          subst (λ (l : List Rec). StandsPart opened (seen k.scribe.store) (recovered_options profile chunk) others l) (sym is)
          (going_part seen (recovered_options profile chunk) it.extras opened (filtered a it.history) k going keeps others more));
    }

-- ---- the end of the file

counted_all : (n : ℕ) → n ≤ 3 * 1099511627776 → counted n ≡ n
counted_all n few = omega (arith, few)

pub end_filters : {L : Type 0} (seen : L → LiveState) (a : Asking) (chunk : ℕ) (profile : List ℕ) (before now : SourceState) (opened stored : LiveState) (flat : FlatReader) (k : Keeping L) (c : Choices) (at : ℕ) (result : Result Picked PickRefused)
    → PicksOn seen (start a (recovered_options profile chunk) before opened) now flat k c (Ok (overs.Ended at)) → (seen k.scribe.store).faults ≡ opened.faults → FinishesPicked seen k stored result → Filters a chunk before now opened stored result
end_filters seen a chunk profile before now opened stored flat k c at (Ok p) end still (counts, finishes, messages_are, records_are) =
    let it = end.kept in
    let halts = end.over_so in
    let picks = it.keeps in
    let (adds, told, holds, same, through) = finishes (recovered_options profile chunk) it.extras opened (filtered a it.history) picks.keeps in
    let (messages, records, others) = told in
    let few = history_few it.tops it.extras profile it.history it.repairs in
    let within = good_within it.tops it.good in
    let all = filtered_few a it.history in
    record {
      tops = it.tops;
      good = it.good;
      end = at;
      halts = halts;
      magic = it.magic;
      profile = profile;
      extras = it.extras;
      history = it.history;
      repairs = it.repairs;
      file = adds;
      within = holds;
      messages = messages_are ∙ messages ∙ counted_all (length (filter is_message (filtered a it.history))) (omega (arith, few, within, all, filter_few is_message (filtered a it.history)));
      records = records_are ∙ records ∙ counted_all (length (filtered a it.history)) (omega (arith, few, within, all));
      still = same ∙ still;
      through = through;
    }
end_filters seen a chunk profile before now opened stored flat k c at (Err (refusals.Refused why)) end still finishes = absurd finishes
end_filters seen a chunk profile before now opened stored flat k c at (Err (refusals.Stopped stop)) end still finishes =
    let it = end.kept in
    let halts = end.over_so in
    let picks = it.keeps in
    let (written, stops, cause, adds) = finishes (recovered_options profile chunk) it.extras opened (filtered a it.history) picks.keeps in
    record {
      source = halts.still;
      store = subst (λ (n : ℕ). StopCause n stored.faults stop) still cause;
      magic = it.magic;
      written = written;
      cut = cut_over (filtered_making a chunk) (ReadFromFront before now) (HasEnded before now) it.tops it.extras profile it.history opened.held stored.held stop written it.good (at, halts) it.repairs stops (adds refl);
      stops = of_exact chunk before it.tops it.extras profile it.history (λ options extras history. StopsAt options extras (filtered a history) opened.held stored.held stop written)
          (λ bytes told. (halts.halts bytes told).kept) it.repairs stops;
    }
