-- What is picked with a record of a source more, and where the reading ends.
use Rattle.std.proofs.Common.{◌≡◌, ℕ, List, [], ◌∷◌, ◌++◌, Option, Ok, true, refl, sym, ap, subst, ◌∙◌}
use Rattle.std.specs.Prelude.{fold, find, None}
use Rattle.std.specs.List.{flat_map}
use Rattle.rec_data.specs.declared.owned.Rec.{Rec}
use Rattle.mcap_io.specs.Outside.{SourceState, LiveState}
use Rattle.mcap_model.specs.declared.ends.Stop.{Stop}
use Rattle.mcap_model.specs.declared.table.Declared.{Declared}
use Rattle.mcap_model.specs.declared.replay.Place.{Place}
use Rattle.mcap_model.specs.Places.{At}
use Rattle.mcap_model.specs.History.{kept_with}
use Rattle.mcap_model.specs.Made.{top}
use Rattle.mcap_model.proofs.Places.{at_none}
use Rattle.mcap_model.proofs.Repairs.{fold_grows}
use Rattle.mcap_scan.specs.declared.flat_reader.FlatReader.{FlatReader}
use Rattle.mcap_scan.specs.Walking.{flat_content, ahead_of, IsHeldFrame, FlatGives, FlatFinds, FlatRefuses, IsFlatDone}
use Rattle.chunk_writer.specs.declared.phase.Phase.TheVariants as phases
use Rattle.chunk_writer.specs.Scribes.{KeepsOn, phase_of}
use Rattle.record_keeping.specs.declared.keeping.Keeping.{Keeping}
use Rattle.record_keeping.specs.declared.ending.Over.TheVariants as overs
use Rattle.record_keeping.specs.Keeping.{KeepingStandsFor, HasWritten, is_declared}
use Rattle.record_keeping.specs.Readings.{BeginsFile}
use Rattle.record_keeping.proofs.Keepings.{stopped_more}
use Rattle.record_keeping.proofs.Ripe.{wrote_first}
use Rattle.record_keeping.proofs.Reading.{reading_on, stopped_reading, ended_reading, refused_reading, begin_reading}
use Rattle.mcap_filter.specs.declared.choices.Choices.{Choices}
use Rattle.mcap_filter.specs.Picked.{filtered}
use Rattle.mcap_filter.specs.Picking.{TableFinds, ChoicesFind, Start, stands_picked, stands_written, picking, PicksOne, PicksSoFar, PicksOn, IsCut}
use Rattle.mcap_filter.specs.Filtering.{HasEnded}
use Rattle.mcap_filter.proofs.Completing.{complete_whole, complete_given}
use Rattle.mcap_filter.proofs.Growing.{uses_of, filtered_more, filtered_grows}
use denote.Ref.{Bor}

-- one record more was read, and what is asked for of it picked
pub picks_on : {L : Type 0} (seen : L → LiveState) (from : Start) (mid now : SourceState) (flat next : FlatReader) (k after : Keeping L) (c new : Choices) (op : ℕ) (place : Place) (frame : Option (Bor (List ℕ)))
    → (was : PicksSoFar seen from mid flat k c) → (IsFlatDone flat → ⊥) → FlatGives next from.before now was.tops was.given op place → IsHeldFrame next frame
    → PicksOne seen from.asking (picking k c) (picking after new) frame (top op (flat_content next)) → PicksSoFar seen from now next after new
picks_on seen from mid now flat next k after c new op place frame was undone gives held takes =
    let stands = was.stands in
    let whole = complete_given was.tops was.given (ahead_of flat) from.options.profile was.extras was.history was.good stands.all was.repairs in
    reading_on (stands_picked seen from k c) (stands_picked seen from after new) from.options.profile from.before mid now flat next op place frame was undone gives held
    (λ rs zip picks. takes rs zip from.options was.extras from.opened was.history whole picks)

-- It was read, and the writer stopped at what is picked of it: it stands for what is picked of the records of the chunk too that
-- weren't given.
pub cut_on_it : {L : Type 0} (seen : L → LiveState) (from : Start) (mid now : SourceState) (flat next : FlatReader) (k after : Keeping L) (c new : Choices) (op : ℕ) (place : Place) (frame : Option (Bor (List ℕ))) (stop : Stop)
    → (was : PicksSoFar seen from mid flat k c) → (IsFlatDone flat → ⊥) → FlatGives next from.before now was.tops was.given op place → IsHeldFrame next frame
    → PicksOne seen from.asking (picking k c) (picking after new) frame (top op (flat_content next)) → phase_of k.scribe ≡ phases.Going → KeepsOn (seen k.scribe.store).held (seen after.scribe.store).held → phase_of after.scribe ≡ phases.Stopped stop → IsCut seen from now after stop
cut_on_it seen from mid now flat next k after c new op place frame stop was undone gives held takes going on stopped =
    let stands = was.stands in
    let whole = complete_given was.tops was.given (ahead_of flat) from.options.profile was.extras was.history was.good stands.all was.repairs in (
      stopped_reading (stands_picked seen from k c) (stands_picked seen from after new) (stands_written seen from after) (λ first. HasWritten seen from.options from.opened after (filtered from.asking first)) from.options.profile from.before mid now flat next op place frame was undone gives held
          (λ rs zip picks. takes rs zip from.options was.extras from.opened was.history whole picks)
          (λ later ss.
          let there = later.stands in
          let picks = later.keeps in
          let all = complete_given later.tops later.given (ahead_of next) from.options.profile later.extras later.history later.good there.all later.repairs in
          let (behind, grown) = fold_grows later.history ss in
          subst (λ (l : List Rec). KeepingStandsFor seen from.options later.extras from.opened l after)
          (sym (ap (filtered from.asking) (sym grown) ∙ filtered_more from.asking later.history behind all))
          (stopped_more seen from.options later.extras from.opened (filtered from.asking later.history) (flat_map (uses_of from.asking (later.history ++ behind)) behind) after stop stopped picks.keeps))
          (λ earlier others first more good repairs is.
          let picks = was.keeps in
          let (later, grown) = filtered_grows from.asking first more (complete_whole earlier others from.options.profile first good repairs) in
          wrote_first seen from.options was.extras from.opened (filtered from.asking was.history) (filtered from.asking first) later k after picks.keeps going on (ap (filtered from.asking) is ∙ grown)),
      stopped,
    )

-- the Data End was given
pub ended_over : {L : Type 0} (seen : L → LiveState) (from : Start) (mid now : SourceState) (flat next : FlatReader) (k : Keeping L) (c : Choices) (offset : ℕ) → (was : PicksSoFar seen from mid flat k c) → FlatFinds next from.before now was.tops was.given offset
    → PicksOn seen from now next k c (Ok (overs.Ended offset))
ended_over seen from mid now flat next k c offset was finds = ended_reading (stands_picked seen from k c) from.options.profile from.before mid now flat next offset was finds

-- the reading was refused
pub refused_over : {L : Type 0} (seen : L → LiveState) (from : Start) (mid now : SourceState) (flat next : FlatReader) (k : Keeping L) (c : Choices) → (was : PicksSoFar seen from mid flat k c) → FlatRefuses next from.before now was.tops was.given
    → PicksOn seen from now next k c (Ok overs.Refused)
refused_over seen from mid now flat next k c was refuses = refused_reading (stands_picked seen from k c) from.options.profile from.before mid now flat next was refuses

-- nothing was picked yet
pub begin_picking : {L : Type 0} (seen : L → LiveState) (from : Start) (now : SourceState) (flat : FlatReader) (k : Keeping L) (c : Choices) → BeginsFile (HasEnded from.before now) from.before now flat from.options.profile
    → KeepingStandsFor seen from.options [] from.opened [] k → c.schemas ≡ [] → c.wanted ≡ [] → c.passed.keys ≡ [] → PicksSoFar seen from now flat k c
begin_picking seen from now flat k c begins keeps schemas wanted passed =
    begin_reading (HasEnded from.before now) (stands_picked seen from k c) from.options.profile from.before now flat begins (record {
      keeps = keeps;
      schemas = λ going. subst (λ (t : List Declared). TableFinds t []) (sym schemas) (record { are = λ n d at. absurd (at_none n d at); none = λ id lacks. refl });
      channels = λ going. record {
        are = λ n d at. absurd (at_none n d (subst (λ (t : List Declared). At t n d) wanted at));
        passed_over = λ id there. let none : is_declared [] id ≡ true = sym (ap (λ (ids : List ℕ). is_declared ids id) passed) ∙ there in absurd (cc);
        none = λ id lacks apart. refl;
      };
    })
