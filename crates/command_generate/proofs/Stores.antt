-- What the opening, the recording and the keeping of the output come to.
use Rattle.std.proofs.Common.{◌≡◌, ℕ, ◌^◌, ◌<◌, true, false, List, [], ◌∷◌, ◌++◌, Option, Some, None, Result, Ok, Err, refl, sym, subst, inl, inr, ◌∙◌, arith}
use Rattle.std.specs.Option.{option_map}
use Rattle.std.specs.List.{All}
use Rattle.std.proofs.lemmas.List.{append-nil}
use Rattle.mcap_io.specs.Outside.{RisesOnce, added, Keeping, Told, Names, Opening, opened, LiveState, SourceState, WorldState}
use Rattle.mcap_io.specs.OutsideCalls.{HasCause, Opens, OpenCause, CountsStand, OthersSame, with_opening, went_well, TellsNothingYet, KeepsLive, Notes, PlacedUnder}
use Rattle.mcap_io.specs.declared.outside.Failed.{Failed}
use Rattle.mcap_io.specs.declared.outside.ObjectKind.TheVariants as kinds
use Rattle.mcap_io.specs.declared.outside.OutsideRefused.{OutsideRefused}
use Rattle.mcap_io.specs.declared.outside.OutsideRefused.TheVariants as outside_refusals
use Rattle.mcap_io.proofs.Notes.{noted_in}
use Rattle.mcap_model.specs.declared.options.RecordOptions.{RecordOptions}
use Rattle.recorder.specs.declared.report.Report.{Report}
use Rattle.recorder.specs.Recorded.{sides, Recorded}
use Rattle.command_base.specs.Ran.{kept, refused, IsGivenLive}
use Rattle.command_base.proofs.Counting.{added_none, kept_adds}
use Rattle.command_base.proofs.Opened.{tells_more, same_told, live_keeping, SameNames, leaves_same}
use Rattle.command_generate.specs.Making.{IsPutUnder, NameWritten}

-- nothing was opened, for want of memory
pub nothing_written : (options : RecordOptions) (sources : List SourceState) (out : List ℕ) (old new : WorldState) → new.told ≡ old.told → CountsStand old new → new.faults ≡ old.faults
    → old.faults < 2 ^ 64 → old.input_faults < 2 ^ 64 → old.output_faults < 2 ^ 64 → NameWritten options sources out old new (record { report = None; kept = false })
nothing_written options sources out old new told_on stand still world_fits inputs_fit outputs_fit =
    let same : SameNames old new [] = λ told here. (told, told_on ∙ here, sym (append-nil told.log), refl) in
    record {
      entries = [];
      writing = (refl, refl);
      opened = tt;
      leaves = leaves_same old new [] same;
      counts = record { world = added_none old.faults new.faults world_fits still; inputs = added_none old.input_faults new.input_faults inputs_fit stand.inputs; outputs = added_none old.output_faults new.output_faults outputs_fit stand.outputs };
    }

-- the opening failed
failed_there : (options : RecordOptions) (sources : List SourceState) (out : List ℕ) (old new : WorldState) → new.told ≡ option_map (λ (t : Told). with_opening t (refused kinds.Live out)) old.told → CountsStand old new → RisesOnce old.faults new.faults
    → old.input_faults < 2 ^ 64 → old.output_faults < 2 ^ 64 → NameWritten options sources out old new (record { report = None; kept = false })
failed_there options sources out old new opens stand rises inputs_fit outputs_fit =
    let entries : List Opening = refused kinds.Live out ∷ [] in
    let same : SameNames old new entries = λ told here. (with_opening told (refused kinds.Live out), tells_more old.told new.told (refused kinds.Live out) told opens here, refl, refl) in
    record {
      entries = entries;
      writing = inl (refl, refl, refl);
      opened = inl (refl, refl);
      leaves = leaves_same old new entries same;
      counts = record { world = rises.once; inputs = added_none old.input_faults new.input_faults inputs_fit stand.inputs; outputs = added_none old.output_faults new.output_faults outputs_fit stand.outputs };
    }

pub unopened_output : (options : RecordOptions) (sources : List SourceState) (out : List ℕ) (old new : WorldState) (why : OutsideRefused) → Opens {T = Unit} old new kinds.Live out (Err why) → CountsStand old new → OpenCause {T = Unit} old.faults new.faults (Err why)
    → old.faults < 2 ^ 64 → old.input_faults < 2 ^ 64 → old.output_faults < 2 ^ 64 → NameWritten options sources out old new (record { report = None; kept = false })
unopened_output options sources out old new outside_refusals.Failed opens stand cause world_fits inputs_fit outputs_fit = failed_there options sources out old new opens stand cause inputs_fit outputs_fit
unopened_output options sources out old new outside_refusals.Memory opens stand cause world_fits inputs_fit outputs_fit = nothing_written options sources out old new opens stand cause world_fits inputs_fit outputs_fit

-- what was seen of the world at each of the calls: the store was opened, recorded into, and taken back
pub record IsGiven (options : RecordOptions) (sources back : List SourceState) (out : List ℕ) (w0 w1 w2 : WorldState) (live live_now : LiveState) (report : Option Report) (result : Result Unit Failed) : Type 0 where
  pub opens : w1.told ≡ option_map (λ (t : Told). with_opening t (opened kinds.Live out true)) w0.told
  pub stands : CountsStand w0 w1
  pub still : w1.faults ≡ w0.faults
  pub nothing : TellsNothingYet w0 live
  pub unused : live.faults ≡ 0
  pub unreported : report ≡ None → live_now ≡ live
  pub quiet : All (λ (s : SourceState). s.faults ≡ 0) back
  pub recorded : (r : Report) → report ≡ Some r → Recorded options (sides sources live) (sides back live_now) r
  pub keeps : KeepsLive w1 w2 out live_now result
  pub inputs : w2.input_faults ≡ w1.input_faults
  pub outputs : w2.output_faults ≡ added w1.output_faults live_now.faults
  pub cause : HasCause w1.faults w2.faults result
  pub world_fits : w0.faults < 2 ^ 64
  pub inputs_fit : w0.input_faults < 2 ^ 64
  pub outputs_fit : w0.output_faults < 2 ^ 64

live_noted : (out : List ℕ) (log new : List Opening) (keeping : Keeping) → Notes (log ++ opened kinds.Live out true ∷ []) new kinds.Live out keeping → new ≡ log ++ kept kinds.Live out keeping ∷ []
live_noted out log new keeping notes =
    noted_in (log ++ opened kinds.Live out true ∷ []) new log [] (opened kinds.Live out true) kinds.Live out keeping
    (record { there = refl; out = record { kind_is = refl; name_is = refl; given = refl; out = refl }; newest = λ k d within. absurd (omega (arith, within)) }) notes

-- a name that isn't written is not the output's
others_same : (out : List ℕ) (keeping : Keeping) (all now : Names) → OthersSame all now out → (name : List ℕ) → (IsGivenLive (kept kinds.Live out keeping ∷ []) name → ⊥) → now name ≡ all name
others_same out keeping all now same name unwritten =
    same name (λ is. unwritten (record { entry = kept kinds.Live out keeping; there = (0, refl); live = refl; given = refl; named = sym is }))

placed_so : (all now : Names) (out bytes : List ℕ) (result : Result Unit Failed) → PlacedUnder all now out bytes result → IsPutUnder bytes (went_well result) (all out) (now out)
placed_so all now out bytes (Ok it) placed = placed
placed_so all now out bytes (Err why) placed = placed

pub written : (options : RecordOptions) (sources back : List SourceState) (out : List ℕ) (w0 w1 w2 : WorldState) (live live_now : LiveState) (report : Option Report) (result : Result Unit Failed) → IsGiven options sources back out w0 w1 w2 live live_now report result
    → NameWritten options sources out w0 w2 (record { report = report; kept = went_well result })
written options sources back out w0 w1 w2 live live_now report result a =
    let keeping : Keeping = live_keeping live_now result in
    let failures = kept_adds w1.faults w2.faults result (omega (arith, a.still, a.world_fits)) a.cause in
    let given = opened kinds.Live out true in
    let more : (told : Told) → w0.told ≡ Some told → w1.told ≡ Some (with_opening told given) = λ told here. tells_more w0.told w1.told given told a.opens here in
    record {
      entries = kept kinds.Live out keeping ∷ [];
      writing = inr (
        keeping,
        refl,
        record {
          live = live;
          live_now = live_now;
          unused = a.unused;
          keeping_is = refl;
          unreported = a.unreported;
          reported = λ r is. (back, a.quiet, a.recorded r is);
          empty = λ told here. a.nothing told here;
          placed = λ told now bytes here here_now held.
              let kept_now = a.keeps (with_opening told given) (more told here) in
              subst (λ (t : Told). IsPutUnder bytes (went_well result) (told.names out) (t.names out)) (same_told kept_now.0 now (sym kept_now.1 ∙ here_now))
              (placed_so told.names kept_now.0.names out bytes result (kept_now.2.placed bytes held));
        },
      );
      opened = inr (keeping, refl, refl);
      leaves = λ told here.
          let kept_now = a.keeps (with_opening told given) (more told here) in
          (kept_now.0, kept_now.1, live_noted out told.log kept_now.0.log keeping kept_now.3, others_same out keeping told.names kept_now.0.names kept_now.2.others);
      counts = record {
        world = omega (arith, a.still, failures);
        inputs = omega (arith, a.inputs, a.stands.inputs, a.inputs_fit);
        outputs = omega (arith, a.outputs, a.stands.outputs);
      };
    }
