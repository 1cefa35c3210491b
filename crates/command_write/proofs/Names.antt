-- What the openings of an input and of an output and their keepings come to.
use Rattle.std.proofs.Common.{◌≡◌, ◌⊎◌, ℕ, zero, suc, ◌^◌, ◌<◌, ◌-◌, Bool, List, [], ◌∷◌, ◌++◌, append_assoc, Option, Some, None, Result, Err, refl, sym, ap, subst, inl, inr, ◌∙◌, arith}
use Rattle.std.specs.Prelude.{true, false}
use Rattle.std.specs.Option.{option_map}
use Rattle.std.proofs.lemmas.List.{append-nil}
use Rattle.std.proofs.lemmas.Option.{same_Some}
use Rattle.mcap_io.specs.Outside.{Rose, RisesOnce, added, Opening, Keeping, Told, opened, SourceState, LiveState, WorldState, TellsName}
use Rattle.mcap_io.specs.OutsideCalls.{HasCause, Opens, OpenCause, CountsStand, with_opening, went_well, TellsNothingYet, KeepsSource, KeepsLive, KeepsName, Notes}
use Rattle.mcap_io.specs.declared.outside.Failed.{Failed}
use Rattle.mcap_io.specs.declared.outside.ObjectKind.{ObjectKind}
use Rattle.mcap_io.specs.declared.outside.ObjectKind.TheVariants as kinds
use Rattle.mcap_io.specs.declared.outside.OutsideRefused.{OutsideRefused}
use Rattle.mcap_io.specs.declared.outside.OutsideRefused.TheVariants as outside_refusals
use Rattle.mcap_io.proofs.Notes.{both_noted}
use Rattle.mcap_model.specs.Places.{Each}
use Rattle.mcap_model.proofs.Places.{at_none}
use Rattle.command_base.specs.Ran.{kept, refused, failed_so, wanted, world_faults, AreOpened, Leaves, CountsKept, named_when, failed_names}
use Rattle.command_base.proofs.Counting.{added_none, kept_adds, kept_shows, not_risen, keeping_shows, keepings_show, blamed}
use Rattle.command_base.proofs.Opened.{tells_more, source_keeping, live_keeping, given, source_noted, none_last, refused_last, SameNames, leaves_same, holds_same, others_unwritten, same_told}
use Rattle.command_base.specs.Outputs.{some_failed, IsUnasked, LeftUnderName, Unreached}
use Rattle.command_base.specs.OutputSteps.{NamesKept}
use Rattle.command_write.specs.Recover.{both_names}

-- how an entry's object was taken back
abbrev kept_in : Opening → Option Keeping
kept_in entry = entry.kept

-- the one answer, and that some of one is that it failed
one_failed : (failed : Bool) → some_failed (failed ∷ []) ≡ failed
one_failed true = refl
one_failed false = refl

-- what holds of each of one or two entries
each_none : (P : Opening → Type 0) → Each P []
each_none P n x at = absurd (at_none n x at)

each_one : (P : Opening → Type 0) (x : Opening) → P x → Each P (x ∷ [])
each_one P x is zero y at = subst P (same_Some x y at) is
each_one P x is (suc n) y at = absurd (at_none n y at)

each_pair : (P : Opening → Type 0) (x y : Opening) → P x → P y → Each P (x ∷ y ∷ [])
each_pair P x y first second zero z at = subst P (same_Some x z at) first
each_pair P x y first second (suc n) z at = each_one P y second n z at

-- an opening that was refused was asked for nothing, and has nothing left
none_some : (keeping : Keeping) → None ≡ Some keeping → ⊥
none_some keeping e = cc

refused_unasked : (kind : ObjectKind) (name : List ℕ) → IsUnasked (refused kind name)
refused_unasked kind name keeping is = absurd (none_some keeping is)

refused_left : (told : Told) (kind : ObjectKind) (name : List ℕ) → LeftUnderName told (refused kind name)
refused_left told kind name other keeping is = absurd (none_some keeping (ap kept_in is))

-- nor is a source asked at any place
source_unasked : (input : List ℕ) (source : SourceState) (result : Result Unit Failed) → IsUnasked (kept kinds.Source input (source_keeping source result))
source_unasked input source result keeping is = ap (λ (k : Keeping). k.asked) (sym (same_Some (source_keeping source result) keeping is))

source_left : (told : Told) (input : List ℕ) (keeping : Keeping) → keeping.left ≡ told.names input → LeftUnderName told (kept kinds.Source input keeping)
source_left told input keeping left name other is =
    let same : Some keeping ≡ Some other = ap kept_in is in
    ap (λ (k : Keeping). k.left) (sym (same_Some keeping other same)) ∙ left ∙ ap told.names (ap (λ (e : Opening). e.name) is)

-- ---- both names

-- what became of both: each was opened and taken back, or not, and failed or not
pub record BothKept (input out : List ℕ) (old new : WorldState) (entries : List Opening) (input_failed out_failed : Bool) : Type 0 where
  pub opened : AreOpened (wanted (both_names input out)) entries
  pub leaves : Leaves old new entries
  pub counts : CountsKept old new entries
  pub names_are : failed_names entries ≡ named_when input_failed input ++ (named_when out_failed out ++ [])
  pub input_cause : input_failed ≡ true → Rose old.faults new.faults ⊎ Rose old.input_faults new.input_faults
  pub out_cause : out_failed ≡ true → Rose old.faults new.faults ⊎ Rose old.output_faults new.output_faults
  pub inputs_told : old.input_faults < 2 ^ 64 - 1 → Rose old.input_faults new.input_faults → input_failed ≡ true
  pub outputs_told : old.output_faults < 2 ^ 64 - 1 → Rose old.output_faults new.output_faults → out_failed ≡ true
  pub world_told : old.faults < 2 ^ 64 - 1 → Rose old.faults new.faults → (input_failed ≡ true) ⊎ (out_failed ≡ true)

-- the same of a list of one
pub as_names : (input out : List ℕ) (old new : WorldState) (entries : List Opening) (input_failed out_failed : Bool) → BothKept input out old new entries input_failed out_failed → NamesKept (both_names input out) old new entries (input_failed ∷ []) out_failed
as_names input out old new entries input_failed out_failed it =
    let one = one_failed input_failed in
    record {
      opened = it.opened;
      leaves = it.leaves;
      counts = it.counts;
      few = omega arith;
      names_are = it.names_are;
      input_cause = λ is. it.input_cause (sym one ∙ is);
      out_cause = it.out_cause;
      inputs_told = λ on rose. one ∙ it.inputs_told on rose;
      outputs_told = it.outputs_told;
      world_told = λ on rose. elim (it.world_told on rose) [ inl is ↦ inl (one ∙ is) | inr is ↦ inr is ];
    }

-- what became of both names where not both were given
pub record NotGiven (input out : List ℕ) (old new : WorldState) (entries : List Opening) (input_failed out_failed : Bool) : Type 0 where
  pub names : BothKept input out old new entries input_failed out_failed
  pub unreached : Unreached out old new entries

-- ---- the input wasn't given

abbrev pub no_entries : List ℕ → Bool → List Opening
no_entries input true = refused kinds.Source input ∷ []
no_entries input false = []

no_input_failed : (input out : List ℕ) (old new : WorldState) → new.told ≡ option_map (λ (t : Told). with_opening t (refused kinds.Source input)) old.told → CountsStand old new → RisesOnce old.faults new.faults
    → old.input_faults < 2 ^ 64 → old.output_faults < 2 ^ 64 → NotGiven input out old new (no_entries input true) true false
no_input_failed input out old new opens stand rises inputs_fit outputs_fit =
    let entries : List Opening = refused kinds.Source input ∷ [] in
    let same : SameNames old new entries = λ told here. (with_opening told (refused kinds.Source input), tells_more old.told new.told (refused kinds.Source input) told opens here, refl, refl) in
    record {
      names = record {
        opened = inl (refl, refl);
        leaves = leaves_same old new entries same;
        counts = record { world = rises.once; inputs = added_none old.input_faults new.input_faults inputs_fit stand.inputs; outputs = added_none old.output_faults new.output_faults outputs_fit stand.outputs };
        names_are = refl;
        input_cause = λ is. inl (omega (arith, rises.once));
        out_cause = λ is. absurd cc;
        inputs_told = λ on rose. not_risen _ old.input_faults new.input_faults on stand.inputs rose;
        outputs_told = λ on rose. not_risen _ old.output_faults new.output_faults on stand.outputs rose;
        world_told = λ on rose. inl refl;
      };
      unreached = record {
        unread = record {
          inputs = refl;
          outputs = refl;
          unasked = each_one IsUnasked (refused kinds.Source input) (refused_unasked kinds.Source input);
          left = λ told here. each_one (LeftUnderName told) (refused kinds.Source input) (refused_left told kinds.Source input);
        };
        file = λ told now here here_now. holds_same out old new entries same told now here here_now;
      };
    }

no_input_memory : (input out : List ℕ) (old new : WorldState) → new.told ≡ old.told → CountsStand old new → new.faults ≡ old.faults
    → old.faults < 2 ^ 64 → old.input_faults < 2 ^ 64 → old.output_faults < 2 ^ 64 → NotGiven input out old new (no_entries input false) false false
no_input_memory input out old new told_on stand still world_fits inputs_fit outputs_fit =
    let same : SameNames old new [] = λ told here. (told, told_on ∙ here, sym (append-nil told.log), refl) in
    record {
      names = record {
        opened = tt;
        leaves = leaves_same old new [] same;
        counts = record { world = added_none old.faults new.faults world_fits still; inputs = added_none old.input_faults new.input_faults inputs_fit stand.inputs; outputs = added_none old.output_faults new.output_faults outputs_fit stand.outputs };
        names_are = refl;
        input_cause = λ is. absurd cc;
        out_cause = λ is. absurd cc;
        inputs_told = λ on rose. not_risen _ old.input_faults new.input_faults on stand.inputs rose;
        outputs_told = λ on rose. not_risen _ old.output_faults new.output_faults on stand.outputs rose;
        world_told = λ on rose. not_risen _ old.faults new.faults on still rose;
      };
      unreached = record {
        unread = record {
          inputs = refl;
          outputs = refl;
          unasked = each_none IsUnasked;
          left = λ told here. each_none (LeftUnderName told);
        };
        file = λ told now here here_now. holds_same out old new [] same told now here here_now;
      };
    }

pub no_input : (input out : List ℕ) (old new : WorldState) (why : OutsideRefused) (failed : Bool) → Opens {T = Unit} old new kinds.Source input (Err why) → CountsStand old new → OpenCause {T = Unit} old.faults new.faults (Err why)
    → (failed ≡ true → why ≡ outside_refusals.Failed) → (failed ≡ false → why ≡ outside_refusals.Memory) → old.faults < 2 ^ 64 → old.input_faults < 2 ^ 64 → old.output_faults < 2 ^ 64 → NotGiven input out old new (no_entries input failed) failed false
no_input input out old new outside_refusals.Failed true opens stand cause is_failed is_memory world_fits inputs_fit outputs_fit = no_input_failed input out old new opens stand cause inputs_fit outputs_fit
no_input input out old new outside_refusals.Failed false opens stand cause is_failed is_memory world_fits inputs_fit outputs_fit = absurd (let e = is_memory refl in cc)
no_input input out old new outside_refusals.Memory true opens stand cause is_failed is_memory world_fits inputs_fit outputs_fit = absurd (let e = is_failed refl in cc)
no_input input out old new outside_refusals.Memory false opens stand cause is_failed is_memory world_fits inputs_fit outputs_fit = no_input_memory input out old new opens stand cause world_fits inputs_fit outputs_fit

-- ---- the input was given, and not the output

-- what was seen of the world at each of the calls: the source was opened, the output refused, the source taken back
pub record InputAlone (input out : List ℕ) (w0 w1 w2 w3 : WorldState) (source : SourceState) (why : OutsideRefused) (result : Result Unit Failed) : Type 0 where
  pub opens : w1.told ≡ option_map (λ (t : Told). with_opening t (given input)) w0.told
  pub stands : CountsStand w0 w1
  pub still : w1.faults ≡ w0.faults
  pub tells : TellsName w0 input source
  pub unused : source.faults ≡ 0
  pub refuses : Opens {T = Unit} w1 w2 kinds.Live out (Err why)
  pub refused_stands : CountsStand w1 w2
  pub refused_cause : OpenCause {T = Unit} w1.faults w2.faults (Err why)
  pub keeps : KeepsSource w2 w3 input source result
  pub inputs : w3.input_faults ≡ added w2.input_faults source.faults
  pub outputs : w3.output_faults ≡ w2.output_faults
  pub cause : HasCause w2.faults w3.faults result
  pub world_fits : w0.faults < 2 ^ 64
  pub inputs_fit : w0.input_faults < 2 ^ 64
  pub outputs_fit : w0.output_faults < 2 ^ 64

abbrev pub alone_entries : List ℕ → List ℕ → SourceState → Result Unit Failed → Bool → List Opening
alone_entries input out source result true = kept kinds.Source input (source_keeping source result) ∷ refused kinds.Live out ∷ []
alone_entries input out source result false = kept kinds.Source input (source_keeping source result) ∷ []

module _ (input out : List ℕ) (w0 w1 w2 w3 : WorldState) (source : SourceState) (why : OutsideRefused) (result : Result Unit Failed) (a : InputAlone input out w0 w1 w2 w3 source why result) where
  abbrev keeping : Keeping
  keeping = source_keeping source result

  abbrev source_kept : Opening
  source_kept = kept kinds.Source input keeping

  inputs_are : w3.input_faults ≡ added w0.input_faults source.faults
  inputs_are = a.inputs ∙ ap (λ (n : ℕ). added n source.faults) (a.refused_stands.inputs ∙ a.stands.inputs)

  same_outputs : w3.output_faults ≡ w0.output_faults
  same_outputs = a.outputs ∙ a.refused_stands.outputs ∙ a.stands.outputs

  abbrev source_failed : Bool
  source_failed = failed_so (went_well result) source.faults

  left_there : (told : Told) → w0.told ≡ Some told → LeftUnderName told source_kept
  left_there told here = source_left told input keeping (a.tells told here).0

  alone_failed : w2.told ≡ option_map (λ (t : Told). with_opening t (refused kinds.Live out)) w1.told → RisesOnce w1.faults w2.faults → NotGiven input out w0 w3 (alone_entries input out source result true) source_failed true
  alone_failed refuses rises =
      let entries : List Opening = source_kept ∷ refused kinds.Live out ∷ [] in
      let same : SameNames w0 w3 entries = λ told here.
      let first = with_opening told (given input) in
      let second = with_opening first (refused kinds.Live out) in
      let here2 = tells_more w1.told w2.told (refused kinds.Live out) first refuses (tells_more w0.told w1.told (given input) told a.opens here) in
      let back = a.keeps second here2 in
      let log = append_assoc told.log (given input ∷ []) (refused kinds.Live out ∷ []) in
      let notes = subst (λ (l : List Opening). Notes l back.0.log kinds.Source input keeping) log back.3 in
      (back.0, back.1, source_noted input told.log back.0.log (refused kinds.Live out ∷ []) keeping (refused_last input out) notes, back.2) in
      let failures = kept_adds w2.faults w3.faults result (omega (arith, a.still, a.world_fits, rises.once)) a.cause in
      record {
        names = record {
          opened = inr (keeping, refl, inl (refl, refl));
          leaves = leaves_same w0 w3 entries same;
          counts = record { world = omega (arith, a.still, rises.once, failures); inputs = omega (arith, inputs_are); outputs = omega (arith, same_outputs, a.outputs_fit) };
          names_are = refl;
          input_cause = blamed w0.faults w2.faults w3.faults w3.faults w0.input_faults w3.input_faults source.faults result (omega (arith, a.still, rises.later)) a.cause (omega arith) a.inputs_fit inputs_are;
          out_cause = λ is. inl (omega (arith, a.still, rises.once, a.cause.later));
          inputs_told = λ on rose. kept_shows w0.input_faults w3.input_faults source.faults (went_well result) on inputs_are rose;
          outputs_told = λ on rose. not_risen _ w0.output_faults w3.output_faults on same_outputs rose;
          world_told = λ on rose. inr refl;
        };
        unreached = record {
          unread = record {
            inputs = omega (arith, a.unused);
            outputs = refl;
            unasked = each_pair IsUnasked source_kept (refused kinds.Live out) (source_unasked input source result) (refused_unasked kinds.Live out);
            left = λ told here. each_pair (LeftUnderName told) source_kept (refused kinds.Live out) (left_there told here) (refused_left told kinds.Live out);
          };
          file = λ told now here here_now. holds_same out w0 w3 entries same told now here here_now;
        };
      }

  alone_memory : w2.told ≡ w1.told → w2.faults ≡ w1.faults → NotGiven input out w0 w3 (alone_entries input out source result false) source_failed false
  alone_memory told_on still =
      let entries : List Opening = source_kept ∷ [] in
      let same : SameNames w0 w3 entries = λ told here.
      let first = with_opening told (given input) in
      let back = a.keeps first (told_on ∙ tells_more w0.told w1.told (given input) told a.opens here) in
      (back.0, back.1, source_noted input told.log back.0.log [] keeping (none_last input) back.3, back.2) in
      let failures = kept_adds w2.faults w3.faults result (omega (arith, still, a.still, a.world_fits)) a.cause in
      let since : HasCause w0.faults w3.faults result = subst (λ (n : ℕ). HasCause n w3.faults result) (still ∙ a.still) a.cause in
      record {
        names = record {
          opened = inr (keeping, refl, tt);
          leaves = leaves_same w0 w3 entries same;
          counts = record { world = omega (arith, a.still, still, failures); inputs = omega (arith, inputs_are); outputs = omega (arith, same_outputs, a.outputs_fit) };
          names_are = refl;
          input_cause = blamed w0.faults w2.faults w3.faults w3.faults w0.input_faults w3.input_faults source.faults result (omega (arith, a.still, still)) a.cause (omega arith) a.inputs_fit inputs_are;
          out_cause = λ is. absurd cc;
          inputs_told = λ on rose. kept_shows w0.input_faults w3.input_faults source.faults (went_well result) on inputs_are rose;
          outputs_told = λ on rose. not_risen _ w0.output_faults w3.output_faults on same_outputs rose;
          world_told = λ on rose. inl (keeping_shows w0.faults w3.faults source.faults result on since rose);
        };
        unreached = record {
          unread = record {
            inputs = omega (arith, a.unused);
            outputs = refl;
            unasked = each_one IsUnasked source_kept (source_unasked input source result);
            left = λ told here. each_one (LeftUnderName told) source_kept (left_there told here);
          };
          file = λ told now here here_now. holds_same out w0 w3 entries same told now here here_now;
        };
      }

pub alone : (input out : List ℕ) (w0 w1 w2 w3 : WorldState) (source : SourceState) (why : OutsideRefused) (result : Result Unit Failed) (failed : Bool) → InputAlone input out w0 w1 w2 w3 source why result
    → (failed ≡ true → why ≡ outside_refusals.Failed) → (failed ≡ false → why ≡ outside_refusals.Memory) → NotGiven input out w0 w3 (alone_entries input out source result failed) (failed_so (went_well result) source.faults) failed
alone input out w0 w1 w2 w3 source outside_refusals.Failed result true a is_failed is_memory = alone_failed input out w0 w1 w2 w3 source outside_refusals.Failed result a a.refuses a.refused_cause
alone input out w0 w1 w2 w3 source outside_refusals.Failed result false a is_failed is_memory = absurd (let e = is_memory refl in cc)
alone input out w0 w1 w2 w3 source outside_refusals.Memory result true a is_failed is_memory = absurd (let e = is_failed refl in cc)
alone input out w0 w1 w2 w3 source outside_refusals.Memory result false a is_failed is_memory = alone_memory input out w0 w1 w2 w3 source outside_refusals.Memory result a a.refuses a.refused_cause

-- ---- both were given

-- what was seen of the world, of the source and of the store at each of the calls
pub record BothGiven (input out : List ℕ) (w0 w1 w2 w3 w4 : WorldState) (source source_now : SourceState) (live live_now : LiveState) (source_kept live_kept : Result Unit Failed) : Type 0 where
  pub opens : w1.told ≡ option_map (λ (t : Told). with_opening t (given input)) w0.told
  pub stands : CountsStand w0 w1
  pub still : w1.faults ≡ w0.faults
  pub tells : TellsName w0 input source
  pub unused : source.faults ≡ 0
  pub opens_out : w2.told ≡ option_map (λ (t : Told). with_opening t (opened kinds.Live out true)) w1.told
  pub stands_out : CountsStand w1 w2
  pub still_out : w2.faults ≡ w1.faults
  pub nothing : TellsNothingYet w1 live
  pub new : live.faults ≡ 0
  pub keeps : KeepsSource w2 w3 input source_now source_kept
  pub inputs : w3.input_faults ≡ added w2.input_faults source_now.faults
  pub outputs : w3.output_faults ≡ w2.output_faults
  pub cause : HasCause w2.faults w3.faults source_kept
  pub keeps_out : KeepsLive w3 w4 out live_now live_kept
  pub inputs_now : w4.input_faults ≡ w3.input_faults
  pub outputs_now : w4.output_faults ≡ added w3.output_faults live_now.faults
  pub cause_out : HasCause w3.faults w4.faults live_kept
  pub world_fits : w0.faults < 2 ^ 64
  pub inputs_fit : w0.input_faults < 2 ^ 64
  pub outputs_fit : w0.output_faults < 2 ^ 64

module _ (input out : List ℕ) (w0 w1 w2 w3 w4 : WorldState) (source source_now : SourceState) (live live_now : LiveState) (source_kept live_kept : Result Unit Failed) (b : BothGiven input out w0 w1 w2 w3 w4 source source_now live live_now source_kept live_kept) where
  abbrev in_keeping : Keeping
  in_keeping = source_keeping source_now source_kept

  abbrev out_keeping : Keeping
  out_keeping = live_keeping live_now live_kept

  abbrev pub both_entries : List Opening
  both_entries = kept kinds.Source input in_keeping ∷ kept kinds.Live out out_keeping ∷ []

  both_inputs : w4.input_faults ≡ added w0.input_faults source_now.faults
  both_inputs = b.inputs_now ∙ b.inputs ∙ ap (λ (n : ℕ). added n source_now.faults) (b.stands_out.inputs ∙ b.stands.inputs)

  both_outputs : w4.output_faults ≡ added w0.output_faults live_now.faults
  both_outputs = b.outputs_now ∙ ap (λ (n : ℕ). added n live_now.faults) (b.outputs ∙ b.stands_out.outputs ∙ b.stands.outputs)

  both_world : w4.faults ≡ added w0.faults (world_faults both_entries)
  both_world =
      let first = kept_adds w2.faults w3.faults source_kept (omega (arith, b.still, b.still_out, b.world_fits)) b.cause in
      let second = kept_adds w3.faults w4.faults live_kept (omega (arith, first)) b.cause_out in
      omega (arith, b.still, b.still_out, first, second)

  -- where the world told, it tells of both, and of the output's name what its keeping left
  both_told : (told : Told) → w0.told ≡ Some told → (now : Told) × (w4.told ≡ Some now) × KeepsName told.names now.names out live_now.held live_kept × (now.log ≡ told.log ++ both_entries)
  both_told told here =
      let first = with_opening told (given input) in
      let second = with_opening first (opened kinds.Live out true) in
      let here2 = tells_more w1.told w2.told (opened kinds.Live out true) first b.opens_out (tells_more w0.told w1.told (given input) told b.opens here) in
      let back = b.keeps second here2 in
      let placed = b.keeps_out back.0 back.1 in
      let log = append_assoc told.log (given input ∷ []) (opened kinds.Live out true ∷ []) in
      let notes = subst (λ (l : List Opening). Notes l back.0.log kinds.Source input in_keeping) log back.3 in (
        placed.0,
        placed.1,
        subst (λ (n : List ℕ → Option (List ℕ)). KeepsName n placed.0.names out live_now.held live_kept) back.2 placed.2,
        both_noted told.log back.0.log placed.0.log input out in_keeping out_keeping notes placed.3,
      )

  -- what it tells of the output
  pub both_placed : (told now : Told) → w0.told ≡ Some told → w4.told ≡ Some now → KeepsName told.names now.names out live_now.held live_kept
  both_placed told now here here_now =
      let t = both_told told here in
      subst (λ (n : Told). KeepsName told.names n.names out live_now.held live_kept) (same_told t.0 now (sym t.1 ∙ here_now)) t.2

  pub nothing_yet : (told : Told) → w0.told ≡ Some told → live.held ≡ Some []
  nothing_yet told here = b.nothing (with_opening told (given input)) (tells_more w0.told w1.told (given input) told b.opens here)

  pub both_kept : BothKept input out w0 w4 both_entries (failed_so (went_well source_kept) source_now.faults) (failed_so (went_well live_kept) live_now.faults)
  both_kept = record {
    opened = inr (in_keeping, refl, inr (out_keeping, refl, refl));
    leaves = λ told here. let t = both_told told here in (t.0, t.1, t.3, others_unwritten (kept kinds.Source input in_keeping) out out_keeping told.names t.0.names t.2.others);
    counts = record { world = both_world; inputs = omega (arith, both_inputs); outputs = omega (arith, both_outputs) };
    names_are = refl;
    input_cause = blamed w0.faults w2.faults w3.faults w4.faults w0.input_faults w4.input_faults source_now.faults source_kept (omega (arith, b.still, b.still_out)) b.cause b.cause_out.later b.inputs_fit both_inputs;
    out_cause = blamed w0.faults w3.faults w4.faults w4.faults w0.output_faults w4.output_faults live_now.faults live_kept (omega (arith, b.still, b.still_out, b.cause.later)) b.cause_out (omega arith) b.outputs_fit both_outputs;
    inputs_told = λ on rose. kept_shows w0.input_faults w4.input_faults source_now.faults (went_well source_kept) on both_inputs rose;
    outputs_told = λ on rose. kept_shows w0.output_faults w4.output_faults live_now.faults (went_well live_kept) on both_outputs rose;
    world_told = λ on rose. keepings_show w0.faults w3.faults w4.faults source_now.faults live_now.faults source_kept live_kept on
        (subst (λ (n : ℕ). HasCause n w3.faults source_kept) (b.still_out ∙ b.still) b.cause) b.cause_out rose;
  }
