-- What the openings, the merge and the keepings of all names come to, and what is promised of the command.
use Rattle.std.proofs.Common.{◌≡◌, ℕ, ◌^◌, ◌<◌, ◌≤◌, Bool, true, false, List, [], length, take, Result, Err, refl, sym, ap, subst, inl, inr, ◌∙◌}
use Rattle.std.specs.List.{AllZip}
use Rattle.mcap_io.specs.Outside.{opened, LiveState, WorldState}
use Rattle.mcap_io.specs.OutsideCalls.{Opens, OpenCause, CountsStand, went_well}
use Rattle.mcap_io.specs.Stores.{StoreState, TellsStore}
use Rattle.mcap_io.specs.declared.outside.Failed.{Failed}
use Rattle.mcap_io.specs.declared.outside.ObjectKind.TheVariants as kinds
use Rattle.mcap_io.specs.declared.outside.OutsideRefused.{OutsideRefused}
use Rattle.mcap_io.specs.declared.outside.OutsideRefused.TheVariants as outside_refusals
use Rattle.command_base.specs.Ran.{kept, refused, failed_so, input_faults, output_faults}
use Rattle.command_write.specs.declared.merging.Merging.{Merging}
use Rattle.command_write.specs.declared.merging.Outcome.{Outcome}
use Rattle.mcap_merge.specs.declared.answers.Merged.{Merged}
use Rattle.mcap_merge.specs.declared.answers.MergeRefused.{MergeRefused}
use Rattle.mcap_merge.specs.Filed.{AsksTwice}
use Rattle.command_base.specs.OutputSteps.{HaltsByInput}
use Rattle.command_base.specs.Inputs.{store_keeping}
use Rattle.command_base.specs.InputsSteps.{StoreSeen, InputsOpened, InputOpeningRefused, InputsKept, flags_with}
use Rattle.command_base.specs.Outputs.{inputs_and_output, some_failed}
use Rattle.command_write.specs.Merge.{MergesStores, Reached, merging_of, unopened_so, ending_of_merging}
use Rattle.command_write.specs.MergeSteps.{NamesMerged}
use Rattle.command_base.proofs.Endings.{none_halts_well}
use Rattle.command_base.proofs.SomeInputs.{zip_long}
use Rattle.command_write.proofs.MergedStores.{files_told, output_holds, merges_well, fault_shows}
use Rattle.command_write.proofs.StoreNames.{NoneRead, out_unread, input_unread, none_opened, told_or, AllGiven, all_entries, all_placed, nothing_yet, all_kept, stores_tell, stores_unused}
use Rattle.command_base.specs.OutputSteps.{NamesEnd}

-- ---- nothing was merged

-- an opening that was refused doesn't halt an input
unopened_well : (inputs : List (List ℕ)) (failed : Bool) → HaltsByInput inputs (ending_of_merging inputs (unopened_so failed))
unopened_well inputs true = none_halts_well inputs _ refl
unopened_well inputs false = none_halts_well inputs _ refl

unopened_failing : (inputs : List (List ℕ)) (failed : Bool) → (ending_of_merging inputs (unopened_so failed)).fails ≡ true → failed ≡ true
unopened_failing inputs true e = refl
unopened_failing inputs false e = absurd cc

-- what a function that merged nothing answers
pub record Unmade (outcome : Outcome) (failed : Bool) (flags : List Bool) (out_failed : Bool) : Type 0 where
  pub merging : outcome.merging ≡ unopened_so failed
  pub inputs : outcome.inputs_failed.items ≡ flags
  pub out : outcome.out_failed ≡ out_failed

unmerged : (chunk : ℕ) (out : List ℕ) (inputs : List (List ℕ)) (old new : WorldState) (flags : List Bool) (out_failed failed : Bool) (outcome : Outcome) → NoneRead inputs out old new flags out_failed failed → Unmade outcome failed flags out_failed → NamesMerged chunk inputs out old new outcome
unmerged chunk out inputs old new flags out_failed failed outcome it made = record {
  entries = it.entries;
  comes = inl (record { answer = made.merging ∙ ap unopened_so (sym it.refused_are); fewer = it.fewer }, it.unreached);
  ends = subst (λ (l : List Bool). NamesEnd (inputs_and_output kinds.Store inputs out) old new it.entries l outcome.out_failed (λ some. ending_of_merging inputs outcome.merging)) (sym made.inputs)
      (subst (λ (b : Bool). NamesEnd (inputs_and_output kinds.Store inputs out) old new it.entries flags b (λ some. ending_of_merging inputs outcome.merging)) (sym made.out)
      (subst (λ (m : Merging). NamesEnd (inputs_and_output kinds.Store inputs out) old new it.entries flags out_failed (λ some. ending_of_merging inputs m)) (sym made.merging) (record {
        names = it.names;
        well = λ some. unopened_well inputs failed;
        sure = λ some e. let sure = it.sure in told_or some (sure (unopened_failing inputs failed e));
      })));
}

pub out_refused : (chunk : ℕ) (out : List ℕ) (inputs : List (List ℕ)) (w0 w1 w2 w3 : WorldState) (ss : List StoreState) (flags : List Bool) (why : OutsideRefused) (failed : Bool) (outcome : Outcome) → InputsOpened kinds.Store StoreSeen w0 w1 inputs ss
    → Opens {T = Unit} w1 w2 kinds.Live out (Err why) → CountsStand w1 w2 → OpenCause {T = Unit} w1.faults w2.faults (Err why) → InputsKept kinds.Store store_keeping w2 w3 inputs ss flags
    → w0.faults < 2 ^ 64 → w0.input_faults < 2 ^ 64 → w0.output_faults < 2 ^ 64
    → (failed ≡ true → why ≡ outside_refusals.Failed) → (failed ≡ false → why ≡ outside_refusals.Memory) → Unmade outcome failed flags failed → NamesMerged chunk inputs out w0 w3 outcome
out_refused chunk out inputs w0 w1 w2 w3 ss flags why failed outcome opened opens stands cause kept world_fits inputs_fit outputs_fit is_failed is_memory made =
    unmerged chunk out inputs w0 w3 flags failed failed outcome (out_unread out inputs w0 w1 w2 w3 ss flags why failed opened opens stands cause kept world_fits inputs_fit outputs_fit is_failed is_memory) made

pub input_refused : (chunk : ℕ) (out : List ℕ) (inputs : List (List ℕ)) (w0 w2 w3 : WorldState) (ss : List StoreState) (flags : List Bool) (why : OutsideRefused) (failed : Bool) (outcome : Outcome) → InputOpeningRefused kinds.Store StoreSeen w0 w2 inputs ss why → InputsKept kinds.Store store_keeping w2 w3 (take (length ss) inputs) ss flags
    → w0.faults < 2 ^ 64 → w0.input_faults < 2 ^ 64 → w0.output_faults < 2 ^ 64
    → (failed ≡ true → why ≡ outside_refusals.Failed) → (failed ≡ false → why ≡ outside_refusals.Memory) → Unmade outcome failed (flags_with flags failed) false → NamesMerged chunk inputs out w0 w3 outcome
input_refused chunk out inputs w0 w2 w3 ss flags why failed outcome refuses kept world_fits inputs_fit outputs_fit is_failed is_memory made =
    unmerged chunk out inputs w0 w3 (flags_with flags failed) false failed outcome (input_unread out inputs w0 w2 w3 ss flags why failed refuses kept world_fits inputs_fit outputs_fit is_failed is_memory) made

pub nothing_opened : (chunk : ℕ) (out : List ℕ) (inputs : List (List ℕ)) (w : WorldState) (outcome : Outcome) → 1 ≤ length inputs → w.faults < 2 ^ 64 → w.input_faults < 2 ^ 64 → w.output_faults < 2 ^ 64 → Unmade outcome false [] false
    → NamesMerged chunk inputs out w w outcome
nothing_opened chunk out inputs w outcome some world_fits inputs_fit outputs_fit made = unmerged chunk out inputs w w [] false false outcome (none_opened out inputs w some world_fits inputs_fit outputs_fit) made

-- ---- all were merged

module _ (out : List ℕ) (inputs : List (List ℕ)) (w0 w1 w2 w3 w4 : WorldState) (ss ss_now : List StoreState) (live live_now : LiveState) (flags : List Bool) (live_kept : Result Unit Failed) (b : AllGiven out inputs w0 w1 w2 w3 w4 ss ss_now live live_now flags live_kept) where
  -- the output's name holds what was merged of the bytes under the inputs' names
  all_reached : (chunk : ℕ) (answer : Result Merged MergeRefused) → MergesStores ss ss_now live live_now chunk answer → AllZip AsksTwice ss ss_now → Reached chunk inputs out w0 w4 (all_entries out inputs w0 w1 w2 w3 w4 ss ss_now live live_now flags live_kept b) answer
  all_reached chunk answer made asked = record {
    given = ss;
    kept_inputs = b.keeps.kept;
    names_are = b.keeps.names_are;
    live = live;
    stored = live_now;
    live_kept = went_well live_kept;
    merges = subst (λ (l : List StoreState). MergesStores ss l live live_now chunk answer) b.keeps.backs_are made;
    asked = subst (AllZip AsksTwice ss) b.keeps.backs_are asked;
    tells = (stores_tell w0 inputs ss b.opens.seen);
    unused = (stores_unused w0 inputs ss b.opens.seen);
    live_unused = b.new;
    file = λ told now files here here_now there.
        output_holds chunk ss ss_now live live_now answer files out told.names now.names live_kept made (files_told w0 told inputs ss files here (stores_tell w0 inputs ss b.opens.seen) there) (nothing_yet out inputs w0 w1 w2 w3 w4 ss ss_now live live_now flags live_kept b told here) (all_placed out inputs w0 w1 w2 w3 w4 ss ss_now live live_now flags live_kept b told now here here_now).placed;
    kept_are = refl;
  }

  pub all_merged : (chunk : ℕ) (outcome : Outcome) (answer : Result Merged MergeRefused) → MergesStores ss ss_now live live_now chunk answer → AllZip AsksTwice ss ss_now → outcome.merging ≡ merging_of answer → outcome.inputs_failed.items ≡ flags
      → outcome.out_failed ≡ failed_so (went_well live_kept) live_now.faults → NamesMerged chunk inputs out w0 w4 outcome
  all_merged chunk outcome answer made asked is flags_are out_is = record {
    entries = all_entries out inputs w0 w1 w2 w3 w4 ss ss_now live live_now flags live_kept b;
    comes = inr (answer, is, all_reached chunk answer made asked);
    ends = record {
      names = all_kept out inputs w0 w1 w2 w3 w4 ss ss_now live live_now flags live_kept b outcome.inputs_failed.items outcome.out_failed flags_are out_is;
      well = λ some. subst (λ (m : Merging). HaltsByInput inputs (ending_of_merging inputs m)) (sym is) (merges_well inputs chunk ss ss_now live live_now answer (zip_long (TellsStore w0) inputs ss (stores_tell w0 inputs ss b.opens.seen)) made);
      sure = λ some e. elim (fault_shows inputs chunk ss live live_now (went_well live_kept) b.keeps.kept answer (subst (λ (l : List StoreState). MergesStores ss l live live_now chunk answer) b.keeps.backs_are made) (stores_unused w0 inputs ss b.opens.seen) b.new (ap (λ (m : Merging). (ending_of_merging inputs m).fails) (sym is) ∙ e)) [
        | inl input ↦ inl (ap some_failed (flags_are ∙ b.keeps.failed_are) ∙ input)
        | inr output ↦ inr (inl (out_is ∙ output))
      ];
    };
  }
