-- What is promised of a merge of files.
use Rattle.std.proofs.Common.{◌≡◌, ℕ, List, [], ◌∷◌, length, Result, refl, sym, subst}
use Rattle.mcap_io.specs.Outside.{SinkState, Opening}
use Rattle.mcap_io.specs.OutsideCalls.{WritesAll}
use Rattle.mcap_io.specs.declared.outside.ObjectKind.TheVariants as kinds
use Rattle.mcap_io.specs.declared.outside.Short.{Short}
use Rattle.mcap_merge.specs.declared.answers.Merged.{Merged}
use Rattle.mcap_merge.specs.declared.answers.MergeRefused.TheVariants as merges
use Rattle.mcap_model.specs.declared.ends.Stop.TheVariants as stops
use Rattle.mcap_model.specs.declared.refusals.ReadingRefused.TheVariants as readings
use Rattle.command_base.specs.declared.statuses.Status.{Status}
use Rattle.command_base.specs.declared.statuses.Status.TheVariants as statuses
use Rattle.command_base.specs.Texts.{grammar, compressed, limit}
use Rattle.command_base.specs.Printing.{TellsAll, Tells, Takes}
use Rattle.command_base.specs.Ran.{Scene, failed_names}
use Rattle.command_base.specs.Endings.{IsWritingDone}
use Rattle.command_base.specs.Outputs.{inputs_and_output, WritesOutput}
use Rattle.command_base.proofs.Endings.{halted_undone}
use Rattle.command_write.specs.Halting.{name_at}
use Rattle.command_write.specs.declared.merging.Merging.{Merging}
use Rattle.command_write.specs.declared.merging.Merging.TheVariants as mergings
use Rattle.command_write.specs.declared.merging.Outcome.{Outcome}
use Rattle.command_write.specs.Recover.{number_after_name}
use Rattle.command_write.specs.Merge.{merged_line, ending_of_merging, MergesFiles}
use Rattle.command_write.specs.MergeSteps.{NamesMerged}
use Rattle.command_write.proofs.Recoveries.{wrote}
use Rattle.command_write.proofs.MergedStores.{merging_decides}

-- ---- the command

-- all that is promised of it
pub merged : (chunk : ℕ) (inputs : List (List ℕ)) (out : List ℕ) (old new : Scene) (outcome : Outcome) (answer : Status) → (names : NamesMerged chunk inputs out old.world new.world outcome)
    → WritesOutput (inputs_and_output kinds.Store inputs out) old new names.entries (λ some. ending_of_merging inputs outcome.merging) answer → MergesFiles chunk inputs out old new answer
merged chunk inputs out old new outcome answer names writes = record {
  entries = names.entries;
  merging = outcome.merging;
  comes = names.comes;
  ran = writes.ran;
  decided = λ told files here there quiet.
      let (unnamed, other, is) = writes.ran.calm quiet in
      merging_decides chunk inputs out old.world new.world names.entries outcome.merging told files answer names.comes here there other is;
}

-- a merge of which all was done was made
done_made : (inputs : List (List ℕ)) (merging : Merging) → IsWritingDone (ending_of_merging inputs merging) → (m : Merged) × (merging ≡ mergings.Made m)
done_made inputs mergings.Unopened done = absurd (let fails = done.well in cc)
done_made inputs (mergings.Made m) done = (m, refl)
done_made inputs (mergings.Refused (merges.Halted input (readings.Fault faults))) done = absurd (let fails = done.well in cc)
done_made inputs (mergings.Refused (merges.Halted input (readings.Grammar offset rule))) done = absurd (halted_undone input (grammar (name_at inputs input) offset) done)
done_made inputs (mergings.Refused (merges.Halted input (readings.Compressed offset name))) done = absurd (halted_undone input (compressed (name_at inputs input) name offset) done)
done_made inputs (mergings.Refused (merges.Halted input (readings.Limit offset))) done = absurd (halted_undone input (limit (name_at inputs input) offset) done)
done_made inputs (mergings.Refused (merges.Halted input readings.Memory)) done = absurd (let lacks_some = done.memory in cc)
done_made inputs (mergings.Refused (merges.Changed input offset)) done = absurd (halted_undone input (grammar (name_at inputs input) offset) done)
done_made inputs (mergings.Refused merges.TooManySchemas) done = absurd (let passes = done.within in cc)
done_made inputs (mergings.Refused merges.TooManyChannels) done = absurd (let passes = done.within in cc)
done_made inputs (mergings.Refused (merges.Stopped (stops.Fault faults))) done = absurd (let fails = done.well in cc)
done_made inputs (mergings.Refused (merges.Stopped (stops.Limit blocks bytes))) done = absurd (let passes = done.within in cc)
done_made inputs (mergings.Refused (merges.Stopped stops.Memory)) done = absurd (let lacks_some = done.memory in cc)

-- where all was done no name failed, a merge was made, and all of its line was taken
pub record WasMerged (inputs : List (List ℕ)) (old new : Scene) (entries : List Opening) (merging : Merging) : Type 0 where
  pub unfailed : failed_names entries ≡ []
  pub merged : Merged
  pub is : merging ≡ mergings.Made merged
  pub line : TellsAll old.out new.out (merged_line (length inputs) merged)

pub was_merged : (chunk : ℕ) (inputs : List (List ℕ)) (out : List ℕ) (old new : Scene) (it : MergesFiles chunk inputs out old new statuses.Done) → WasMerged inputs old new it.entries it.merging
was_merged chunk inputs out old new it =
    let (none, done, taken) = it.ran.whole refl in
    let (m, is) = done_made inputs it.merging done in
    record {
      unfailed = none;
      merged = m;
      is = is;
      line = subst (λ (x : Merging). TellsAll old.out new.out (ending_of_merging inputs x).text) is taken;
    }

-- ---- the line

cons_some : (x : ℕ) (xs : List ℕ) → x ∷ xs ≡ [] → ⊥
cons_some x xs e = absurd cc

-- it isn't empty
line_is_said : (n : ℕ) (m : Merged) → merged_line n m ≡ [] → ⊥
unfolding merged_line number_after_name
line_is_said n m e = cons_some _ _ e

-- what was printed of a merge that was made
pub takes_merged : (before now : SinkState) (inputs : List (List ℕ)) (line : List ℕ) (result : Result Unit Short) (merging : Merging) (m : Merged) → merging ≡ mergings.Made m → line ≡ merged_line (length inputs) m → WritesAll before now line result
    → Takes before now (ending_of_merging inputs merging).text
takes_merged before now inputs line result merging m is line_is written =
    subst (λ (x : Merging). Takes before now (ending_of_merging inputs x).text) (sym is)
    (record { tells = subst (λ (l : List ℕ). Tells before now l) line_is (wrote before now line result written); silent = λ none. absurd (line_is_said (length inputs) m none) })
