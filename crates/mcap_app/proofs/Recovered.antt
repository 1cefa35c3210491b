-- What a recovery left keeps all rules.
use Rattle.std.proofs.Common.{◌≡◌, ◌⊎◌, ℕ, Bool, true, false, List, [], ◌∷◌, ◌++◌, Option, Some, None, Result, Ok, Err, refl, sym, ap, subst, inl, inr, ◌∙◌, arith}
use Rattle.std.specs.Prelude.{IsSome}
use Rattle.std.proofs.lemmas.Bool.{both_ways}
use Rattle.mcap_io.specs.Outside.{WorldState, Told, Keeping, Opening}
use Rattle.mcap_io.specs.declared.outside.ObjectKind.TheVariants as kinds
use Rattle.mcap_model.specs.declared.options.FileOptions.{FileOptions}
use Rattle.mcap_model.specs.Laws.{CanBeWritten}
use Rattle.mcap_model.specs.Recovery.{RepairsCanBeWritten}
use Rattle.mcap_laws.proofs.Validity.{files_are_valid, files_are_indexed}
use Rattle.mcap_recover.specs.declared.answers.Recovered.{Recovered}
use Rattle.mcap_recover.specs.declared.answers.RecoverRefused.{RecoverRefused}
use Rattle.record_keeping.specs.NewFiles.{recovered_options}
use Rattle.mcap_recover.specs.Recovering.{lacks}
use Rattle.command_base.specs.declared.statuses.Status.TheVariants as statuses
use Rattle.command_base.specs.Printing.{TellsAll}
use Rattle.command_base.specs.Ran.{Scene, kept, failed_so, named_when, failed_names}
use Rattle.command_write.specs.declared.recovering.Recovery.{Recovery}
use Rattle.command_write.specs.declared.recovering.Recovery.TheVariants as recoveries
use Rattle.command_write.specs.Recover.{HoldsRecovered, BothReached, RefusesRecovery, recovery_of, IsRecovery, recovered_line, RecoversFile}
use Rattle.command_write.proofs.Recoveries.{was_recovered}
use Rattle.mcap_app.specs.Laws.{AreCounted, RecoveriesAreSound}

-- ---- what it came to

refused_so : (entries : List Opening) (recovery : Recovery) → RefusesRecovery entries recovery → (recovery ≡ recoveries.Unopened) ⊎ (recovery ≡ recoveries.Refused lacks)
refused_so [] recovery is = inr is
refused_so (entry ∷ []) recovery (inl is) = inl is.1
refused_so (entry ∷ []) recovery (inr is) = inr is.1
refused_so (entry ∷ other ∷ more) recovery is = inl is.1

opened_both : (result : Result Recovered RecoverRefused) → recovery_of result ≡ recoveries.Unopened → ⊥
opened_both (Ok r) e = absurd cc
opened_both (Err why) e = absurd cc

lacks_memory : (result : Result Recovered RecoverRefused) → recovery_of result ≡ recoveries.Refused lacks → result ≡ Err lacks
lacks_memory (Ok r) e = absurd cc
lacks_memory (Err why) e = cc

same_result : (result other : Result Recovered RecoverRefused) → recovery_of result ≡ recovery_of other → result ≡ other
same_result (Ok a) (Ok b) e = cc
same_result (Ok a) (Err why) e = absurd cc
same_result (Err why) (Ok b) e = absurd cc
same_result (Err why) (Err other) e = cc

-- both names were given, unless memory lacked
pub reached : (chunk : ℕ) (input out : List ℕ) (old new : WorldState) (entries : List Opening) (recovery : Recovery) (result : Result Recovered RecoverRefused) → IsRecovery chunk input out old new entries recovery → recovery ≡ recovery_of result
    → (result ≡ Err lacks → ⊥) → BothReached chunk input out old new entries result
reached chunk input out old new entries recovery result (inl (refusal, unreached)) is enough = elim (refused_so entries recovery refusal) [
  | inl unopened ↦ absurd (opened_both result (sym is ∙ unopened))
  | inr memory ↦ absurd (enough (lacks_memory result (sym is ∙ memory)))
]
reached chunk input out old new entries recovery result (inr (answer, same, it)) is enough = subst (BothReached chunk input out old new entries) (same_result answer result (sym same ∙ is)) it

-- ---- both names were kept

some_last : (names : List (List ℕ)) (name : List ℕ) → names ++ name ∷ [] ≡ [] → ⊥
some_last [] name e = absurd cc
some_last (x ∷ xs) name e = absurd cc

well_kept : (input out : List ℕ) (source : Keeping) (well : Bool) (faults : ℕ) → failed_names (kept kinds.Source input source ∷ kept kinds.Live out (record { well = well; faults = faults; left = None; asked = 0 }) ∷ []) ≡ [] → well ≡ true
well_kept input out source true faults none = refl
well_kept input out source false faults none = absurd (some_last (named_when (failed_so source.well source.faults) input) out none)

-- ---- a recovery that was made

bytes_of : (found : Option (List ℕ)) → IsSome found → (bytes : List ℕ) × (found ≡ Some bytes)
bytes_of None some = absurd (both_ways false refl some)
bytes_of (Some bytes) some = (bytes, refl)

-- what was printed, and what stands under the output's name of the bytes under that of the input
pub record WasMade (chunk : ℕ) (input out : List ℕ) (old new : Scene) (told : Told) (recovery : Recovery) : Type 0 where
  pub recovered : Recovered
  pub is : recovery ≡ recoveries.Made recovered
  pub line : TellsAll old.out new.out (recovered_line recovered)
  pub now : Told
  pub tells : new.world.told ≡ Some now
  pub bytes : List ℕ
  pub there : told.names input ≡ Some bytes
  pub holds : HoldsRecovered chunk bytes recovered true (told.names out) (now.names out)

pub made : (chunk : ℕ) (input out : List ℕ) (old new : Scene) (told : Told) → (it : RecoversFile chunk input out old new statuses.Done) → old.world.told ≡ Some told → WasMade chunk input out old new told it.recovery
made chunk input out old new told it here =
    let whole = was_recovered chunk input out old new it in
    let r = whole.recovered in
    let all = reached chunk input out old.world new.world it.entries it.recovery (Ok r) it.comes whole.is (λ e. absurd cc) in
    let left = it.ran.ran.leaves told here in
    let (bytes, there) = bytes_of (told.names input) (all.tells told here).1 in
    let source : Keeping = record { well = all.source_kept; faults = all.back.faults; left = all.back.left; asked = 0 } in
    let well = well_kept input out source all.live_kept all.stored.faults (ap failed_names (sym all.kept_are) ∙ whole.unfailed) in
    record {
      recovered = r;
      is = whole.is;
      line = whole.line;
      now = left.0;
      tells = left.1;
      bytes = bytes;
      there = there;
      holds = subst (λ (b : Bool). HoldsRecovered chunk bytes r b (told.names out) (left.0.names out)) well (all.file told left.0 bytes here left.1 there);
    }

-- ---- the law

pub recoveries_are_sound : RepairsCanBeWritten → RecoveriesAreSound
recoveries_are_sound repairs_can_be_written chunk input out old new told size it here =
    let all = made chunk input out old new told it here in
    let holds = all.holds in
    let options : FileOptions = recovered_options holds.profile chunk in
    let written : AreCounted holds.extras → CanBeWritten options holds.extras holds.history = λ few.
    repairs_can_be_written options holds.tops holds.extras holds.history chunk holds.halts.kept.good holds.repairs refl (omega (arith, size.0)) size.1 holds.within.holds.few holds.within.holds.small
    few.0 few.1 in
    record {
      recovered = all.recovered;
      is_made = all.is;
      line = all.line;
      told = all.now;
      tells = all.tells;
      profile = holds.profile;
      extras = holds.extras;
      history = holds.history;
      extras_are = holds.extras_are;
      there = holds.placed;
      valid = λ few. files_are_valid options holds.extras holds.history (written few);
      indexed = λ few. files_are_indexed options holds.extras holds.history chunk refl (written few);
    }
