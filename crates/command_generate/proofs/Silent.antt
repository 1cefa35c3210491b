-- What is told where all was done.
use Rattle.std.proofs.Common.{◌≡◌, ℕ, Bool, true, false, List, [], ◌∷◌, ◌++◌, Option, refl, sym, subst, ◌∙◌}
use Rattle.std.proofs.lemmas.Bool.{both_ways}
use Rattle.mcap_io.specs.Outside.{Rose}
use Rattle.mcap_model.specs.declared.options.RecordOptions.{RecordOptions}
use Rattle.recorder.specs.declared.report.Report.{Report}
use Rattle.command_base.specs.declared.statuses.Status.{Status}
use Rattle.command_base.specs.declared.statuses.Status.TheVariants as statuses
use Rattle.command_base.specs.Texts.{Trouble, fault, output_fault, output_limit, no_memory}
use Rattle.command_base.specs.Ran.{Scene, counts_in, WorldRose, when}
use Rattle.command_base.proofs.Asking.{none_due}
use Rattle.command_generate.specs.Back.{Back}
use Rattle.command_generate.specs.declared.making.Numbers.{Numbers}
use Rattle.recorder.specs.Findings.{limit_passed}
use Rattle.command_generate.specs.Generating.{halts_after, LackIsTold, Generates}

-- ---- the parts of what is told

pub cons_some : {X : Type 0} (x : X) (xs : List X) → x ∷ xs ≡ [] → ⊥
cons_some x xs none = absurd cc

first_none : {X : Type 0} (xs ys : List X) → xs ++ ys ≡ [] → xs ≡ []
first_none [] ys none = refl
first_none (x ∷ xs) ys none = absurd (cons_some x (xs ++ ys) none)

second_none : {X : Type 0} (xs ys : List X) → xs ++ ys ≡ [] → ys ≡ []
second_none [] ys none = none
second_none (x ∷ xs) ys none = absurd (cons_some x (xs ++ ys) none)

untold : (there : Bool) (trouble : Trouble) → when there trouble ≡ [] → there ≡ false
untold true trouble none = absurd (cons_some trouble [] none)
untold false trouble none = refl

-- No count rose, no limit would be passed, memory was enough, and the reading back wasn't halted.
pub record IsQuiet (feeds : ℕ) (out : List ℕ) (old new : Scene) (report : Option Report) (back : Option Back) : Type 0 where
  pub world : WorldRose old.world new.world → ⊥
  pub printing : Rose old.out.faults new.out.faults → ⊥
  pub within : limit_passed report ≡ false
  pub enough : LackIsTold (counts_in old) (counts_in new) feeds out report back false
  pub halts : halts_after feeds out back ≡ []

pub quiet : (options : RecordOptions) (numbers : Numbers) (out : List ℕ) (old new : Scene) (report : Option Report) (status : Status) → (it : Generates options numbers out old new report status) → status ≡ statuses.Done
    → IsQuiet numbers.feeds out old new report it.back
quiet options numbers out old new report status it done =
    let halts = halts_after numbers.feeds out it.back in
    let last = when it.printing output_fault ++ when it.lacked no_memory in
    let limits = when (limit_passed report) (output_limit out) ++ last in
    let none = none_due (halts ++ (when it.blamed (fault out) ++ limits)) (sym it.said.status_is ∙ done) in
    let others = second_none halts (when it.blamed (fault out) ++ limits) none in
    let more = second_none (when it.blamed (fault out)) limits others in
    let end = second_none (when (limit_passed report) (output_limit out)) last more in
    let unblamed = untold it.blamed (fault out) (first_none (when it.blamed (fault out)) limits others) in
    let unlimited = untold (limit_passed report) (output_limit out) (first_none (when (limit_passed report) (output_limit out)) last more) in
    let printed = untold it.printing output_fault (first_none (when it.printing output_fault) (when it.lacked no_memory) end) in
    let enough = untold it.lacked no_memory (second_none (when it.printing output_fault) (when it.lacked no_memory) end) in
    record {
      world = λ rose. both_ways it.blamed unblamed (it.blame.1 rose);
      printing = λ rose. both_ways it.printing printed (it.print_blame.1 rose);
      within = unlimited;
      enough = subst (LackIsTold (counts_in old) (counts_in new) numbers.feeds out report it.back) enough it.lacks;
      halts = first_none halts (when it.blamed (fault out) ++ limits) none;
    }
