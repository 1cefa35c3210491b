-- What the troubles of a check say of it, and of its file.
use Rattle.std.proofs.Common.{◌≡◌, ℕ, List, [], ◌∷◌, codes, Some, Result, Ok, Err, refl, sym, ap, subst, inl, inr, ◌∙◌}
use Rattle.mcap_io.specs.Outside.{SinkState}
use Rattle.mcap_io.specs.Stores.{StoreState}
use Rattle.mcap_io.specs.declared.outside.ObjectKind.TheVariants as kinds
use Rattle.mcap_io.specs.declared.outside.OutsideRefused.{OutsideRefused}
use Rattle.mcap_io.specs.declared.outside.OutsideRefused.TheVariants as outside_refusals
use Rattle.mcap_model.specs.declared.checked.Counts.{Counts as Numbers}
use Rattle.mcap_model.specs.declared.checked.Verdict.{Verdict}
use Rattle.mcap_model.specs.declared.checked.Verdict.TheVariants as verdicts
use Rattle.mcap_model.specs.declared.refusals.ReadingRefused.{ReadingRefused}
use Rattle.mcap_model.specs.declared.refusals.ReadingRefused.TheVariants as refusals
use Rattle.mcap_model.specs.declared.rules.Rule.{Rule}
use Rattle.command_base.specs.declared.file_reading.Reading.{Reading}
use Rattle.command_base.specs.declared.file_reading.Reading.TheVariants as readings
use Rattle.command_base.specs.declared.statuses.Status.{Status}
use Rattle.command_base.specs.declared.statuses.Status.TheVariants as statuses
use Rattle.command_base.specs.Printing.{Tells, TellsAll, Takes}
use Rattle.command_base.specs.Ran.{Scene}
use Rattle.command_base.specs.OneFile.{failing, refusal_ending, ending_status}
use Rattle.command_base.specs.Readings.{StoreUse, IsStoreRead, ReadsFile}
use Rattle.command_base.proofs.ReadNames.{store_shows, read_is}
use Rattle.command_base.proofs.Refusals.{refusal_is}
use Rattle.command_read.specs.Check.{HasAnswer, counts_line, flaw_line, verdict_line, check_ending, verdict_status, reading_status, final_status, Decides, FileChecks}

-- ---- the line

cons_some : (y : ℕ) (ys : List ℕ) → y ∷ ys ≡ [] → ⊥
cons_some y ys e = absurd cc

indexed_some : (n : Numbers) → counts_line (codes "ok indexed") n ≡ [] → ⊥
unfolding counts_line
indexed_some n e = cons_some _ _ e

plain_some : (n : Numbers) → counts_line (codes "ok plain") n ≡ [] → ⊥
unfolding counts_line
plain_some n e = cons_some _ _ e

flaw_some : (rule : Rule) (offset : ℕ) → flaw_line rule offset ≡ [] → ⊥
unfolding flaw_line
flaw_some rule offset e = cons_some _ _ e

-- a verdict has a line
verdict_some : (verdict : Verdict) → verdict_line verdict ≡ [] → ⊥
verdict_some (verdicts.Indexed n) e = indexed_some n e
verdict_some (verdicts.Plain n) e = plain_some n e
verdict_some (verdicts.Flawed rule offset) e = flaw_some rule offset e

-- the text of a verdict that was given
pub takes_verdict : (before now : SinkState) (verdict : Verdict) (line : List ℕ) → line ≡ verdict_line verdict → Tells before now line → Takes before now (verdict_line verdict)
takes_verdict before now verdict line is tells = record { tells = subst (λ (l : List ℕ). Tells before now l) is tells; silent = λ none. absurd (verdict_some verdict none) }

-- ---- the status

-- where the troubles ask for a status, this is it
final_same : (complained own : Status) → (complained ≡ statuses.Done → ⊥) → final_status complained own ≡ complained
final_same statuses.Done own some = absurd (some refl)
final_same statuses.Refused own some = refl
final_same statuses.Fault own some = refl
final_same statuses.Limit own some = refl
final_same statuses.Memory own some = refl

final_none : (complained own : Status) → complained ≡ statuses.Done → final_status complained own ≡ own
final_none complained own none = ap (λ (c : Status). final_status c own) none

own_unfaulted : (reading : Reading Verdict ReadingRefused) → reading_status reading ≡ statuses.Fault → ⊥
own_unfaulted (readings.Unopened why) e = cc
own_unfaulted (readings.Opened (Ok (verdicts.Indexed counts))) e = cc
own_unfaulted (readings.Opened (Ok (verdicts.Plain counts))) e = cc
own_unfaulted (readings.Opened (Ok (verdicts.Flawed rule offset))) e = cc
own_unfaulted (readings.Opened (Err why)) e = cc

-- a fault is what the troubles ask for
of_troubles : (complained : Status) (reading : Reading Verdict ReadingRefused) (answer : Status) → answer ≡ final_status complained (reading_status reading) → answer ≡ statuses.Fault → complained ≡ statuses.Fault
of_troubles statuses.Done reading answer final is = absurd (own_unfaulted reading (sym final ∙ is))
of_troubles statuses.Refused reading answer final is = sym final ∙ is
of_troubles statuses.Fault reading answer final is = refl
of_troubles statuses.Limit reading answer final is = sym final ∙ is
of_troubles statuses.Memory reading answer final is = sym final ∙ is

-- ---- the bytes decide

halted_ends : (own complained answer status : Status) → answer ≡ final_status complained own → complained ≡ status → (status ≡ statuses.Done → ⊥) → answer ≡ status
halted_ends own complained answer status final is some = final ∙ final_same complained own (λ none. some (sym is ∙ none)) ∙ is

refused_undone : statuses.Refused ≡ statuses.Done → ⊥
refused_undone e = cc

fault_undone : statuses.Fault ≡ statuses.Done → ⊥
fault_undone e = cc

limit_undone : statuses.Limit ≡ statuses.Done → ⊥
limit_undone e = cc

memory_undone : statuses.Memory ≡ statuses.Done → ⊥
memory_undone e = cc

module _ (file bytes : List ℕ) (complained answer : Status) where
  -- what came of a check that didn't fail
  abbrev Decided : Reading Verdict ReadingRefused → Type 0
  Decided reading = (check_ending file reading ≡ failing → ⊥) → complained ≡ ending_status (check_ending file reading) → answer ≡ final_status complained (reading_status reading) → Decides bytes reading answer

  unopened_so : (why : OutsideRefused) → Decided (readings.Unopened why)
  unopened_so outside_refusals.Failed other why final = other refl
  unopened_so outside_refusals.Memory other why final = halted_ends statuses.Done complained answer statuses.Memory final why memory_undone

  decides_so : (store : StoreState) (now : StoreUse) (came : Result Verdict ReadingRefused) → store.bytes ≡ Some bytes → HasAnswer store now came → Decided (readings.Opened came)
  decides_so store now (Ok verdict) here comes other why final = (comes.checks bytes here, final ∙ final_none complained (verdict_status verdict) why)
  decides_so store now (Err (refusals.Fault count)) here comes other why final = other refl
  decides_so store now (Err (refusals.Grammar n rule)) here comes other why final = comes.cause
  decides_so store now (Err (refusals.Compressed n name)) here comes other why final = (comes.checks bytes here, halted_ends statuses.Done complained answer statuses.Refused final why refused_undone)
  decides_so store now (Err (refusals.Limit n)) here comes other why final = (comes.checks bytes here, halted_ends statuses.Done complained answer statuses.Limit final why limit_undone)
  decides_so store now (Err refusals.Memory) here comes other why final = halted_ends statuses.Done complained answer statuses.Memory final why memory_undone

-- ---- all was done

none_complained : (complained own : Status) → final_status complained own ≡ statuses.Done → complained ≡ statuses.Done
none_complained statuses.Done own e = refl
none_complained statuses.Refused own e = e
none_complained statuses.Fault own e = e
none_complained statuses.Limit own e = e
none_complained statuses.Memory own e = e

-- ---- the command

-- all that the program promises of a check
pub checked : (file : List ℕ) (old new : Scene) (complained answer : Status) (reads : ReadsFile (IsStoreRead HasAnswer file) kinds.Store file (check_ending file) old new complained) → answer ≡ final_status complained (reading_status reads.reading) → FileChecks file old new answer
checked file old new complained answer reads final =
    let own = reading_status reads.reading in
    record {
      complained = complained;
      reads = reads;
      status_is = final;
      rose = λ risen. elim (reads.ran.rose risen) [
        | inl is ↦ inl (halted_ends own complained answer statuses.Fault final is fault_undone)
        | inr is ↦ inr (halted_ends own complained answer statuses.Memory final is memory_undone)
      ];
      faulted = λ is. reads.ran.faulted (of_troubles complained reads.reading answer final is);
      decided = λ told bytes here there quiet.
          let (unnamed, unfailing, is) = reads.ran.calm quiet in
          store_shows (Decided file bytes complained answer) file bytes old.world told here there (unopened_so file bytes complained answer) HasAnswer (decides_so file bytes complained answer) reads.entries reads.reading reads.read unfailing is final;
      whole = λ done.
          let none : complained ≡ statuses.Done = none_complained complained own (sym final ∙ done) in
          let (unnamed, read) = reads.ran.whole none in
          let given = read_is verdict_line (refusal_ending file) (refusal_is file) reads.reading read.0 read.1 in
          let none_own : own ≡ statuses.Done = sym (final ∙ final_none complained own none) ∙ done in
          (given.0, given.1, sym (ap reading_status given.1) ∙ none_own, subst (λ (l : List ℕ). TellsAll old.out new.out l) (sym given.2) read.2);
    }
