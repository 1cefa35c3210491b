-- What the reading of the front of a store asks for, and when the store failed in it.
use Rattle.std.proofs.Common.{◌≡◌, ℕ, List, Option, Result, length, take, drop, Some, Ok, Err, refl, sym, ap, subst, ◌∙◌, arith}
use Rattle.std.proofs.lemmas.List.{length-take-le, length-drop}
use Rattle.std.proofs.lemmas.Option.{same_Some}
use Rattle.mcap_io.specs.Outside.{SourceState, RisesOnce}
use Rattle.mcap_io.specs.Stores.{StoreState}
use Rattle.mcap_io.specs.StoreSources.{front_left}
use Rattle.mcap_model.specs.declared.checked.Verdict.{Verdict}
use Rattle.mcap_model.proofs.Flaws.{left_size}
use Rattle.mcap_model.specs.declared.refusals.ReadingRefused.{ReadingRefused}
use Rattle.mcap_model.specs.declared.refusals.ReadingRefused.TheVariants as scans
use Rattle.mcap_io.specs.StoreFronts.{WasRead}
use Rattle.mcap_io.proofs.LentStores.{asks_front}
use Rattle.index_check.specs.declared.section.Section.{Section}
use Rattle.file_check.specs.declared.flaws.FailedRule.{FailedRule}
use Rattle.file_check.specs.Reading.{ReadsSection}
use Rattle.file_check.specs.Checking.{CheckCause}
use Rattle.file_check.specs.CheckSteps.{checked_front, SectionCause, SectionAsks, RefusedCause}

-- where the reading had no failure the store had none
still : (old new : StoreState) (next end failures : ℕ) → WasRead old new next end failures → failures ≡ 0 → new.faults ≡ old.faults
still old new next end failures was none = let whole = was.whole none in whole.0

pub front_cause : (old new : StoreState) (now : SourceState) (next end : ℕ) (result : Result (Result Section FailedRule) ReadingRefused) → WasRead old new next end now.faults → ReadsSection (checked_front old end) now result → SectionCause old.faults new.faults result
front_cause old new now next end (Ok (Ok section)) was (tops, is) = let read = is.are_read in still old new next end now.faults was read.still
front_cause old new now next end (Ok (Err failed)) was (tops, wrong) = let read = wrong.are_read in still old new next end now.faults was read.still
front_cause old new now next end (Err (scans.Fault faults)) was (tops, stands) =
    let rises = stands.rises in
    let broken = was.broken (omega (arith, rises.once)) in
    record { later = broken.0; once = broken.1 }
front_cause old new now next end (Err (scans.Grammar offset rule)) was (tops, stands) = still old new next end now.faults was stands.still
front_cause old new now next end (Err (scans.Compressed offset name)) was (tops, stands) = still old new next end now.faults was stands.still
front_cause old new now next end (Err (scans.Limit offset)) was (tops, stands) = still old new next end now.faults was stands.still
front_cause old new now next end (Err scans.Memory) was (tops, stands) = still old new next end now.faults was stands.still

pub front_asks : (old new : StoreState) (now : SourceState) (next end : ℕ) (result : Result (Result Section FailedRule) ReadingRefused) → WasRead old new next end now.faults → now.left ≡ front_left new.bytes next end
    → ReadsSection (checked_front old end) now result → SectionAsks old end new.asked result
front_asks old new now next end (Err why) was left reads = asks_front old new next end now.faults was
front_asks old new now next end (Ok (Err failed)) was left reads = asks_front old new next end now.faults was
front_asks old new now next end (Ok (Ok section)) was left (tops, is) = λ file told long.
    let read = is.are_read in
    let kept = is.kept in
    let behind = kept.behind in
    let rest = read.read (take end file) (ap (λ (t : Option (List ℕ)). front_left t 0 end) told) in
    let given : now.left ≡ Some (drop next (take end file)) = left ∙ ap (λ (t : Option (List ℕ)). front_left t next end) (was.bytes ∙ told) in
    let same : drop next (take end file) ≡ rest.0 = same_Some (drop next (take end file)) rest.0 (sym given ∙ rest.1) in
    let size = length-take-le end file long in
    let place : next ≡ section.behind = omega (arith, ap length same, length-drop next (take end file), size, left_size (take end file) tops rest.0 rest.2, behind, was.within) in
    let whole = was.whole read.still in
    (omega (arith, place, was.within), omega (arith, whole.1, place))

-- ---- what is told of a refusal

pub told_cause : (before read now : ℕ) (why : ReadingRefused) (result : Result Verdict ReadingRefused) → SectionCause before read (Err why) → RefusedCause read now why result → CheckCause before now result
told_cause before read now (scans.Fault faults) result rises (same, is) =
    subst (λ (r : Result Verdict ReadingRefused). CheckCause before now r) (sym is) (subst (λ (n : ℕ). RisesOnce before n) (sym same) rises, refl)
told_cause before read now (scans.Grammar offset rule) result same cause = subst (λ (n : ℕ). CheckCause n now result) same cause
told_cause before read now (scans.Compressed offset name) result same cause = subst (λ (n : ℕ). CheckCause n now result) same cause
told_cause before read now (scans.Limit offset) result same cause = subst (λ (n : ℕ). CheckCause n now result) same cause
told_cause before read now scans.Memory result same cause = subst (λ (n : ℕ). CheckCause n now result) same cause
