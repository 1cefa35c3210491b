-- That a reading failed only where its object did.
use Rattle.std.proofs.Common.{subst, refl, inl}
use Rattle.std.specs.Prelude.{◌≡◌, ℕ, List, Err}
use Rattle.mcap_io.specs.Outside.{SourceState}
use Rattle.mcap_model.specs.declared.refusals.ReadingRefused.{ReadingRefused}
use Rattle.command_base.specs.OneFile.{failing, refusal_ending, indexed_ending}
use Rattle.command_base.proofs.Refusals.{refusal_fails, rises_some, refusal_is, indexed_fails}
use Rattle.command_read.specs.Cat.{Selection, IsUnprinted, ComesTo}
use Rattle.mcap_io.specs.Stores.{StoreState}
use Rattle.mcap_model.specs.declared.checked.Verdict.{Verdict}
use Rattle.file_check.specs.Checking.{CheckCause}
use Rattle.command_base.specs.Readings.{StoreUse}
use Rattle.command_read.specs.Check.{HasAnswer}
use Rattle.mcap_model.specs.declared.replay.Replayed.{Replayed}
use Rattle.mcap_model.specs.declared.refusals.ReadingRefused.TheVariants as refusals
use Rattle.mcap_model.specs.declared.refusals.IndexedRefused.{IndexedRefused}
use Rattle.mcap_model.specs.declared.refusals.IndexedRefused.TheVariants as by_index
use Rattle.indexed_replay.specs.Replaying.{ReplayCause}
use Rattle.command_base.specs.ReadingSteps.{IsRefusal}
use Rattle.command_read.specs.Indexed.{IndexedComesTo, led_ending}
use Rattle.command_read.specs.Info.{FindsInfo, InfoComesTo}

-- a printing that failed has a source that failed
pub cat_fails : (asked : Selection) (before now : SourceState) (file : List ℕ) (why : ReadingRefused)
    → ComesTo asked before now (Err why) → before.faults ≡ 0 → refusal_ending file why ≡ failing → now.faults ≡ 0 → ⊥
cat_fails asked before now file why comes unused e none =
    let fault = refusal_fails file why e in
    let stands = subst (IsUnprinted before now) fault.1 comes in
    rises_some before.faults now.faults stands.1.rises unused none

-- a check that failed has a store that failed
pub check_fails : (store : StoreState) (now : StoreUse) (file : List ℕ) (why : ReadingRefused)
    → HasAnswer store now (Err why) → store.faults ≡ 0 → refusal_ending file why ≡ failing → now.faults ≡ 0 → ⊥
check_fails store now file why answer unused e none =
    let fault = refusal_fails file why e in
    let cause =
    subst (λ (w : ReadingRefused). CheckCause {V = Verdict} store.faults now.faults (Err w)) fault.1 answer.cause in
    rises_some store.faults now.faults cause.0 unused none

-- nothing is read
pub led_is : (file : List ℕ) (why : IndexedRefused) → IsRefusal (led_ending file why)
led_is file (by_index.NotIndexed why) = inl refl
led_is file (by_index.Refused (refusals.Fault faults)) = tt
led_is file (by_index.Refused (refusals.Grammar n rule)) = inl refl
led_is file (by_index.Refused (refusals.Compressed n name)) = refusal_is file (refusals.Compressed n name)
led_is file (by_index.Refused (refusals.Limit n)) = refusal_is file (refusals.Limit n)
led_is file (by_index.Refused refusals.Memory) = tt

-- only a failure of the store ends as one
led_fault : (file : List ℕ) (why : IndexedRefused) → led_ending file why ≡ failing
    → (faults : ℕ) × (why ≡ by_index.Refused (refusals.Fault faults))
led_fault file (by_index.NotIndexed why) e = absurd cc
led_fault file (by_index.Refused (refusals.Fault faults)) e = (faults, refl)
led_fault file (by_index.Refused (refusals.Grammar n rule)) e = absurd cc
led_fault file (by_index.Refused (refusals.Compressed n name)) e = absurd cc
led_fault file (by_index.Refused (refusals.Limit n)) e = absurd cc
led_fault file (by_index.Refused refusals.Memory) e = absurd cc

pub led_fails : (asked : Selection) (store : StoreState) (now : StoreUse) (file : List ℕ) (why : IndexedRefused)
    → IndexedComesTo asked store now (Err why) → store.faults ≡ 0 → led_ending file why ≡ failing → now.faults ≡ 0 → ⊥
led_fails asked store now file why comes unused e none =
    let fault = led_fault file why e in
    let cause =
    subst (λ (w : IndexedRefused). ReplayCause {P = Replayed} store.faults now.faults (Err w)) fault.1 comes.cause
    in
    rises_some store.faults now.faults cause.0 unused none

-- a telling that failed has a store that failed
pub info_fails : (store : StoreState) (now : StoreUse) (file : List ℕ) (why : IndexedRefused)
    → InfoComesTo store now (Err why) → store.faults ≡ 0 → indexed_ending file why ≡ failing → now.faults ≡ 0 → ⊥
info_fails store now file why comes unused e none =
    let fault = indexed_fails file why e in
    let finds = subst (λ (w : IndexedRefused). FindsInfo store now (Err w)) fault.1 comes.finds in
    rises_some store.faults now.faults finds.1.0 unused none
