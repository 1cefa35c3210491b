-- How a refused reading ends.
use Rattle.std.proofs.Common.{◌≡◌, ℕ, List, refl, inl, inr, arith}
use Rattle.mcap_io.specs.Outside.{RisesOnce}
use Rattle.mcap_model.specs.declared.refusals.ReadingRefused.{ReadingRefused}
use Rattle.mcap_model.specs.declared.refusals.ReadingRefused.TheVariants as refusals
use Rattle.mcap_model.specs.declared.refusals.IndexedRefused.{IndexedRefused}
use Rattle.mcap_model.specs.declared.refusals.IndexedRefused.TheVariants as by_index
use Rattle.command_base.specs.OneFile.{failing, refusal_ending, indexed_ending}
use Rattle.command_base.specs.ReadingSteps.{IsRefusal}

-- nothing is read
pub refusal_is : (file : List ℕ) (why : ReadingRefused) → IsRefusal (refusal_ending file why)
refusal_is file (refusals.Fault faults) = tt
refusal_is file (refusals.Grammar n rule) = inl refl
refusal_is file (refusals.Compressed n name) = inl refl
refusal_is file (refusals.Limit n) = inr refl
refusal_is file refusals.Memory = tt

pub indexed_is : (file : List ℕ) (why : IndexedRefused) → IsRefusal (indexed_ending file why)
indexed_is file (by_index.NotIndexed why) = inl refl
indexed_is file (by_index.Refused why) = refusal_is file why

-- only a failure of what is read from ends as one
pub refusal_fails : (file : List ℕ) (why : ReadingRefused) → refusal_ending file why ≡ failing → (faults : ℕ) × (why ≡ refusals.Fault faults)
refusal_fails file (refusals.Fault faults) e = (faults, refl)
refusal_fails file (refusals.Grammar n rule) e = absurd cc
refusal_fails file (refusals.Compressed n name) e = absurd cc
refusal_fails file (refusals.Limit n) e = absurd cc
refusal_fails file refusals.Memory e = absurd cc

pub indexed_fails : (file : List ℕ) (why : IndexedRefused) → indexed_ending file why ≡ failing → (faults : ℕ) × (why ≡ by_index.Refused (refusals.Fault faults))
indexed_fails file (by_index.NotIndexed why) e = absurd cc
indexed_fails file (by_index.Refused (refusals.Fault faults)) e = (faults, refl)
indexed_fails file (by_index.Refused (refusals.Grammar n rule)) e = absurd cc
indexed_fails file (by_index.Refused (refusals.Compressed n name)) e = absurd cc
indexed_fails file (by_index.Refused (refusals.Limit n)) e = absurd cc
indexed_fails file (by_index.Refused refusals.Memory) e = absurd cc

-- a count that rose is some
pub rises_some : (before now : ℕ) → RisesOnce before now → before ≡ 0 → now ≡ 0 → ⊥
rises_some before now rises unused none = omega (arith, rises.once, none, unused)
