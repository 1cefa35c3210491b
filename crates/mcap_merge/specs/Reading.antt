-- Inputs that are read.
use Rattle.std.specs.Prelude.{◌≡◌, ℕ, ◌<◌, List, Some}
use Rattle.std.specs.List.{AllZip}
use Rattle.mcap_io.specs.Outside.{RisesOnce}
use Rattle.mcap_io.specs.Stores.{StoreState}
use Rattle.mcap_model.specs.declared.ends.Stop.{Stop}
use Rattle.mcap_model.specs.declared.ends.Stop.TheVariants as stops
use Rattle.mcap_model.specs.Places.{At}
use Rattle.mcap_model.specs.Tops.{Top}
use Rattle.mcap_model.specs.Kept.{reading_limits, Halts, at_end, grammar, compressed, beyond}
use Rattle.mcap_model.specs.declared.refusals.ReadingRefused.{ReadingRefused}
use Rattle.mcap_model.specs.declared.refusals.ReadingRefused.TheVariants as refusals
use Rattle.mcap_merge.specs.declared.answers.MergeRefused.{MergeRefused}
use Rattle.mcap_merge.specs.declared.answers.MergeRefused.TheVariants as merges
use Rattle.mcap_merge.specs.ReadInputs.{Read}

-- its count stood still
abbrev pub FaultsStand : StoreState → StoreState → Type 0
FaultsStand old new = new.faults ≡ old.faults

-- where the store tells, a reading of its bytes comes to its Data End, and these are its records
abbrev pub IsReadOf : StoreState → Read → Type 0
IsReadOf store r =
    (bytes : List ℕ) → store.bytes ≡ Some bytes → (end : ℕ) × Halts reading_limits bytes r.tops (at_end end)

-- the inputs before that number can be read to their Data Ends
abbrev pub AreReadBefore : List StoreState → ℕ → Type 0
AreReadBefore stores n = (k : ℕ) (s : StoreState) → k < n → At stores k s → (r : Read) × IsReadOf s r

-- where the store of that number tells, a reading of its bytes halts so, and it is the first for which that is so
abbrev pub HaltsFirst : List StoreState → ℕ → (List ℕ → Type 0) → Type 0
HaltsFirst stores n halts =
    AreReadBefore stores n × (s : StoreState) × At stores n s × ((bytes : List ℕ) → s.bytes ≡ Some bytes → halts bytes)

-- the count of the one of that number has risen by one, to this, and those of the others stood still
abbrev pub InputRose : List StoreState → List StoreState → ℕ → ℕ → Type 0
InputRose olds news k faults = (old new : StoreState) × At olds k old × At news k new × RisesOnce old.faults new.faults
    × (faults ≡ new.faults)
    × ((n : ℕ) (was is : StoreState) → (n ≡ k → ⊥) → At olds n was → At news n is → FaultsStand was is)

-- why the input of that number wasn't read; but for a fault the counts stood still
abbrev pub ReadHalted : List StoreState → List StoreState → ℕ → ReadingRefused → Type 0
ReadHalted olds news input (refusals.Fault faults) = InputRose olds news input faults
ReadHalted olds news input (refusals.Grammar offset rule) = AllZip FaultsStand olds news
    × HaltsFirst olds input (λ bytes. (tops : List Top) × Halts reading_limits bytes tops (grammar offset rule))
ReadHalted olds news input (refusals.Compressed offset name) = AllZip FaultsStand olds news
    × HaltsFirst olds input (λ bytes. (tops : List Top) × Halts reading_limits bytes tops (compressed offset name))
ReadHalted olds news input (refusals.Limit offset) = AllZip FaultsStand olds news
    × HaltsFirst olds input (λ bytes. (tops : List Top) × Halts reading_limits bytes tops (beyond offset))
ReadHalted olds news input refusals.Memory = ⊥

-- where nothing was written, the merge stopped for want of memory alone, and the counts stood still
abbrev pub ReadStopped : List StoreState → List StoreState → Stop → Type 0
ReadStopped olds news (stops.Fault faults) = ⊥
ReadStopped olds news (stops.Limit blocks bytes) = ⊥
ReadStopped olds news stops.Memory = AllZip FaultsStand olds news

-- why the inputs weren't all read
abbrev pub InputRefused : List StoreState → List StoreState → MergeRefused → Type 0
InputRefused olds news (merges.Halted input why) = ReadHalted olds news input why
InputRefused olds news (merges.Changed input offset) = ⊥
InputRefused olds news merges.TooManySchemas = ⊥
InputRefused olds news merges.TooManyChannels = ⊥
InputRefused olds news (merges.Stopped stop) = ReadStopped olds news stop
