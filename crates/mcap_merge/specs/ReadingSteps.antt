-- The steps of reading inputs.
use Rattle.std.specs.Prelude.{◌≡◌, ℕ, ◌+◌, ◌<◌, ◌≤◌, List, length, Option, Some, None, Result, Ok, Err}
use Rattle.std.specs.List.{AllZip}
use Rattle.mcap_io.specs.Outside.{SourceState, RisesOnce}
use Rattle.mcap_io.specs.Stores.{StoreState}
use Rattle.mcap_io.specs.StoreSources.{front_left}
use Rattle.mcap_io.specs.StoreFronts.{WasRead}
use Rattle.mcap_model.specs.declared.ends.Stop.TheVariants as stops
use Rattle.mcap_model.specs.Places.{Has, Each}
use Rattle.mcap_model.specs.Tops.{Top}
use Rattle.mcap_model.specs.Kept.{reading_limits, Halts, grammar, compressed, beyond}
use Rattle.mcap_model.specs.declared.refusals.ReadingRefused.{ReadingRefused}
use Rattle.mcap_model.specs.declared.refusals.ReadingRefused.TheVariants as refusals
use Rattle.merge_walk.specs.declared.spans.Span.{Span}
use Rattle.mcap_merge.specs.declared.answers.MergeRefused.{MergeRefused}
use Rattle.mcap_merge.specs.declared.answers.MergeRefused.TheVariants as merges
use Rattle.mcap_merge.specs.declared.input.Input.{Input}
use Rattle.mcap_merge.specs.ReadInputs.{Read}
use Rattle.mcap_merge.specs.Inputs.{HoldsInput, HoldInputs, ReadsInput}
use Rattle.mcap_merge.specs.Reading.{IsReadOf}

-- a source over the front of a store, which counts its own failures
abbrev pub front_source : StoreState → ℕ → SourceState
front_source store len = record { left = front_left store.bytes 0 len; faults = 0 }

-- the first so many bytes of a store were read, none twice
pub record FrontReads (old : StoreState) (len : ℕ) (new : StoreState) (result : Result Input ReadingRefused)
    : Type 0 where
  pub next : ℕ
  pub now : SourceState
  pub was : WasRead old new next len now.faults
  pub reads : ReadsInput (front_source old len) now result

-- where the store tells, its bytes are as many
abbrev pub HasLength : StoreState → ℕ → Type 0
HasLength store len = (bytes : List ℕ) → store.bytes ≡ Some bytes → len ≡ length bytes

-- a fault is told with that count
abbrev pub IsCounted : ℕ → ReadingRefused → ReadingRefused → Type 0
IsCounted count (refusals.Fault faults) result = result ≡ refusals.Fault count
IsCounted count (refusals.Grammar offset rule) result = result ≡ refusals.Grammar offset rule
IsCounted count (refusals.Compressed offset name) result = result ≡ refusals.Compressed offset name
IsCounted count (refusals.Limit offset) result = result ≡ refusals.Limit offset
IsCounted count refusals.Memory result = result ≡ refusals.Memory

-- each of these spans ends within so many bytes
abbrev pub EndWithin : ℕ → List Span → Type 0
EndWithin len spans = Each (λ x. x.at + x.length ≤ len) spans

-- or that of the record at this offset ends behind them
abbrev pub FindsOutside : List Span → ℕ → Option ℕ → Type 0
FindsOutside spans len None = EndWithin len spans
FindsOutside spans len (Some offset) = (s : Span) × Has spans s × (offset ≡ s.offset) × (len < s.at + s.length)

-- each span of the input lies within the length that its store has answered
abbrev pub SpansFit : StoreState → Input → Type 0
SpansFit s i = Each (λ x. x.at + x.length ≤ s.known) i.spans.items

-- no more bytes were asked for than the length that it has answered
pub record AsksWithinLength (old new : StoreState) : Type 0 where
  pub once : new.asked ≤ old.asked + new.known

-- the store tells the same bytes, and its count hasn't fallen
pub record StoreKeeps (old new : StoreState) : Type 0 where
  pub bytes : new.bytes ≡ old.bytes
  pub known : old.known ≤ new.known
  pub faults : old.faults ≤ new.faults

-- why a store wasn't read to its Data End
abbrev pub StoreRefused : StoreState → StoreState → ReadingRefused → Type 0
StoreRefused old new (refusals.Fault faults) = RisesOnce old.faults new.faults × (faults ≡ new.faults)
StoreRefused old new (refusals.Grammar offset rule) = (new.faults ≡ old.faults)
    × ((bytes : List ℕ) → old.bytes ≡ Some bytes → (tops : List Top) × Halts reading_limits bytes tops (grammar offset rule))
StoreRefused old new (refusals.Compressed offset name) = (new.faults ≡ old.faults)
    × ((bytes : List ℕ) → old.bytes ≡ Some bytes → (tops : List Top) × Halts reading_limits bytes tops (compressed offset name))
StoreRefused old new (refusals.Limit offset) = (new.faults ≡ old.faults)
    × ((bytes : List ℕ) → old.bytes ≡ Some bytes → (tops : List Top) × Halts reading_limits bytes tops (beyond offset))
StoreRefused old new refusals.Memory = new.faults ≡ old.faults

-- a store was read whole
abbrev pub ReadsWhole : StoreState → StoreState → Result Input ReadingRefused → Type 0
ReadsWhole old new (Ok input) = (r : Read) × HoldsInput r input × IsReadOf old r × (new.faults ≡ old.faults)
ReadsWhole old new (Err why) = StoreRefused old new why

-- what is answered for that: a want of memory is one of the merge
abbrev pub IsRefusalAt : ℕ → ReadingRefused → MergeRefused → Type 0
IsRefusalAt input (refusals.Fault faults) why = why ≡ merges.Halted input (refusals.Fault faults)
IsRefusalAt input (refusals.Grammar offset rule) why = why ≡ merges.Halted input (refusals.Grammar offset rule)
IsRefusalAt input (refusals.Compressed offset name) why = why ≡ merges.Halted input (refusals.Compressed offset name)
IsRefusalAt input (refusals.Limit offset) why = why ≡ merges.Halted input (refusals.Limit offset)
IsRefusalAt input refusals.Memory why = why ≡ merges.Stopped stops.Memory

-- all stores were read to their Data Ends, and this is held of them
abbrev pub AllReadWhole : List StoreState → List Input → Type 0
AllReadWhole stores inputs = (reads : List Read) × HoldInputs reads inputs × AllZip IsReadOf stores reads
