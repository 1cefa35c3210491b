-- What the steps of a replay by the index come to besides: that a chunk has one Chunk Index, and causes.
use Rattle.std.specs.Prelude.{◌≡◌, ℕ, List, Option, Some, Result, Ok, Err}
use Rattle.mcap_model.specs.declared.replay.Replayed.{Replayed}
use Rattle.mcap_model.specs.declared.refusals.ReadingRefused.{ReadingRefused}
use Rattle.mcap_model.specs.declared.refusals.IndexedRefused.{IndexedRefused}
use Rattle.indexed_replay.specs.Reaching.{AreOfOne}
use Rattle.indexed_replay.specs.Replaying.{RefusedReplayCause}

-- no chunk has two Chunk Indexes
abbrev pub HaveOneIndex : List ℕ → Type 0
HaveOneIndex file = (first second : ℕ) → AreOfOne file first second → first ≡ second

abbrev pub HasOneIndex : List ℕ → Result Replayed IndexedRefused → Type 0
HasOneIndex file (Ok played) = HaveOneIndex file
HasOneIndex file (Err why) = Unit {0}

-- no file is played in which a chunk has two
abbrev pub TellsOneIndex : Option (List ℕ) → Result Replayed IndexedRefused → Type 0
TellsOneIndex told result = (file : List ℕ) → told ≡ Some file → HasOneIndex file result

abbrev pub ReadingCause : {P : Type 0} → ℕ → ℕ → Result P ReadingRefused → Type 0
ReadingCause before now (Ok it) = now ≡ before
ReadingCause before now (Err why) = RefusedReplayCause before now why
