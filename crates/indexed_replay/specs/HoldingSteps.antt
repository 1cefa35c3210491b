-- What is held of messages within a room, step by step.
use Rattle.std.specs.Prelude.{◌≡◌, ◌≢◌, ℕ, ◌+◌, ◌<◌, ◌≤◌, List, length, AllPairs, Result, Ok, Err}
use Rattle.mcap_model.specs.declared.replay.Shown.{Shown}
use Rattle.mcap_model.specs.Places.{Has}
use Rattle.time_player.specs.declared.kept.Kept.{Kept}
use Rattle.time_player.specs.DataOfMessages.{data_in}
use Rattle.time_player.specs.Keeping.{data_held, kept_in}
use Rattle.mcap_model.specs.declared.refusals.ReadingRefused.TheVariants as refusals
use Rattle.mcap_model.specs.declared.refusals.IndexedRefused.{IndexedRefused}
use Rattle.mcap_model.specs.declared.refusals.IndexedRefused.TheVariants as by_index

-- what is held is the data of the messages that are kept, and no more than so many bytes
pub record HoldsExactly (room : ℕ) (k : Kept) : Type 0 where
  pub exact : data_held k ≡ data_in (kept_in k)
  pub within : data_held k ≤ room

-- so it is behind a step; where that is refused, no more than so many bytes are held
abbrev pub HoldsWithin : {X E : Type 0} → ℕ → Kept → Result X E → Type 0
HoldsWithin room k (Ok it) = HoldsExactly room k
HoldsWithin room k (Err why) = data_held k ≤ room

-- Messages with the first property, each once, have together with these more bytes of data than the file; one of them has the
-- other property.
pub record Overfull (P Q : Shown → Type 0) (file : List ℕ) (old : List Shown) : Type 0 where
  pub more : List Shown
  pub are : (s : Shown) → Has more s → P s
  pub once : AllPairs (λ s r. s ≢ r) more
  pub last : Shown
  pub there : Has more last
  pub is : Q last
  pub past : length file < data_in old + data_in more

-- that is why the limit is told there
abbrev pub OverfullAt : (Shown → Type 0) → (Shown → Type 0) → ℕ → List ℕ → List Shown → IndexedRefused → Type 0
OverfullAt P Q at file old why = (why ≡ by_index.Refused (refusals.Limit at)) × Overfull P Q file old
