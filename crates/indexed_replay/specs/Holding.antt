-- How much data a replay holds: no more than so many bytes; and where it would be more, that the messages to which the indexes
-- lead have more.
use Rattle.std.specs.Prelude.{◌≡◌, ℕ, ◌≤◌, List, length, Option, Some, Result, Ok, Err}
use Rattle.mcap_model.specs.declared.replay.Replayed.{Replayed}
use Rattle.time_player.specs.DataOfMessages.{data_in}
use Rattle.mcap_model.specs.declared.refusals.IndexedRefused.{IndexedRefused}

-- ---- what is played

abbrev pub PlayedWithin : List ℕ → Result Replayed IndexedRefused → Type 0
PlayedWithin file (Ok played) = data_in played.shown.items ≤ length file
PlayedWithin file (Err why) = Unit {0}

-- the messages that are played have no more bytes of data than the file
abbrev pub TellsRoom : Option (List ℕ) → Result Replayed IndexedRefused → Type 0
TellsRoom told result = (file : List ℕ) → told ≡ Some file → PlayedWithin file result
