-- The Channels that a summary repeats.
use Rattle.std.specs.Prelude.{ℕ, List}
use Rattle.mcap_model.specs.Places.{At}
use Rattle.mcap_model.specs.Tops.{Top, flat}
use Rattle.mcap_model.specs.Fields.{MessageFields, IsMessage}
use Rattle.mcap_model.specs.Valid.{SummaryHasChannel}

-- the summary has a Channel for each message of the file
abbrev pub AreRepeated : List Top → Type 0
AreRepeated all = (n channel : ℕ) (t : Top) (m : MessageFields) → At (flat all) n t → IsMessage t channel m
    → SummaryHasChannel all channel
