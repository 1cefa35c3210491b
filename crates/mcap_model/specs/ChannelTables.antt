-- What stands in a table of Channels.
use Rattle.std.specs.Prelude.{ℕ, List}
use Rattle.rec_data.specs.Records.{channel_opcode}
use Rattle.mcap_model.specs.Places.{At}
use Rattle.mcap_model.specs.Fields.{ChannelFields, IsChannel}
use Rattle.mcap_model.specs.Made.{top}
use Rattle.mcap_model.specs.declared.table.Declared.{Declared}

-- each is a Channel of its id
abbrev pub AreChannels : List Declared → Type 0
AreChannels first = (k : ℕ) (d : Declared) → At first k d
    → (f : ChannelFields) × IsChannel (top channel_opcode d.content) d.id f
