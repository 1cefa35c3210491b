-- The bytes of a feed that is generated.
use Rattle.std.specs.Prelude.{ℕ, List, [], ◌∷◌, ◌++◌, map, codes, decimal}
use Rattle.mcap_wire.specs.Layout.{magic}
use Rattle.rec_data.specs.Fields.{ChannelFields, MessageFields}
use Rattle.rec_data.specs.Records.{header_opcode, header_text, channel_opcode, channel_text, message_opcode, message_text, data_end_opcode, data_end_text}
use Rattle.mcap_model.specs.Made.{top}
use Rattle.mcap_model.specs.Tops.{Top, spelled}
use Rattle.command_generate.specs.Generator.{generated}

-- ---- the records

-- a Header without profile and library
abbrev pub header_top : Top
header_top = top header_opcode (header_text (record { profile = []; library = [] }))

abbrev pub topic_of : ℕ → List ℕ
topic_of feed = codes "/gen/" ++ decimal feed

-- the one channel, which has no schema
abbrev pub feed_channel : ℕ → ChannelFields
feed_channel feed = record { schema = 0; topic = topic_of feed; encoding = []; metadata = [] }

abbrev pub channel_top : ℕ → Top
channel_top feed = top channel_opcode (channel_text 1 (feed_channel feed))

abbrev pub message_top : MessageFields → Top
message_top m = top message_opcode (message_text 1 m)

-- a Data End without a CRC
abbrev pub end_top : Top
end_top = top data_end_opcode (data_end_text 0)

-- the records of a feed of so many messages
abbrev pub feed_tops : ℕ → ℕ → ℕ → List Top
feed_tops seed feed n = header_top ∷ channel_top feed ∷ (map message_top (generated seed feed n) ++ end_top ∷ [])

abbrev pub feed_bytes : ℕ → ℕ → ℕ → List ℕ
feed_bytes seed feed n = magic ++ spelled (feed_tops seed feed n)
