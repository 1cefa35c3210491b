-- A history that grows message by message: in front of a message stands what its channel's declaration adds.
use Rattle.std.specs.Prelude.{◌≡◌, List, [], ◌∷◌, ◌++◌, fold}
use Rattle.std.specs.List.{AllZip}
use Rattle.rec_data.specs.declared.owned.Rec.{Rec}
use Rattle.rec_data.specs.declared.channel.ChannelDef.{ChannelDef}
use Rattle.mcap_model.specs.Places.{At}
use Rattle.mcap_model.specs.Tops.{Top, flat}
use Rattle.mcap_model.specs.Fields.{MessageFields}
use Rattle.mcap_model.specs.History.{message_of}
use Rattle.history_ids.specs.Ids.{ids_of, channel_id, new_records}
use Rattle.mcap_model.specs.Merged.{Sent, IsContent}

-- a message, and the content of its channel
pub record Use : Type 0 where
  pub content : ChannelDef
  pub message : MessageFields

-- what a message adds to a history: its channel's records that are new, and the message on the channel
abbrev pub added_by : List Rec → Use → List Rec
added_by history u =
    new_records (ids_of history) u.content ++ message_of (channel_id (ids_of history) u.content) u.message ∷ []

abbrev pub with_use : List Rec → Use → List Rec
with_use history u = history ++ added_by history u

-- the history of messages, in their order
abbrev pub history_of : List Use → List Rec
history_of uses = fold with_use [] uses

-- a message of an input, and the content of its channel there
pub record IsUse (inputs : List (List Top)) (m : Sent) (u : Use) : Type 0 where
  pub tops : List Top
  pub at : At inputs m.input tops
  pub content : IsContent (flat tops) m.seen.channel u.content
  pub message : u.message ≡ m.seen.message

abbrev pub AreUses : List (List Top) → List Sent → List Use → Type 0
AreUses inputs messages uses = AllZip (IsUse inputs) messages uses
