-- The Messages of a chunk, by channel.
use Rattle.std.specs.Prelude.{◌≡◌, ◌≢◌, ◌⊎◌, ℕ, ◌<◌, ◌≤◌, List, AllPairs}
use Rattle.mcap_model.specs.Places.{Has, Each}
use Rattle.mcap_model.specs.Tops.{Top}
use Rattle.mcap_model.specs.Whole.{IsEntryOf}
use Rattle.mcap_scan.specs.declared.message_heads.MessageHead.{MessageHead}

-- its entry in a Message Index: a log time and an offset
abbrev pub entry_of : MessageHead → ℕ × ℕ
entry_of heard = (heard.time, heard.offset)

-- the Message on that channel that has this entry
abbrev pub message_at_entry : ℕ → ℕ × ℕ → MessageHead
message_at_entry channel entry = record { channel = channel; time = entry.0; offset = entry.1 }

-- a Message doesn't come behind another: by its channel, then by its offset
abbrev pub ByChannelNotBehind : MessageHead → MessageHead → Type 0
ByChannelNotBehind a b = (a.channel < b.channel) ⊎ ((a.channel ≡ b.channel) × (a.offset ≤ b.offset))

abbrev pub MessagesRise : List MessageHead → Type 0
MessagesRise messages = AllPairs ByChannelNotBehind messages

-- these are the Messages among the records, each once
pub record HoldsMessages (records : List Top) (messages : List MessageHead) : Type 0 where
  pub are : (heard : MessageHead) → Has messages heard → IsEntryOf records heard.channel (entry_of heard)
  pub all : (channel : ℕ) (entry : ℕ × ℕ) → IsEntryOf records channel entry
      → Has messages (message_at_entry channel entry)
  pub once : AllPairs (λ a b. a.offset ≢ b.offset) messages

-- the channel of each is one of these
abbrev pub AreOn : List MessageHead → List ℕ → Type 0
AreOn messages channels = Each (λ heard. Has channels heard.channel) messages
