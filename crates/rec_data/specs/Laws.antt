-- What is framed is read back, and a content shows one record.
use Rattle.std.specs.Prelude.{◌≡◌, ◌↔◌, ℕ, ◌^◌, ◌<◌, ◌≤◌, List, ◌++◌, length, drop, All}
use Rattle.mcap_wire.specs.declared.faults.Why.{Why}
use Rattle.mcap_wire.specs.Layout.{le}
use Rattle.rec_data.specs.declared.owned.Rec.{Rec}
use Rattle.rec_data.specs.Fields.{FooterFields, MessageFields}
use Rattle.rec_data.specs.Records.{message_text, ShowsMessage, footer_text, ShowsFooter}
use Rattle.rec_data.specs.RecordReading.{FooterFails}
use Rattle.rec_data.specs.Owned.{RecFits, rec_bytes}
use Rattle.rec_data.specs.OwnedReading.{IsFramed}

pub record FootersReadBack : Type 0 where
  pub shown : (f : FooterFields) → f.summary_start < 2 ^ 64 → f.summary_offset_start < 2 ^ 64 → f.summary_crc < 2 ^ 32
      → ShowsFooter (footer_text f) f
  pub decided : (content : List ℕ) (f g : FooterFields) → ShowsFooter content f → ShowsFooter content g → f ≡ g
  pub refused : (content : List ℕ) (field : ℕ) (why : Why) (f : FooterFields) → FooterFails content field why
      → ShowsFooter content f → ⊥

pub record MessagesReadBack : Type 0 where
  pub shown : (channel_id : ℕ) (m : MessageFields)
      → channel_id < 2 ^ 16 → m.sequence < 2 ^ 32 → m.log_time < 2 ^ 64 → m.publish_time < 2 ^ 64
      → ShowsMessage (message_text channel_id m) channel_id m
  pub decided : (content : List ℕ) (id other : ℕ) (m n : MessageFields) → ShowsMessage content id m
      → ShowsMessage content other n → (id ≡ other) × (m ≡ n)

-- a content shows some Message
abbrev pub IsMessageContent : List ℕ → Type 0
IsMessageContent content = (channel_id : ℕ) × (m : MessageFields) × ShowsMessage content channel_id m

-- bytes are a Message exactly where there are enough for its fields
abbrev pub MessagesAreLongEnough : Type 0
MessagesAreLongEnough =
    (content : List ℕ) → All (λ b. b < 256) content → IsMessageContent content ↔ (22 ≤ length content)

-- a Message with its first two bytes replaced is the same Message on another channel
abbrev pub MessagesChangeChannel : Type 0
MessagesChangeChannel = (content : List ℕ) (channel_id : ℕ) (m : MessageFields) (id : ℕ) → id < 2 ^ 16
    → ShowsMessage content channel_id m → ShowsMessage (le 2 id ++ drop 2 content) id m

-- the bytes of a record are that record, and no bytes are two
pub record RecsReadBack : Type 0 where
  pub shown : (r : Rec) → RecFits r → IsFramed (rec_bytes r) r
  pub decided : (bytes : List ℕ) (r other : Rec) → IsFramed bytes r → IsFramed bytes other → r ≡ other
