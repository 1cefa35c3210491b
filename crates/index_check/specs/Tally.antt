-- What was counted of a data section.
use Rattle.std.specs.Prelude.{◌≡◌, ◌⊎◌, ◌≤◌, ℕ, List, [], length}
use Rattle.rec_data.specs.Records.{message_opcode, attachment_opcode, metadata_opcode}
use Rattle.rec_index.specs.Records.{chunk_opcode}
use Rattle.mcap_model.specs.Places.{At, Has, Each}
use Rattle.mcap_model.specs.Tops.{Top, flat}
use Rattle.mcap_model.specs.Fields.{StatisticsFields}
use Rattle.mcap_model.specs.Rules.{HasSchema, HasChannel}
use Rattle.mcap_model.specs.Times.{TimesOf}
use Rattle.mcap_model.specs.Whole.{IsDataSection, count_of, AreChannels, on_channel, AreIds}
use Rattle.index_check.specs.declared.tally.IdCounts.{IdCounts}
use Rattle.index_check.specs.declared.tally.Tally.{Tally}

-- ---- numbers by channel

abbrev pub HasChannelCount : List (ℕ × ℕ) → ℕ → Type 0
HasChannelCount counts channel = (k : ℕ) × (entry : ℕ × ℕ) × At counts k entry × (entry.0 ≡ channel)

-- the number of a channel, or 0 where it has none
abbrev pub IsCountOf : List (ℕ × ℕ) → ℕ → ℕ → Type 0
IsCountOf counts channel count = Has counts (channel, count) ⊎ ((count ≡ 0) × (HasChannelCount counts channel → ⊥))

abbrev pub AreCounts : List (ℕ × ℕ) → List (ℕ × ℕ) → Type 0
AreCounts map counts = Each (λ entry. IsCountOf counts entry.0 entry.1) map

abbrev pub AreKeys : List (ℕ × ℕ) → List (ℕ × ℕ) → Type 0
AreKeys map counts = Each (λ entry. HasChannelCount map entry.0) counts

abbrev pub CountsTallied : List (ℕ × ℕ) → List (ℕ × ℕ) → Type 0
CountsTallied map counts = (map ≡ []) ⊎ (AreCounts map counts × AreKeys map counts)

-- ---- the other numbers

abbrev pub HasTallied : Tally → StatisticsFields → Type 0
HasTallied t f = (f.messages ≡ t.messages) × (f.attachments ≡ t.attachments) × (f.metadata ≡ t.metadata)
    × (f.chunks ≡ t.chunks) × (t.schemas.in_section ≤ f.schemas) × (f.schemas ≤ t.schemas.in_file)
    × (t.channels.in_section ≤ f.channels) × (f.channels ≤ t.channels.in_file)

-- ---- what was counted

-- so many ids have the property in the section, and so many in the file
pub record IdsAre (P : List Top → ℕ → Type 0) (section tops : List Top) (counts : IdCounts) : Type 0 where
  pub low : List ℕ
  pub high : List ℕ
  pub are_low : AreIds (P (flat section)) low
  pub are_high : AreIds (P (flat tops)) high
  pub in_section : counts.in_section ≡ length low
  pub in_file : counts.in_file ≡ length high

-- each channel of these has its number, and no other channel has one
pub record ChannelsCounted (channels : List ℕ) (counts : List (ℕ × ℕ)) : Type 0 where
  pub right : (channel count : ℕ) → Has counts (channel, count)
      → Has channels channel × (count ≡ on_channel channels channel)
  pub all : (channel : ℕ) → Has channels channel → HasChannelCount counts channel

-- this was counted of the data section
pub record TallyOf (tops section : List Top) (t : Tally) : Type 0 where
  pub is : IsDataSection tops section
  pub messages : t.messages ≡ count_of message_opcode (flat section)
  pub attachments : t.attachments ≡ count_of attachment_opcode section
  pub metadata : t.metadata ≡ count_of metadata_opcode section
  pub chunks : t.chunks ≡ count_of chunk_opcode section
  pub times : TimesOf (flat section) (record { any = t.any; least = t.least; greatest = t.greatest })
  pub channels_of : List ℕ
  pub are_channels : AreChannels (flat section) channels_of
  pub counts : ChannelsCounted channels_of t.counts.items
  pub schemas : IdsAre HasSchema section tops t.schemas
  pub channels : IdsAre HasChannel section tops t.channels
