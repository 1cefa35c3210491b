-- The channel for which a key stands.
use Rattle.std.specs.Prelude.{◌≡◌, ℕ, List, Option, Some, None, get_or, slice_get, []}
use Rattle.rec_data.specs.declared.schema.SchemaDef.{SchemaDef}
use Rattle.rec_data.specs.declared.channel.ChannelDef.{ChannelDef}
use Rattle.id_table.specs.declared.keys.ChannelKey.{ChannelKey}
use Rattle.id_table.specs.Parts.{Grows, StandAt}

-- what keys point to: schemas, texts and maps
pub record Stock : Type 0 where
  pub schemas : List SchemaDef
  pub texts : List (List ℕ)
  pub maps : List (List (List ℕ × List ℕ))

abbrev pub stocked : List SchemaDef → List (List ℕ) → List (List (List ℕ × List ℕ)) → Stock
stocked schemas texts maps = record { schemas = schemas; texts = texts; maps = maps }

-- the schema stands at the place, or there is neither
abbrev pub SchemaStandsAt : List SchemaDef → Option ℕ → Option SchemaDef → Type 0
SchemaStandsAt schemas None None = Unit {0}
SchemaStandsAt schemas None (Some s) = ⊥
SchemaStandsAt schemas (Some n) None = ⊥
SchemaStandsAt schemas (Some n) (Some s) = slice_get schemas n ≡ Some s

-- a key stands for a channel
pub record ShowsKey (stock : Stock) (k : ChannelKey) (d : ChannelDef) : Type 0 where
  pub schema : SchemaStandsAt stock.schemas k.schema d.schema
  pub parts : StandAt stock.texts stock.maps d k.parts

-- the place of a schema, or that it stands nowhere
abbrev pub FoundSchema : List SchemaDef → Option SchemaDef → Option (Option ℕ) → Type 0
FoundSchema schemas schema (Some place) = SchemaStandsAt schemas place schema
FoundSchema schemas schema None = (place : Option ℕ) → SchemaStandsAt schemas place schema → ⊥

-- the key of a channel, or that none stands for it
abbrev pub FoundKey : Stock → ChannelDef → Option ChannelKey → Type 0
FoundKey stock d (Some k) = ShowsKey stock k d
FoundKey stock d None = (k : ChannelKey) → ShowsKey stock k d → ⊥

-- ---- as a function

abbrev pub schema_at : List SchemaDef → Option ℕ → Option SchemaDef
schema_at schemas None = None
schema_at schemas (Some n) = slice_get schemas n

-- what stands where a key says
abbrev pub content_at : Stock → ChannelKey → ChannelDef
content_at stock k = record {
  topic = get_or stock.texts k.parts.topic [];
  message_encoding = get_or stock.texts k.parts.message_encoding [];
  metadata = get_or stock.maps k.parts.metadata [];
  schema = schema_at stock.schemas k.schema;
}

-- all of it is there
abbrev pub KeyStands : Stock → ChannelKey → Type 0
KeyStands stock k = ShowsKey stock k (content_at stock k)

abbrev pub AllStand : Stock → List ChannelKey → Type 0
AllStand stock keys = (n : ℕ) (k : ChannelKey) → slice_get keys n ≡ Some k → KeyStands stock k

-- more may stand behind it
pub record Stocks (old new : Stock) : Type 0 where
  pub schemas : Grows old.schemas new.schemas
  pub texts : Grows old.texts new.texts
  pub maps : Grows old.maps new.maps
