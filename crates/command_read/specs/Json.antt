-- What is told of a file, as a JSON value (RFC 8259). The members of an object stand in the order of their names.
use Rattle.std.specs.Prelude.{ℕ, List, [], ◌∷◌, Option, Some, None, map, codes, decimal}
use Rattle.json.specs.Json.{Json, null, number, string, array, object, Items, no_items, item, Members, no_members, member}
use Rattle.mcap_model.specs.Fields.{SchemaFields, ChannelFields, StatisticsFields}
use Rattle.rec_data.specs.Fields.{HeaderFields}
use Rattle.command_read.specs.Counts.{told_count}

-- What is told of a file: its Header and its Statistics, its Channels and its Schemas by their ids, and the names of the
-- compressions of its chunks.
pub record Info : Type 0 where
  pub header : HeaderFields
  pub statistics : StatisticsFields
  pub channels : List (ℕ × ChannelFields)
  pub schemas : List (ℕ × SchemaFields)
  pub compressions : List (List ℕ)

abbrev pub number_value : ℕ → Json
number_value n = number (decimal n)

-- a number that may not be known
abbrev pub count_value : Option ℕ → Json
count_value None = null
count_value (Some n) = number_value n

-- the items of an array
abbrev pub items_of : List Json → Items
items_of [] = no_items
items_of (j ∷ js) = item j (items_of js)

-- the members of an object
abbrev pub members_of : List (List ℕ × Json) → Members
members_of [] = no_members
members_of (m ∷ ms) = member m.0 m.1 (members_of ms)

abbrev pub channel_value : List (ℕ × ℕ) → ℕ × ChannelFields → Json
channel_value counts c = object (members_of ((codes "count", count_value (told_count counts c.0))
    ∷ (codes "encoding", string c.1.encoding)
    ∷ (codes "id", number_value c.0)
    ∷ (codes "schema", number_value c.1.schema)
    ∷ (codes "topic", string c.1.topic)
    ∷ []))

abbrev pub schema_value : ℕ × SchemaFields → Json
schema_value s = object (members_of ((codes "encoding", string s.1.encoding)
    ∷ (codes "id", number_value s.0)
    ∷ (codes "name", string s.1.name)
    ∷ []))

abbrev pub channels_value : List (ℕ × ℕ) → List (ℕ × ChannelFields) → Json
channels_value counts channels = array (items_of (map (channel_value counts) channels))

abbrev pub schemas_value : List (ℕ × SchemaFields) → Json
schemas_value schemas = array (items_of (map schema_value schemas))

abbrev pub names_value : List (List ℕ) → Json
names_value names = array (items_of (map string names))

-- the whole
abbrev pub info_value : Info → Json
info_value i = object (members_of ((codes "attachments", number_value i.statistics.attachments)
    ∷ (codes "channels", channels_value i.statistics.counts i.channels)
    ∷ (codes "chunks", number_value i.statistics.chunks)
    ∷ (codes "compression", names_value i.compressions)
    ∷ (codes "end", number_value i.statistics.end)
    ∷ (codes "library", string i.header.library)
    ∷ (codes "messages", number_value i.statistics.messages)
    ∷ (codes "metadata", number_value i.statistics.metadata)
    ∷ (codes "profile", string i.header.profile)
    ∷ (codes "schemas", schemas_value i.schemas)
    ∷ (codes "start", number_value i.statistics.start)
    ∷ []))
