-- Ids by content: which ids were given, and what a declaration adds.
use Rattle.std.specs.Prelude.{ℕ, ◌+◌, List, [], ◌∷◌, ◌++◌, length, Bool, ◌&&◌, nat_lt, nat_le, ◌==◌, position, bytes_eq, Option, Some, None}
use Rattle.std.specs.Cmp.Lexicographic.{pointwise}
use Rattle.std.specs.List.{flat_map}
use Rattle.rec_data.specs.declared.owned.Rec.{Rec}
use Rattle.rec_data.specs.declared.owned.Rec.TheVariants.{Schema, Channel, Message, Extra}
use Rattle.rec_data.specs.declared.schema.SchemaDef.{SchemaDef}
use Rattle.rec_data.specs.declared.channel.ChannelDef.{ChannelDef}
use Rattle.mcap_model.specs.Fields.{SchemaFields, ChannelFields}
use Rattle.mcap_model.specs.History.{schema_of, channel_of}
use Rattle.history_ids.specs.DeclarationFields.{fields_of_schema, fields_with}

-- ---- contents of a history

abbrev pub schema_in : Rec → List SchemaFields
schema_in (Schema id s) = (record { name = s.name; encoding = s.encoding; payload = s.payload }) ∷ []
schema_in (Channel id schema topic encoding metadata) = []
schema_in (Message channel sequence log_time publish_time payload) = []
schema_in (Extra op content) = []

-- what the Schemas of a history are but for their ids
abbrev pub schemas_in : List Rec → List SchemaFields
schemas_in history = flat_map schema_in history

abbrev pub channel_in : Rec → List ChannelFields
channel_in (Schema id s) = []
channel_in (Channel id schema topic encoding metadata) =
    (record { schema = schema; topic = topic; encoding = encoding; metadata = metadata }) ∷ []
channel_in (Message channel sequence log_time publish_time payload) = []
channel_in (Extra op content) = []

-- what the Channels of a history are but for their ids
abbrev pub channels_in : List Rec → List ChannelFields
channels_in history = flat_map channel_in history

abbrev pub same_schema : SchemaFields → SchemaFields → Bool
same_schema f g = bytes_eq f.name g.name && (bytes_eq f.encoding g.encoding && bytes_eq f.payload g.payload)

abbrev pub same_pair : List ℕ × List ℕ → List ℕ × List ℕ → Bool
same_pair p q = bytes_eq p.0 q.0 && bytes_eq p.1 q.1

-- Both maps have their keys in order, so that they are the same where their lists are.
abbrev pub same_channel : ChannelFields → ChannelFields → Bool
same_channel f g = (f.schema == g.schema)
    && (bytes_eq f.topic g.topic && (bytes_eq f.encoding g.encoding && pointwise same_pair f.metadata g.metadata))

-- ---- ids

-- What has an id, in the order of the ids, which begin with 1.
pub record Ids : Type 0 where
  pub schemas : List SchemaFields
  pub channels : List ChannelFields

abbrev pub no_ids : Ids
no_ids = record { schemas = []; channels = [] }

abbrev pub ids_of : List Rec → Ids
ids_of history = record { schemas = schemas_in history; channels = channels_in history }

-- with the contents of these records more
abbrev pub with_ids : Ids → List Rec → Ids
with_ids ids records =
    record { schemas = ids.schemas ++ schemas_in records; channels = ids.channels ++ channels_in records }

-- the id was given to a channel
abbrev pub is_known_channel : Ids → ℕ → Bool
is_known_channel ids channel = nat_lt 0 channel && nat_le channel (length ids.channels)

-- ---- declaring

-- the place of the schema's content among those that have an id
abbrev pub schema_place : Ids → SchemaDef → Option ℕ
schema_place ids s = position (same_schema (fields_of_schema s)) ids.schemas

-- the id of the content at a place, or the next one
abbrev pub id_at : Option ℕ → ℕ → ℕ
id_at (Some place) given = place + 1
id_at None given = given + 1

-- the id of the schema that a channel has, or that it is to get; 0 where it has none
abbrev pub schema_id : Ids → Option SchemaDef → ℕ
schema_id ids None = 0
schema_id ids (Some s) = id_at (schema_place ids s) (length ids.schemas)

abbrev pub fields_of_channel : Ids → ChannelDef → ChannelFields
fields_of_channel ids c = fields_with c (schema_id ids c.schema)

abbrev pub channel_place : Ids → ChannelDef → Option ℕ
channel_place ids c = position (same_channel (fields_of_channel ids c)) ids.channels

abbrev pub channel_id : Ids → ChannelDef → ℕ
channel_id ids c = id_at (channel_place ids c) (length ids.channels)

-- the Schema where its content is new
abbrev pub new_schema_at : Option ℕ → ℕ → SchemaDef → List Rec
new_schema_at (Some place) given s = []
new_schema_at None given s = schema_of (given + 1) (fields_of_schema s) ∷ []

abbrev pub new_schema : Ids → Option SchemaDef → List Rec
new_schema ids None = []
new_schema ids (Some s) = new_schema_at (schema_place ids s) (length ids.schemas) s

abbrev pub new_at : Option ℕ → Ids → ChannelDef → List Rec
new_at (Some place) ids c = []
new_at None ids c = new_schema ids c.schema ++ channel_of (length ids.channels + 1) (fields_of_channel ids c) ∷ []

-- the records that a declaration adds: none where the channel's content is known, else the Schema where its content is
-- new, then the Channel
abbrev pub new_records : Ids → ChannelDef → List Rec
new_records ids c = new_at (channel_place ids c) ids c
