-- The table of ids beside the ids of a history, and what it gives.
use Rattle.std.specs.Prelude.{◌≡◌, ℕ, ◌+◌, ◌-◌, ◌≤◌, List, [], ◌∷◌, length, map, Bool, ◌&&◌, nat_lt, nat_le, if◌then◌else◌, Option, Some, None, Result, Ok, Err}
use Rattle.mcap_wire.specs.Limits.{id_limit}
use Rattle.rec_data.specs.declared.schema.SchemaDef.{SchemaDef}
use Rattle.rec_data.specs.declared.channel.ChannelDef.{ChannelDef}
use Rattle.rec_data.specs.declared.owned.Rec.{Rec}
use Rattle.mcap_model.specs.History.{schema_of}
use Rattle.mcap_model.specs.Fields.{SchemaFields, ChannelFields}
use Rattle.mcap_model.specs.Places.{At, Has, Each}
use Rattle.history_ids.specs.Ids.{Ids, with_ids, fields_of_channel, schema_place, channel_place, new_schema, new_records}
use Rattle.history_ids.specs.DeclarationFields.{fields_of_schema}
use Rattle.id_table.specs.Ids as tables
use Rattle.id_table.specs.declared.given.Given.{Given}
use Rattle.id_table.specs.declared.given.Given.TheVariants.{Known, New}
use Rattle.id_table.specs.declared.given.GivenIds.{GivenIds}
use Rattle.id_table.specs.declared.given.IdRefused.{IdRefused}
use Rattle.id_table.specs.declared.given.IdRefused.TheVariants.{TooManySchemas, TooManyChannels, Memory}

-- ---- contents in the table

-- what a channel of the table is in a history whose Schemas are these
abbrev pub content_in : List SchemaFields → ChannelDef → ChannelFields
content_in schemas c = fields_of_channel (record { schemas = schemas; channels = [] }) c

-- the ids that a table gives, as those of a history
abbrev pub ids_in : tables.IdContents → Ids
ids_in t = record
    { schemas = map fields_of_schema t.schemas; channels = map (content_in (map fields_of_schema t.schemas)) t.channels }

-- the schema has an id, if there is one
abbrev pub SchemaHasId : List SchemaDef → Option SchemaDef → Type 0
SchemaHasId schemas None = Unit {0}
SchemaHasId schemas (Some s) = Has schemas s

-- the schema of each channel in the table has an id
abbrev pub HasSchemas : tables.IdContents → Type 0
HasSchemas t = Each (λ c. SchemaHasId t.schemas c.schema) t.channels

-- ---- what it gives

-- the id of the content that stands at a place, or none where it stands nowhere
abbrev pub IsIdAt : Option ℕ → Option ℕ → Type 0
IsIdAt (Some place) (Some id) = id ≡ place + 1
IsIdAt (Some place) None = ⊥
IsIdAt None (Some id) = ⊥
IsIdAt None None = Unit {0}

-- what is given to the content: its id where it has one, or the next
abbrev pub GivesAt : Option ℕ → ℕ → Given → Type 0
GivesAt (Some place) given (Known id) = id ≡ place + 1
GivesAt (Some place) given (New id) = ⊥
GivesAt None given (Known id) = ⊥
GivesAt None given (New id) = id ≡ given + 1

abbrev pub GivesSchema : Ids → Option SchemaDef → Option Given → Type 0
GivesSchema ids None None = Unit {0}
GivesSchema ids None (Some given) = ⊥
GivesSchema ids (Some s) None = ⊥
GivesSchema ids (Some s) (Some given) = GivesAt (schema_place ids s) (length ids.schemas) given

pub record GivesIds (ids : Ids) (c : ChannelDef) (given : GivenIds) : Type 0 where
  pub schema : GivesSchema ids c.schema given.schema
  pub channel : GivesAt (channel_place ids c) (length ids.channels) given.channel

-- a new schema is needed, and all ids are given
abbrev pub schemas_lack : Ids → Option SchemaDef → Bool
schemas_lack ids schema = nat_lt 0 (length (new_schema ids schema)) && nat_le id_limit (length ids.schemas)

-- What is told where no ids are given to a new channel, since a new one is needed and 65,535 are given: of schemas the first, of
-- channels the second.
abbrev pub told_lack : {E : Type 0} → E → E → Ids → ChannelDef → Option E
told_lack schemas channels ids c =
    if schemas_lack ids c.schema then Some schemas
    else (if nat_le id_limit (length ids.channels) then Some channels else None)

abbrev pub ids_lack : Ids → ChannelDef → Option IdRefused
ids_lack ids c = told_lack TooManySchemas TooManyChannels ids c

-- ids are given to a channel that is new, or nothing changes
abbrev pub IdsDeclared : Ids → ChannelDef → Result GivenIds IdRefused → Ids → Type 0
IdsDeclared ids c (Ok given) after =
    (ids_lack ids c ≡ None) × GivesIds ids c given × (after ≡ with_ids ids (new_records ids c))
IdsDeclared ids c (Err Memory) after = (ids_lack ids c ≡ None) × (after ≡ ids)
IdsDeclared ids c (Err TooManySchemas) after = (ids_lack ids c ≡ Some TooManySchemas) × (after ≡ ids)
IdsDeclared ids c (Err TooManyChannels) after = (ids_lack ids c ≡ Some TooManyChannels) × (after ≡ ids)

-- how many ids there are at most
pub record HasFewIds (ids : Ids) : Type 0 where
  pub few_schemas : length ids.schemas ≤ id_limit
  pub few_channels : length ids.channels ≤ id_limit

-- ---- a schema that another channel has

-- the schema stands under that id, which is 0 where there is none
abbrev pub IsSchemaAt : Ids → ℕ → Option SchemaDef → Type 0
IsSchemaAt ids id None = id ≡ 0
IsSchemaAt ids id (Some s) = (1 ≤ id) × At ids.schemas (id - 1) (fields_of_schema s)

-- the channel of that id has this schema, or none where this is none
pub record HasSchemaOf (ids : Ids) (schema : Option SchemaDef) (like : ℕ) : Type 0 where
  pub some : 1 ≤ like
  pub content : ChannelFields
  pub there : At ids.channels (like - 1) content
  pub schema_is : IsSchemaAt ids content.schema schema

-- so it is of the channel that is named, if one is
abbrev pub MayShare : Ids → Option SchemaDef → Option ℕ → Type 0
MayShare ids schema None = Unit {0}
MayShare ids schema (Some like) = HasSchemaOf ids schema like

-- ---- parts of a declaration

abbrev pub id_given : Given → ℕ
id_given (Known id) = id
id_given (New id) = id

-- the id of a schema that was given, or 0
abbrev pub id_of : Option Given → ℕ
id_of None = 0
id_of (Some (Known id)) = id
id_of (Some (New id)) = id

abbrev pub schema_with : Option SchemaDef → Option Given → List Rec
schema_with None given = []
schema_with (Some s) None = []
schema_with (Some s) (Some (Known id)) = []
schema_with (Some s) (Some (New id)) = schema_of id (fields_of_schema s) ∷ []
