-- What a channel of a feed is as it is declared.
use Rattle.std.specs.Prelude.{◌≡◌, ℕ, List, false, Option, Some, None, IsPermutation}
use Rattle.rec_data.specs.declared.schema.SchemaDef.{SchemaDef}
use Rattle.rec_data.specs.declared.channel.ChannelDef.{ChannelDef}
use Rattle.mcap_model.specs.Places.{At}
use Rattle.mcap_model.specs.Tops.{Top}
use Rattle.mcap_model.specs.Fields.{IsSchema, ChannelFields}
use Rattle.mcap_model.specs.Written.{SourceShows}
use Rattle.history_ids.specs.DeclarationFields.{fields_of_schema}
use Rattle.history_ids.specs.declared.describing.KeptSchema.{KeptSchema}

-- a schema of a declaration by its fields
abbrev pub definition_of : List ℕ → List ℕ → List ℕ → SchemaDef
definition_of name encoding payload = record { name = name; encoding = encoding; payload = payload }

-- the record of that place shows a Schema of that id with the fields of the declaration's schema
pub record ShowsDef (records : List Top) (id : ℕ) (s : SchemaDef) : Type 0 where
  pub place : ℕ
  pub top : Top
  pub at : At records place top
  pub is : IsSchema top id (fields_of_schema s)

-- a schema of the feed, as a declaration has it: none for 0, else with the fields of the Schema of that id
abbrev pub SchemaShown : List Top → ℕ → Option SchemaDef → Type 0
SchemaShown records id None = id ≡ 0
SchemaShown records id (Some s) = ShowsDef records id s

-- the declaration has the content of the feed's channel of that id
pub record DeclaresContent (records : List Top) (channel : ℕ) (d : ChannelDef) : Type 0 where
  pub shown : ChannelFields
  pub known : SourceShows records channel shown
  pub topic : d.topic ≡ shown.topic
  pub encoding : d.message_encoding ≡ shown.encoding
  pub metadata : IsPermutation shown.metadata d.metadata
  pub schema : SchemaShown records shown.schema d.schema

-- ---- a schema that is kept

abbrev pub no_schema : KeptSchema
no_schema = record { id = 0; schema = None; known = false }

-- the schema is that of its id in the feed
abbrev pub KeptStands : List Top → KeptSchema → Type 0
KeptStands records kept = SchemaShown records kept.id kept.schema
