-- How long the records of a feed's channel are, where it is declared.
use Rattle.std.specs.Prelude.{◌≡◌, ℕ, List, Option}
use Rattle.rec_data.specs.declared.schema.SchemaDef.{SchemaDef}
use Rattle.rec_data.specs.declared.channel.Channel.{Channel}
use Rattle.rec_data.specs.declared.channel.ChannelDef.{ChannelDef}
use Rattle.mcap_model.specs.Fields.{ChannelFields}
use Rattle.mcap_model.specs.Tops.{Top}
use Rattle.history_ids.specs.DeclarationFields.{schema_size, declared_size}
use Rattle.history_ids.specs.FeedContents.{SchemaShown, DeclaresContent}

-- the fields of a Channel that was read, but for its ids
abbrev pub shown_by : Channel → ChannelFields
shown_by c = record { schema = 0; topic = c.topic.now; encoding = c.message_encoding.now; metadata = c.metadata }

-- the Schema of that id has so many bytes, and none for 0
pub record IsSchemaLength (records : List Top) (id len : ℕ) : Type 0 where
  pub schema : Option SchemaDef
  pub shown : SchemaShown records id schema
  pub size : len ≡ schema_size schema

-- the records of that channel, its Schema among them, have so many bytes
pub record IsLength (records : List Top) (channel len : ℕ) : Type 0 where
  pub content : ChannelDef
  pub describes : DeclaresContent records channel content
  pub size : len ≡ declared_size content
