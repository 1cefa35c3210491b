-- The fields of a declaration's records, and how long these are.
use Rattle.std.specs.Prelude.{ℕ, ◌+◌, length, Option, Some, None}
use Rattle.rec_data.specs.declared.schema.SchemaDef.{SchemaDef}
use Rattle.rec_data.specs.declared.channel.ChannelDef.{ChannelDef}
use Rattle.rec_data.specs.Owned.{rec_bytes}
use Rattle.mcap_model.specs.History.{schema_of, channel_of}
use Rattle.mcap_model.specs.Fields.{SchemaFields, ChannelFields}

abbrev pub fields_of_schema : SchemaDef → SchemaFields
fields_of_schema s = record { name = s.name; encoding = s.encoding; payload = s.payload }

abbrev pub fields_with : ChannelDef → ℕ → ChannelFields
fields_with c schema = record { schema = schema; topic = c.topic; encoding = c.message_encoding; metadata = c.metadata }

-- how many bytes the records of a declaration have, new or not
abbrev pub schema_size : Option SchemaDef → ℕ
schema_size None = 0
schema_size (Some s) = length (rec_bytes (schema_of 0 (fields_of_schema s)))

abbrev pub declared_size : ChannelDef → ℕ
declared_size c = schema_size c.schema + length (rec_bytes (channel_of 0 (fields_with c 0)))
