-- The lengths of a declaration.
use Rattle.std.specs.Prelude.{◌^◌, ◌<◌, length, Option, Some, None}
use Rattle.mcap_wire.specs.Maps.{pair_texts}
use Rattle.rec_data.specs.declared.schema.SchemaDef.{SchemaDef}
use Rattle.rec_data.specs.declared.channel.ChannelDef.{ChannelDef}

-- the lengths of a declaration fit in front of what they count
abbrev pub SchemaFits : Option SchemaDef → Type 0
SchemaFits None = Unit {0}
SchemaFits (Some s) = (length s.name < 2 ^ 32) × (length s.encoding < 2 ^ 32) × (length s.payload < 2 ^ 32)

pub record DefFits (c : ChannelDef) : Type 0 where
  pub schema : SchemaFits c.schema
  pub topic : length c.topic < 2 ^ 32
  pub encoding : length c.message_encoding < 2 ^ 32
  pub metadata : length (pair_texts c.metadata) < 2 ^ 32
