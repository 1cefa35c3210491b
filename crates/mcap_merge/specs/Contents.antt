-- The contents of channels that have messages.
use Rattle.std.specs.Prelude.{ℕ, ◌*◌, ◌+◌, ◌<◌, ◌≤◌, List, length, Option, Some, None}
use Rattle.rec_data.specs.declared.schema.SchemaDef.{SchemaDef}
use Rattle.rec_data.specs.declared.channel.ChannelDef.{ChannelDef}
use Rattle.rec_data.specs.Owned.{RecFits}
use Rattle.mcap_wire.specs.Limits.{id_limit}
use Rattle.mcap_model.specs.Places.{At}
use Rattle.mcap_model.specs.Tops.{Top, flat}
use Rattle.mcap_model.specs.History.{schema_of, channel_of}
use Rattle.mcap_model.specs.Merged.{Sent, IsFrom, IsContent, IsUsed, SchemaIsUsed, AtMost}
use Rattle.id_table.specs.Ids as tables
use Rattle.id_table.specs.Given.{EachOnce, IsFull, IsFullTo, Declares}
use Rattle.id_table.specs.declared.given.GivenIds.{GivenIds}
use Rattle.id_table.specs.declared.given.IdRefused.{IdRefused}
use Rattle.id_table.specs.declared.given.IdRefused.TheVariants.{TooManySchemas, TooManyChannels, Memory}
use Rattle.history_ids.specs.DeclarationFields.{fields_of_schema, fields_with}

-- ---- their records

-- the Schema with that id has fields that fit
abbrev pub SchemaFitsUnder : Option SchemaDef → ℕ → Type 0
SchemaFitsUnder None id = Unit {0}
SchemaFitsUnder (Some s) id = RecFits (schema_of id (fields_of_schema s))

-- so have the Channel and its Schema, whatever their ids are
abbrev pub FitsUnderIds : ChannelDef → Type 0
FitsUnderIds d = (id schema : ℕ) → id < 65536 → schema < 65536
    → RecFits (channel_of id (fields_with d schema)) × SchemaFitsUnder d.schema schema

-- ---- one by one

-- the content has an id or gets one
abbrev pub TakesId : tables.IdContents → ChannelDef → tables.IdContents → Type 0
TakesId old d new = (given : GivenIds) × Declares old d given new

-- so has the content of the channel of that id
abbrev pub TakesOf : List Top → ℕ → tables.IdContents → tables.IdContents → Type 0
TakesOf records source old new = (d : ChannelDef) × IsContent records source d × FitsUnderIds d × TakesId old d new

-- why it hasn't: as many others are there as there are ids, or memory lacked
abbrev pub LacksIdsOf : List Top → ℕ → tables.IdContents → IdRefused → Type 0
LacksIdsOf records source old TooManySchemas =
    (d : ChannelDef) × IsContent records source d × IsFullTo old.schemas d.schema
LacksIdsOf records source old TooManyChannels = (d : ChannelDef) × IsContent records source d × IsFull old.channels d
LacksIdsOf records source old Memory = Unit {0}

-- no content stands twice, and there are no more than there are ids
pub record IsIdTable (t : tables.IdContents) : Type 0 where
  pub schemas : EachOnce t.schemas
  pub channels : EachOnce t.channels
  pub few_schemas : length t.schemas ≤ id_limit
  pub few_channels : length t.channels ≤ id_limit

-- ---- all

-- the content of a message's channel in its input
pub record HasContent (inputs : List (List Top)) (m : Sent) (d : ChannelDef) : Type 0 where
  pub tops : List Top
  pub at : At inputs m.input tops
  pub is : IsContent (flat tops) m.seen.channel d
  pub fits : FitsUnderIds d

-- the place of a message's channel among all ids of all inputs
abbrev pub id_place : Sent → ℕ
id_place m = m.input * 65536 + m.seen.channel

-- there are ids for what the messages use, in whatever order it gets them
pub record IdsSuffice (inputs : List (List Top)) : Type 0 where
  pub contents : (m : Sent) → IsFrom inputs m → (d : ChannelDef) × HasContent inputs m d
  pub schemas : AtMost id_limit (SchemaIsUsed inputs)
  pub channels : AtMost id_limit (IsUsed inputs)
