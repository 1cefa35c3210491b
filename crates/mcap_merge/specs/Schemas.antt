-- The schemas that messages use, in a table where each stands as that of a channel that has nothing else.
use Rattle.std.specs.Prelude.{◌≡◌, ◌⊎◌, ◌≤◌, ℕ, List, [], ◌∷◌, ◌++◌, length, map, Option, Some, None}
use Rattle.rec_data.specs.declared.schema.SchemaDef.{SchemaDef}
use Rattle.rec_data.specs.declared.channel.ChannelDef.{ChannelDef}
use Rattle.mcap_wire.specs.Limits.{id_limit}
use Rattle.mcap_model.specs.Places.{Has}
use Rattle.mcap_model.specs.Tops.{Top}
use Rattle.mcap_model.specs.Merged.{IsContent, SchemaIsUsed, MoreThan}
use Rattle.id_table.specs.Ids as tables
use Rattle.id_table.specs.Given.{EachOnce, IsFull}
use Rattle.id_table.specs.declared.given.IdRefused.{IdRefused}
use Rattle.id_table.specs.declared.given.IdRefused.TheVariants.{TooManySchemas, TooManyChannels, Memory}

-- a channel with this schema, and nothing else
abbrev pub bare : SchemaDef → ChannelDef
bare s = record { topic = []; message_encoding = []; metadata = []; schema = Some s }

abbrev pub AreBare : tables.IdContents → Type 0
AreBare t = t.channels ≡ map bare t.schemas

-- the schema was there, or was added
abbrev pub Enters : List SchemaDef → SchemaDef → List SchemaDef → Type 0
Enters old s new = (Has old s × (new ≡ old)) ⊎ (new ≡ old ++ s ∷ [])

abbrev pub EntersOf : List SchemaDef → Option SchemaDef → List SchemaDef → Type 0
EntersOf old None new = new ≡ old
EntersOf old (Some s) new = Enters old s new

-- why it wasn't: as many others are there as there are ids, or memory lacked
abbrev pub LacksPlace : List SchemaDef → SchemaDef → IdRefused → Type 0
LacksPlace old s TooManySchemas = IsFull old s × EachOnce old × (length old ≤ id_limit)
LacksPlace old s TooManyChannels = ⊥
LacksPlace old s Memory = Unit {0}

-- the same of the schema of a channel
abbrev pub LacksPlaceOf : List Top → ℕ → List SchemaDef → IdRefused → Type 0
LacksPlaceOf records source old TooManySchemas = (d : ChannelDef) × (s : SchemaDef) × IsContent records source d
    × (d.schema ≡ Some s) × LacksPlace old s TooManySchemas
LacksPlaceOf records source old TooManyChannels = ⊥
LacksPlaceOf records source old Memory = Unit {0}

-- more schemas are used than there are ids, or memory lacked
abbrev pub LacksSchemas : List (List Top) → IdRefused → Type 0
LacksSchemas inputs TooManySchemas = MoreThan id_limit (SchemaIsUsed inputs)
LacksSchemas inputs TooManyChannels = ⊥
LacksSchemas inputs Memory = Unit {0}
