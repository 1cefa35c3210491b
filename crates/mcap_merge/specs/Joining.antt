-- The ids that channels of inputs get, beside a history.
use Rattle.std.specs.Prelude.{◌≡◌, ℕ, ◌*◌, ◌+◌, ◌<◌, List, [], ◌∷◌, ◌++◌, length, Option, Some, None, Result, Ok, Err}
use Rattle.rec_data.specs.declared.owned.Rec.{Rec}
use Rattle.rec_data.specs.declared.channel.ChannelDef.{ChannelDef}
use Rattle.mcap_wire.specs.Limits.{id_limit}
use Rattle.mcap_model.specs.declared.tables.Tables.{Tables}
use Rattle.mcap_model.specs.Declarations.{TablesOf}
use Rattle.mcap_model.specs.Places.{At, Each}
use Rattle.mcap_model.specs.Tops.{Top, flat}
use Rattle.mcap_model.specs.History.{channel_of}
use Rattle.id_table.specs.Ids as tables
use Rattle.id_table.specs.declared.given.IdRefused.{IdRefused}
use Rattle.id_table.specs.declared.given.IdRefused.TheVariants.{TooManySchemas, TooManyChannels, Memory}
use Rattle.id_table.specs.Given.{HasId}
use Rattle.history_ids.specs.Ids.{ids_of, channel_id, new_records}
use Rattle.history_ids.specs.DeclarationFields.{fields_with}
use Rattle.history_ids.specs.Tables.{ids_in, id_given, id_of, schema_with}
use Rattle.history_ids.specs.DeclarationFits.{DefFits}
use Rattle.mcap_merge.specs.declared.joining.Joiner.{Joiner}
use Rattle.mcap_merge.specs.declared.joining.Declared.{Declared}
use Rattle.mcap_merge.specs.declared.joining.Choice.{Choice}
use Rattle.mcap_model.specs.Merged.{Sent, IsFrom, IsContent, IsUsed, SchemaIsUsed, AtMost, MoreThan}

-- a place for each id that a channel of so many inputs may have
abbrev pub IsSized : ℕ → Joiner → Type 0
IsSized inputs j = length j.given.items ≡ inputs * 65536

-- the channel of an input, which has that id there, has a content in the table, under the second id
abbrev pub HasMergedId : List Top → Joiner → ℕ → ℕ → Type 0
HasMergedId tops j source id = (d : ChannelDef) × IsContent (flat tops) source d × HasId j.table.channels d id

-- the table gives the ids of the history, and what is noted of the inputs' channels is so
pub record JoinerStands (inputs : List (List Top)) (history : List Rec) (j : Joiner) : Type 0 where
  pub ids_are : ids_in j.table ≡ ids_of history
  pub known : (number source id : ℕ) (tops : List Top) → source < 65536 → At inputs number tops
      → At j.given.items (number * 65536 + source) id → (id ≡ 0 → ⊥) → HasMergedId tops j source id

-- the records of what is declared
abbrev pub declaring_records : Declared → List Rec
declaring_records d = schema_with d.content.schema d.ids.schema
    ++ channel_of (id_given d.ids.channel) (fields_with d.content (id_of d.ids.schema)) ∷ []

abbrev pub declared_records : Option Declared → List Rec
declared_records None = []
declared_records (Some d) = declaring_records d

abbrev pub FitsChoice : Option Declared → Type 0
FitsChoice None = Unit {0}
FitsChoice (Some d) = DefFits d.content

-- the channel has the id that its content has or gets behind the history, and what is declared is what its declaration adds
pub record IsChosen (inputs : List (List Top)) (tops : List Top) (history : List Rec) (source : ℕ) (j : Joiner)
    (c : Choice) : Type 0 where
  pub content : ChannelDef
  pub is : IsContent (flat tops) source content
  pub id_is : c.id ≡ channel_id (ids_of history) content
  pub declared : declared_records c.declared ≡ new_records (ids_of history) content
  pub stands : JoinerStands inputs (history ++ new_records (ids_of history) content) j

-- ---- what is used

-- each content of the table is that of a channel, or of its schema, that has a message
pub record TableIsUsed (inputs : List (List Top)) (t : tables.IdContents) : Type 0 where
  pub channels : Each (IsUsed inputs) t.channels
  pub schemas : Each (SchemaIsUsed inputs) t.schemas

-- an id is asked for the channel of a message
pub record IsAskedFor (inputs : List (List Top)) (m : Sent) (source : ℕ) (known : Tables) : Type 0 where
  pub from : IsFrom inputs m
  pub tops : List Top
  pub at : At inputs m.input tops
  pub on : m.seen.channel ≡ source
  pub tables_are : TablesOf (flat tops) known

-- why no id is left for the channel of a message, where ids are given in the order of the messages
abbrev pub LackMet : List (List Top) → IdRefused → Type 0
LackMet inputs TooManySchemas = MoreThan id_limit (SchemaIsUsed inputs)
LackMet inputs TooManyChannels = MoreThan id_limit (IsUsed inputs)
LackMet inputs Memory = Unit {0}

-- why there aren't ids for all that is used, in whatever order: too many schemas; or too many channels, and no more schemas than ids
abbrev pub WhyLacks : List (List Top) → IdRefused → Type 0
WhyLacks inputs TooManySchemas = MoreThan id_limit (SchemaIsUsed inputs)
WhyLacks inputs TooManyChannels = MoreThan id_limit (IsUsed inputs) × AtMost id_limit (SchemaIsUsed inputs)
WhyLacks inputs Memory = Unit {0}

abbrev pub AfterChoice : List (List Top) → tables.IdContents → Result Choice IdRefused → Type 0
AfterChoice inputs t (Ok c) = TableIsUsed inputs t
AfterChoice inputs t (Err why) = LackMet inputs why
