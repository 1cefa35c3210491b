-- What merging makes of files: a profile, extras and a history.
use Rattle.std.specs.Prelude.{◌≡◌, ◌⊎◌, ℕ, suc, ◌<◌, ◌≤◌, List, [], filter, length, true, AllPairs, IsPermutation, Option, Some, None}
use Rattle.std.specs.List.{flat_map, AllZip}
use Rattle.mcap_wire.specs.Maps.{KeysAscend}
use Rattle.rec_data.specs.declared.owned.Rec.{Rec}
use Rattle.rec_data.specs.declared.owned.Rec.TheVariants.{Schema, Channel, Message, Extra}
use Rattle.rec_data.specs.declared.schema.SchemaDef.{SchemaDef}
use Rattle.rec_data.specs.declared.channel.ChannelDef.{ChannelDef}
use Rattle.rec_data.specs.Owned.{def_fields}
use Rattle.mcap_model.specs.Places.{At, Has, Each}
use Rattle.mcap_model.specs.Tops.{Top, flat}
use Rattle.mcap_model.specs.Fields.{IsSchema, ChannelFields}
use Rattle.mcap_model.specs.Kept.{Halts, at_end, reading_limits}
use Rattle.mcap_model.specs.Scan.{Seen, Scan, PlaceBefore}
use Rattle.mcap_model.specs.History.{channel_of, message_of, is_message, is_inner, Numbered}
use Rattle.mcap_model.specs.Written.{SourceShows, IsWrittenAs}
use Rattle.mcap_model.specs.Repaired.{is_extra, ProfileIs}

-- ---- the messages of all inputs

-- a message, and the number of its input
pub record Sent : Type 0 where
  pub input : ℕ
  pub seen : Seen

-- the input of that number has this message
pub record IsFrom (inputs : List (List Top)) (m : Sent) : Type 0 where
  pub tops : List Top
  pub at : At inputs m.input tops
  pub messages : List Seen
  pub scan : Scan tops messages
  pub has : Has messages m.seen

-- a message comes before another: by log time, then by the input's number, then by place
abbrev pub MergesBefore : Sent → Sent → Type 0
MergesBefore a b = (a.seen.message.log_time < b.seen.message.log_time)
    ⊎ ((a.seen.message.log_time ≡ b.seen.message.log_time)
    × ((a.input < b.input) ⊎ ((a.input ≡ b.input) × PlaceBefore a.seen.place b.seen.place)))

-- just the messages of the inputs, in their order
pub record AreInTurn (inputs : List (List Top)) (messages : List Sent) : Type 0 where
  pub rise : AllPairs MergesBefore messages
  pub are : (m : Sent) → Has messages m → IsFrom inputs m
  pub all : (m : Sent) → IsFrom inputs m → Has messages m

-- ---- the history

-- the message in the history, on a channel whose fields are those of its channel in its input
pub record IsMerged (inputs : List (List Top)) (history : List Rec) (m : Sent) (r : Rec) : Type 0 where
  pub tops : List Top
  pub at : At inputs m.input tops
  pub shown : ChannelFields
  pub known : SourceShows (flat tops) m.seen.channel shown
  pub channel : ℕ
  pub written : ChannelFields
  pub same : IsWrittenAs (flat tops) history shown written
  pub declared : Has history (channel_of channel written)
  pub is : r ≡ message_of channel m.seen.message

-- the record is a Channel with that schema
abbrev pub HasThatSchema : Rec → ℕ → Type 0
HasThatSchema (Schema id schema) wanted = ⊥
HasThatSchema (Channel id schema topic encoding metadata) wanted = schema ≡ wanted
HasThatSchema (Message channel sequence log_time publish_time payload) wanted = ⊥
HasThatSchema (Extra op content) wanted = ⊥

-- the record is a Message on that channel
abbrev pub IsOnChannel : Rec → ℕ → Type 0
IsOnChannel (Schema id schema) wanted = ⊥
IsOnChannel (Channel id schema topic encoding metadata) wanted = ⊥
IsOnChannel (Message channel sequence log_time publish_time payload) wanted = channel ≡ wanted
IsOnChannel (Extra op content) wanted = ⊥

-- the record is what that one was declared for: of a Schema a Channel that has it, of a Channel a Message on it
abbrev pub IsUseOf : Rec → Rec → Type 0
IsUseOf (Schema id schema) next = HasThatSchema next id
IsUseOf (Channel id schema topic encoding metadata) next = IsOnChannel next id
IsUseOf (Message channel sequence log_time publish_time payload) next = Unit {0}
IsUseOf (Extra op content) next = ⊥

-- a Schema stands directly before a Channel that has it, and a Channel directly before a Message on it
abbrev pub StandBeforeUse : List Rec → Type 0
StandBeforeUse history = (n : ℕ) (r : Rec) → At history n r
    → (is_message r ≡ true) ⊎ ((next : Rec) × At history (suc n) next × IsUseOf r next)

-- ---- the merge

-- the profile that all inputs have, or none
pub record CommonProfile (inputs : List (List Top)) (profile : List ℕ) : Type 0 where
  pub common : (p : List ℕ) → Each (λ tops. ProfileIs tops p) inputs → profile ≡ p
  pub none : ((p : List ℕ) → Each (λ tops. ProfileIs tops p) inputs → ⊥) → profile ≡ []

-- what is made of inputs that were read to their Data Ends
pub record MergeOf (inputs : List (List Top)) (profile : List ℕ) (extras : List Top) (history : List Rec) : Type 0 where
  pub profile_is : CommonProfile inputs profile
  pub extras_are : extras ≡ flat_map (filter is_extra) inputs
  -- it holds Schemas, Channels and Messages alone
  pub inner : Each (λ r. is_inner r ≡ true) history
  pub numbered : Numbered history
  pub messages : List Sent
  pub in_turn : AreInTurn inputs messages
  pub merged : AllZip (IsMerged inputs history) messages (filter is_message history)
  pub placed : StandBeforeUse history

-- these are the records of the files, each of which is read to its Data End
abbrev pub AreRead : List (List ℕ) → List (List Top) → Type 0
AreRead files inputs = AllZip (λ bytes tops. (end : ℕ) × Halts reading_limits bytes tops (at_end end)) files inputs

pub record Merged (files : List (List ℕ)) (profile : List ℕ) (extras : List Top) (history : List Rec) : Type 0 where
  pub inputs : List (List Top)
  pub read : AreRead files inputs
  pub merge : MergeOf inputs profile extras history

-- ---- contents

-- a schema of a file as a content: none for 0, else the fields of its Schema of that id
abbrev pub SchemaContent : List Top → ℕ → Option SchemaDef → Type 0
SchemaContent records id None = id ≡ 0
SchemaContent records id (Some s) = (place : ℕ) × (t : Top) × At records place t × IsSchema t id (def_fields s)

-- the content of a file's channel: its fields, with the keys in order, and those of its schema
pub record IsContent (records : List Top) (channel : ℕ) (content : ChannelDef) : Type 0 where
  pub shown : ChannelFields
  pub known : SourceShows records channel shown
  pub topic : content.topic ≡ shown.topic
  pub encoding : content.message_encoding ≡ shown.encoding
  pub metadata : IsPermutation shown.metadata content.metadata
  pub order : KeysAscend content.metadata
  pub schema : SchemaContent records shown.schema content.schema

-- a message of the inputs is on a channel of that content
pub record IsUsed (inputs : List (List Top)) (content : ChannelDef) : Type 0 where
  pub message : Sent
  pub from : IsFrom inputs message
  pub tops : List Top
  pub at : At inputs message.input tops
  pub is : IsContent (flat tops) message.seen.channel content

-- on a channel with a schema of that content
abbrev pub SchemaIsUsed : List (List Top) → SchemaDef → Type 0
SchemaIsUsed inputs schema = (content : ChannelDef) × IsUsed inputs content × (content.schema ≡ Some schema)

-- at most so many are such
abbrev pub AtMost : {X : Type 0} → ℕ → (X → Type 0) → Type 0
AtMost {X} n P = (all : List X) × (length all ≤ n) × ((x : X) → P x → Has all x)

-- more than so many are
abbrev pub MoreThan : {X : Type 0} → ℕ → (X → Type 0) → Type 0
MoreThan {X} n P = (some : List X) × (length some ≡ suc n) × AllPairs (λ x y. x ≡ y → ⊥) some × Each P some
