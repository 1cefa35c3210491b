-- That what a pass showed is so of the history of a recording.
use Rattle.std.specs.Prelude.{◌≡◌, ◌⊎◌, ℕ, ◌-◌, ◌<◌, ◌≤◌, List, [], ◌∷◌, ◌++◌, length, take, drop, AllPairs, Option, Some, None}
use Rattle.mcap_wire.specs.Limits.{id_limit}
use Rattle.rec_data.specs.declared.owned.Rec.{Rec}
use Rattle.rec_data.specs.declared.schema.SchemaDef.{SchemaDef}
use Rattle.rec_data.specs.declared.channel.ChannelDef.{ChannelDef}
use Rattle.mcap_model.specs.declared.ends.End.{End}
use Rattle.mcap_model.specs.declared.ends.End.TheVariants as ends
use Rattle.mcap_model.specs.Places.{At, Has, Each}
use Rattle.mcap_model.specs.Fields.{MessageFields}
use Rattle.mcap_model.specs.History.{schema_of, channel_of, message_of, schema_count, channel_count, history_bytes}
use Rattle.history_ids.specs.DeclarationFields.{fields_of_schema, fields_with}
use Rattle.record_core.specs.declared.answers.CallRefused.{CallRefused}
use Rattle.record_core.specs.declared.answers.CallRefused.TheVariants as refusing
use Rattle.record_core.specs.declared.answers.Found.{Found}
use Rattle.feed_lane.specs.Pass.{FullAt, full_at, NamedBy, LackAt, PassState, AreAdded}

-- ---- channels

-- the history has the declaration's schema under that id, which is 0 where there is none
abbrev pub SchemaStands : List Rec → ℕ → Option SchemaDef → Type 0
SchemaStands history id None = id ≡ 0
SchemaStands history id (Some s) = Has history (schema_of id (fields_of_schema s))

-- the history has a Channel of that id with the declaration's content
pub record ChannelStands (history : List Rec) (id : ℕ) (d : ChannelDef) : Type 0 where
  pub schema : ℕ
  pub has : Has history (channel_of id (fields_with d schema))
  pub schema_stands : SchemaStands history schema d.schema

-- The channel of a declaration that got an id stands under it among the records that there were after the declaration.
pub record NameStands (history : List Rec) (name : NamedBy) : Type 0 where
  pub within : name.count ≤ length history
  pub stands : ChannelStands (take name.count history) name.id name.content

-- all ids of schemas were given, and none to this schema
abbrev pub LacksSchema : List Rec → Option SchemaDef → Type 0
LacksSchema history None = ⊥
LacksSchema history (Some s) =
    (schema_count history ≡ id_limit) × ((id : ℕ) → Has history (schema_of id (fields_of_schema s)) → ⊥)

-- all ids of channels were given, and none to this content
abbrev pub LacksChannelId : List Rec → ChannelDef → Type 0
LacksChannelId history d = (channel_count history ≡ id_limit) × ((id : ℕ) → ChannelStands history id d → ⊥)

-- Why a declaration got no id: where ids of both lacked, that is told of schemas.
abbrev pub IdsLack : List Rec → ChannelDef → CallRefused → Type 0
IdsLack history d refusing.TooManySchemas = LacksSchema history d.schema
IdsLack history d refusing.TooManyChannels = LacksChannelId history d × (LacksSchema history d.schema → ⊥)
IdsLack history d refusal = ⊥

-- No id was left for a declaration when the history had so many records, and none is left in the whole of it.
pub record IdsLackAt (history : List Rec) (lack : LackAt) : Type 0 where
  pub within : lack.at ≤ length history
  pub there : IdsLack (take lack.at history) lack.content lack.cause
  pub still : IdsLack history lack.content lack.cause

-- ---- buffers

-- The places at which buffers of a history were handed over, in their order: none was empty.
pub record AreHandOvers (history : List Rec) (swaps : List ℕ) : Type 0 where
  pub rise : AllPairs (λ a b. a < b) (0 ∷ swaps)
  pub within : Each (λ s. s ≤ length history) swaps

-- the records from one place to before another
abbrev pub records_between : ℕ → ℕ → List Rec → List Rec
records_between from to history = take (to - from) (drop from history)

-- the records that one call added, if there was one: a message, or what a declaration adds
abbrev pub AreOfCall : List Rec → Type 0
AreOfCall records = (records ≡ []) ⊎ (((channel : ℕ) × (m : MessageFields) × (records ≡ message_of channel m ∷ []))
    ⊎ ((c : ChannelDef) × (channel : ℕ) × AreAdded c channel records))

-- Before the last call a buffer of these records was below the limit: before its last record where that is a message, else
-- before a Channel, or before a Schema and the Channel that has it.
pub record HadRoom (limit : ℕ) (records : List Rec) : Type 0 where
  pub front : List Rec
  pub call : List Rec
  pub added : AreOfCall call
  pub whole : records ≡ front ++ call
  pub room : length (history_bytes front) < limit

-- ---- a pass

-- The buffer held the records of the history at its places: it begins where one was handed over, and none was handed over
-- between its places. Before its last call it was below the limit.
pub record HeldThere (limit : ℕ) (history : List Rec) (swaps : List ℕ) (full : FullAt) : Type 0 where
  pub order : full.from ≤ full.to
  pub within : full.to ≤ length history
  pub held : full.held ≡ length (history_bytes (records_between full.from full.to history))
  pub begun : Has (0 ∷ swaps) full.from
  pub unswapped : Each (λ s. (s ≤ full.from) ⊎ (full.to ≤ s)) swaps
  pub room : HadRoom limit (records_between full.from full.to history)

-- The numbers with which the intake was found are those of the history so far: the bytes that its buffer held, and how many
-- ids were given.
pub record FoundThere (limit : ℕ) (history : List Rec) (swaps : List ℕ) (found : Found) : Type 0 where
  pub held : HeldThere limit history swaps (full_at found)
  pub schemas : found.schemas ≡ schema_count (take found.count history)
  pub channels : found.channels ≡ channel_count (take found.count history)

-- The intake was found with no more records than the history has. An end that was found is the recording's, which isn't that
-- it was closed, and behind it nothing was accepted.
pub record FoundIn (limit : ℕ) (history : List Rec) (swaps : List ℕ) (end : End) (found : Found) : Type 0 where
  pub within : found.count ≤ length history
  pub numbers : FoundThere limit history swaps found
  pub all : (e : End) → found.end ≡ Some e → found.count ≡ length history
  pub same : (e : End) → found.end ≡ Some e → e ≡ end
  pub unclosed : found.end ≡ Some ends.Closed → ⊥

-- What a pass showed is so of a history whose buffers were handed over at these places, and whose recording came to this
-- end.
pub record ShownBy (history : List Rec) (swaps : List ℕ) (end : End) (pass : PassState) : Type 0 where
  pub own : Each (λ pair. At history pair.0 pair.1) pass.own
  pub named : Each (NameStands history) pass.named
  pub fulls : Each (HeldThere pass.limit history swaps) pass.fulls
  pub lacks : Each (IdsLackAt history) pass.lacks
  pub found : (found : Found) → pass.found ≡ Some found → FoundIn pass.limit history swaps end found
