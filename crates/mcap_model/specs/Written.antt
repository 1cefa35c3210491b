-- The Schemas, Channels and Messages of a file as records of a history, and how the channels of a source are written into a history.
use Rattle.std.specs.Prelude.{◌≡◌, ◌⊎◌, ℕ, List, length, filter, sum_by, Bool, ◌||◌, ◌==◌, if◌then◌else◌, IsPermutation}
use Rattle.std.specs.List.{AllZip}
use Rattle.rec_data.specs.declared.owned.Rec.{Rec}
use Rattle.rec_data.specs.Owned.{ShowsRec}
use Rattle.rec_data.specs.Records.{attachment_opcode, metadata_opcode}
use Rattle.mcap_model.specs.Places.{At}
use Rattle.mcap_model.specs.Tops.{Top, is_chunk, inner_tops, flat}
use Rattle.mcap_model.specs.Fields.{SchemaFields, IsSchema, ChannelFields, IsChannel}
use Rattle.mcap_model.specs.Rules.{is_unknown}
use Rattle.mcap_model.specs.History.{schema_of}

abbrev pub IsRec : Top → Rec → Type 0
IsRec t r = ShowsRec t.op t.content r

-- the Schemas, Channels and Messages of a file's records, those inside chunks too, in their order
abbrev pub AreFlatRecords : List Top → List Rec → Type 0
AreFlatRecords tops flattened = AllZip IsRec (flat tops) flattened

-- an Attachment, a Metadata or an unknown record, which a recording passes over
abbrev pub is_passed_over : Top → Bool
is_passed_over t = (t.op == attachment_opcode) || ((t.op == metadata_opcode) || is_unknown t.op)

-- How many records are passed over where one is read. It is said apart what of a chunk is passed over, since inside one
-- no record is recorded but Schemas, Channels and Messages.
abbrev pub passed_in : Top → ℕ
passed_in t =
    if is_chunk t then length (filter (λ u. is_unknown u.op) (inner_tops t)) else if is_passed_over t then 1 else 0

abbrev pub passed : List Top → ℕ
passed tops = sum_by passed_in tops

-- ---- a source's channels in a history

-- the source's schema of the first id has the fields of the history's Schema of the second one
pub record SameSchema (records : List Top) (history : List Rec) (source written : ℕ) : Type 0 where
  pub place : ℕ
  pub top : Top
  pub shown : SchemaFields
  pub at : At records place top
  pub is : IsSchema top source shown
  pub there : ℕ
  pub stands : At history there (schema_of written shown)

-- both have no schema, or the same
abbrev pub SchemaIs : List Top → List Rec → ℕ → ℕ → Type 0
SchemaIs records history source written = ((source ≡ 0) × (written ≡ 0)) ⊎ SameSchema records history source written

-- the fields of a channel of the source, and those that are written of it
pub record IsWrittenAs (records : List Top) (history : List Rec) (shown written : ChannelFields) : Type 0 where
  pub schema : SchemaIs records history shown.schema written.schema
  pub topic : shown.topic ≡ written.topic
  pub encoding : shown.encoding ≡ written.encoding
  pub metadata : IsPermutation shown.metadata written.metadata

-- the source's channel of that id has these fields
pub record SourceShows (records : List Top) (channel : ℕ) (shown : ChannelFields) : Type 0 where
  pub place : ℕ
  pub top : Top
  pub at : At records place top
  pub is : IsChannel top channel shown
