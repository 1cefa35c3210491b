-- What is kept of a file that may be broken, as a profile, extras and a history.
use Rattle.std.specs.Prelude.{◌≡◌, ℕ, List, [], ◌∷◌, filter, Bool, ◌==◌, ◌||◌, nat_le}
use Rattle.rec_data.specs.declared.owned.Rec.{Rec}
use Rattle.rec_data.specs.Records.{attachment_opcode, metadata_opcode, application_opcode}
use Rattle.mcap_model.specs.Tops.{Top}
use Rattle.mcap_model.specs.Fields.{IsHeader}
use Rattle.mcap_model.specs.Kept.{Kept, reading_limits}
use Rattle.mcap_model.specs.History.{without_repeats}
use Rattle.mcap_model.specs.Written.{AreFlatRecords}

-- an Attachment, a Metadata, or a record of an application
abbrev pub is_extra : Top → Bool
is_extra t = (t.op == attachment_opcode) || ((t.op == metadata_opcode) || nat_le application_opcode t.op)

-- the profile of the Header, or none where there is no record
abbrev pub ProfileIs : List Top → List ℕ → Type 0
ProfileIs [] profile = profile ≡ []
ProfileIs (t ∷ ts) profile = (header : IsHeader t) × (header.profile ≡ profile)

-- What repairing makes of records: a profile; the extras at top level, their contents unchanged; and the Schemas,
-- Channels and Messages with their own ids, but for an id's further declarations.
pub record Repairs (tops : List Top) (profile : List ℕ) (extras : List Top) (history : List Rec) : Type 0 where
  pub profile_is : ProfileIs tops profile
  pub extras_are : extras ≡ filter is_extra tops
  pub flattened : List Rec
  pub are_flattened : AreFlatRecords tops flattened
  pub history_is : history ≡ without_repeats flattened

-- what repairing makes of some bytes: of the records that a reading of them keeps
pub record Repaired (bytes profile : List ℕ) (extras : List Top) (history : List Rec) : Type 0 where
  pub tops : List Top
  pub kept : Kept reading_limits bytes tops
  pub repairs : Repairs tops profile extras history
