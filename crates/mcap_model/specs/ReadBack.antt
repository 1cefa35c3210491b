-- Which records are read back as themselves, and which extras a file may have.
use Rattle.std.specs.Prelude.{◌≡◌, ◌⊎◌, ◌≤◌, ℕ}
use Rattle.rec_data.specs.Records.{attachment_opcode, metadata_opcode, application_opcode}
use Rattle.rec_data.specs.declared.owned.Rec.{Rec}
use Rattle.rec_data.specs.Owned.{rec_opcode, rec_text, ShowsRec}
use Rattle.mcap_model.specs.Tops.{Top}
use Rattle.mcap_model.specs.Rules.{V6, V10}

-- the record is read back as itself: its numbers and lengths fit, its texts are UTF-8 and its keys differ; an extra has the
-- opcode of one, and meets its layout
abbrev pub IsReadBack : Rec → Type 0
IsReadBack r = ShowsRec (rec_opcode r) (rec_text r) r

-- the opcode of an Attachment, of a Metadata, or of an application's record
abbrev pub IsExtraKind : ℕ → Type 0
IsExtraKind op = (op ≡ attachment_opcode) ⊎ ((op ≡ metadata_opcode) ⊎ (application_opcode ≤ op))

-- an Attachment or a Metadata that meets its layout, and V10; or an application's record
pub record IsExtra (t : Top) : Type 0 where
  pub kind : IsExtraKind t.op
  pub v6 : V6 t
  pub v10 : V10 t
