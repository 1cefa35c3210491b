-- What is kept of Attachments and of Metadata for their indexes.
use Rattle.std.specs.Prelude.{◌≡◌, ℕ, List, length}
use Rattle.rec_data.specs.Records.{attachment_opcode, metadata_opcode}
use Rattle.rec_index.specs.Fields.{MetadataIndexFields}
use Rattle.mcap_model.specs.Tops.{Top, top_bytes}
use Rattle.mcap_model.specs.Fields.{AttachmentFields, IsAttachment, IsMetadata, AttachmentIndexFields, IsAttachmentIndex, IsMetadataIndex}
use Rattle.index_check.specs.declared.extras.AttachmentNote.{AttachmentNote}
use Rattle.index_check.specs.declared.extras.MetadataNote.{MetadataNote}
use Rattle.index_check.specs.declared.extras.Attachments.{Attachments}
use Rattle.index_check.specs.declared.extras.MetadataList.{MetadataList}
use Rattle.index_check.specs.Spots.{SpotsOf, NotesOf, NamedBy}

-- an index has what was noted
abbrev pub IsOfAttachment : AttachmentNote → AttachmentIndexFields → Type 0
IsOfAttachment note f = (f.size ≡ note.length) × (f.log_time ≡ note.log_time) × (f.create_time ≡ note.create_time)
    × (f.payload_size ≡ note.payload_length) × (note.name ≡ f.name) × (note.media_type ≡ f.media_type)

abbrev pub IsOfMetadata : MetadataNote → MetadataIndexFields → Type 0
IsOfMetadata note f = (f.size ≡ note.length) × (note.name ≡ f.name)

-- this was noted of an Attachment
pub record NotesAttachment (t : Top) (note : AttachmentNote) : Type 0 where
  pub shown : AttachmentFields
  pub is : IsAttachment t shown
  pub size : note.length ≡ length (top_bytes t)
  pub log_time : note.log_time ≡ shown.log_time
  pub create_time : note.create_time ≡ shown.create_time
  pub payload_size : note.payload_length ≡ length shown.payload
  pub name : note.name ≡ shown.name
  pub media_type : note.media_type ≡ shown.media_type

-- this was noted of a Metadata record
pub record NotesMetadata (t : Top) (note : MetadataNote) : Type 0 where
  pub name : List ℕ
  pub pairs : List (List ℕ × List ℕ)
  pub is : IsMetadata t name pairs
  pub size : note.length ≡ length (top_bytes t)
  pub name_is : note.name ≡ name

-- all Attachments of these records are kept
pub record AttachmentsOf (tops : List Top) (kept : Attachments) : Type 0 where
  pub spots : SpotsOf (λ t. t.op ≡ attachment_opcode) tops kept.spots
  pub notes : NotesOf (λ n. NotesAttachment) tops kept.spots kept.notes.items

pub record MetadataOf (tops : List Top) (kept : MetadataList) : Type 0 where
  pub spots : SpotsOf (λ t. t.op ≡ metadata_opcode) tops kept.spots
  pub notes : NotesOf (λ n. NotesMetadata) tops kept.spots kept.notes.items

-- an index that names an offset
abbrev pub IndexesAttachment : Top → ℕ → Type 0
IndexesAttachment t offset = (f : AttachmentIndexFields) × IsAttachmentIndex t f × (f.offset ≡ offset)

abbrev pub IndexesMetadata : Top → ℕ → Type 0
IndexesMetadata t offset = (size : ℕ) × (name : List ℕ) × IsMetadataIndex t offset size name

-- those are marked that the indexes in front of that place name
abbrev pub AttachmentsNamed : List Top → ℕ → Attachments → Type 0
AttachmentsNamed tops n kept = NamedBy IndexesAttachment tops n kept.spots

abbrev pub MetadataNamed : List Top → ℕ → MetadataList → Type 0
MetadataNamed tops n kept = NamedBy IndexesMetadata tops n kept.spots
