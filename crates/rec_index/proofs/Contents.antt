-- What shows a record is not refused, and what is framed are its fields.
use Rattle.std.proofs.Common.{◌≡◌, ℕ, ◌+◌, List, [], ◌∷◌, ◌++◌, length, sym, ◌∙◌, append_assoc, arith}
use Rattle.std.proofs.lemmas.List.{append-nil, length-append}
use Rattle.std.specs.Prelude.{Result, IfErr, OnErr}
use Rattle.mcap_wire.specs.Layout.{le, string, prefixed, framed}
use Rattle.mcap_wire.proofs.Numbers.{length-le}
use Rattle.mcap_wire.proofs.Framing.{head_and_content}
use Rattle.mcap_wire.proofs.Contents.{not_refused, refused}
use Rattle.mcap_wire.specs.declared.faults.Bad.{Bad}
use Rattle.rec_index.specs.Fields.{SummaryOffsetFields, MetadataIndexFields, AttachmentIndexFields, ChunkFields}
use Rattle.rec_index.specs.Records.{summary_offset_kinds, summary_offset_values, ShowsSummaryOffset, metadata_index_kinds, metadata_index_values, ShowsMetadataIndex, attachment_index_kinds, attachment_index_values, attachment_index_text, ShowsAttachmentIndex, chunk_kinds, chunk_values, chunk_text, ShowsChunk, attachment_index_opcode, chunk_opcode}
use Rattle.rec_index.specs.RecordReading.{SummaryOffsetFails, MetadataIndexFails, AttachmentIndexFails, ChunkFails}

-- ---- Summary Offset

pub summary_offset_none : {T : Type 0} (content : List ℕ) (r : Result T Bad) → IfErr r (λ bad. SummaryOffsetFails content bad.field bad.why) → OnErr r ((f : SummaryOffsetFields) → ShowsSummaryOffset content f → ⊥)
summary_offset_none content r fails =
    refused summary_offset_kinds content r
    (λ field why bad f shows. not_refused summary_offset_kinds content field why bad (summary_offset_values f) shows.0 shows.1)
    fails

-- ---- Metadata Index

pub metadata_index_none : {T : Type 0} (content : List ℕ) (r : Result T Bad) → IfErr r (λ bad. MetadataIndexFails content bad.field bad.why) → OnErr r ((f : MetadataIndexFields) → ShowsMetadataIndex content f → ⊥)
metadata_index_none content r fails =
    refused metadata_index_kinds content r
    (λ field why bad f shows. not_refused metadata_index_kinds content field why bad (metadata_index_values f) shows.0 shows.1)
    fails

-- ---- Attachment Index

pub attachment_index_none : {T : Type 0} (content : List ℕ) (r : Result T Bad) → IfErr r (λ bad. AttachmentIndexFails content bad.field bad.why) → OnErr r ((f : AttachmentIndexFields) → ShowsAttachmentIndex content f → ⊥)
attachment_index_none content r fails =
    refused attachment_index_kinds content r
    (λ field why bad f shows. not_refused attachment_index_kinds content field why bad (attachment_index_values f) shows.0 shows.1)
    fails

length-attachment_index_text : (f : AttachmentIndexFields) → length (attachment_index_text f) ≡ 48 + length f.name + length f.media_type
length-attachment_index_text f =
    simp (length-append, length-le) (omega arith)

-- seven parts that are appended one by one
seven_appended : (old a b c d e f g : List ℕ) → ((((((old ++ a) ++ b) ++ c) ++ d) ++ e) ++ f) ++ g ≡ old ++ (a ++ (b ++ (c ++ (d ++ (e ++ (f ++ (g ++ [])))))))
seven_appended old a b c d e f g = simp (append_assoc, append-nil)

-- an Attachment Index that is written field by field
pub attachment_index_framed : (old : List ℕ) (len : ℕ) (f : AttachmentIndexFields) → len ≡ 48 + length f.name + length f.media_type
    → (((((((old ++ attachment_index_opcode ∷ le 8 len) ++ le 8 f.offset) ++ le 8 f.size) ++ le 8 f.log_time) ++ le 8 f.create_time) ++ le 8 f.payload_size) ++ string f.name) ++ string f.media_type
    ≡ old ++ framed attachment_index_opcode (attachment_index_text f)
attachment_index_framed old len f is =
    seven_appended (old ++ attachment_index_opcode ∷ le 8 len) (le 8 f.offset) (le 8 f.size) (le 8 f.log_time) (le 8 f.create_time) (le 8 f.payload_size) (string f.name) (string f.media_type)
    ∙ head_and_content old (attachment_index_text f) attachment_index_opcode len
    (is ∙ sym (length-attachment_index_text f))

-- ---- Chunk

pub chunk_none : {T : Type 0} (content : List ℕ) (r : Result T Bad) → IfErr r (λ bad. ChunkFails content bad.field bad.why) → OnErr r ((f : ChunkFields) → ShowsChunk content f → ⊥)
chunk_none content r fails =
    refused chunk_kinds content r
    (λ field why bad f shows. not_refused chunk_kinds content field why bad (chunk_values f) shows.0 shows.1)
    fails

length-chunk_text : (f : ChunkFields) → length (chunk_text f) ≡ 40 + length f.compression + length f.records
length-chunk_text f =
    simp (length-append, length-le) (omega arith)

-- six parts that are appended one by one
six_appended : (old a b c d e f : List ℕ) → (((((old ++ a) ++ b) ++ c) ++ d) ++ e) ++ f ≡ old ++ (a ++ (b ++ (c ++ (d ++ (e ++ (f ++ []))))))
six_appended old a b c d e f = simp (append_assoc, append-nil)

-- a Chunk that is written field by field
pub chunk_framed : (old : List ℕ) (len : ℕ) (f : ChunkFields) → len ≡ 40 + length f.compression + length f.records
    → ((((((old ++ chunk_opcode ∷ le 8 len) ++ le 8 f.start) ++ le 8 f.end) ++ le 8 f.size) ++ le 4 f.crc) ++ string f.compression) ++ prefixed 8 f.records
    ≡ old ++ framed chunk_opcode (chunk_text f)
chunk_framed old len f is =
    six_appended (old ++ chunk_opcode ∷ le 8 len) (le 8 f.start) (le 8 f.end) (le 8 f.size) (le 4 f.crc) (string f.compression) (prefixed 8 f.records)
    ∙ head_and_content old (chunk_text f) chunk_opcode len (is ∙ sym (length-chunk_text f))
