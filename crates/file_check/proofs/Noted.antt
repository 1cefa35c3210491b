-- The records that an index can repeat, with one record more.
use Rattle.std.proofs.Common.{◌≡◌, ℕ, ◌+◌, ◌-◌, ◌^◌, min, false, List, [], ◌∷◌, ◌++◌, length, refl, sym, ap, subst, ◌∙◌, arith}
use Rattle.std.proofs.lemmas.List.{length-append}
use Rattle.mcap_model.specs.Places.{Each}
use Rattle.mcap_model.specs.Tops.{Top, top_bytes}
use Rattle.mcap_model.specs.Fields.{ChunkFields, IsChunk}
use Rattle.mcap_model.specs.Kept.{reading_limits, Fits}
use Rattle.mcap_model.proofs.Flat.{named_or}
use Rattle.mcap_model.proofs.Lists.{each_cons, each_joined}
use Rattle.mcap_model.proofs.Places.{at_none}
use Rattle.mcap_model.proofs.Readings.{length-top}
use Rattle.index_check.specs.declared.spots.Spot.{Spot}
use Rattle.index_check.specs.declared.chunk_indexes.Chunks.{Chunks}
use Rattle.index_check.specs.declared.extras.Attachments.{Attachments}
use Rattle.index_check.specs.declared.extras.MetadataList.{MetadataList}
use Rattle.index_check.specs.Spots.{spot}
use Rattle.index_check.specs.Chunks.{ChunksOf}
use Rattle.index_check.specs.Extras.{NotesAttachment, NotesMetadata, AttachmentsOf, MetadataOf}
use Rattle.index_check.proofs.Spotted.{spots_other, notes_other}
use Rattle.index_check.proofs.Tracked.{chunks_other}
use Rattle.file_check.specs.declared.indexed_records.IndexedRecords.{IndexedRecords}
use Rattle.file_check.specs.IndexedRecords.{AreFresh, IndexedOf}
use Rattle.file_check.proofs.Counting.{count_same, count_other}
use Rattle.file_check.proofs.Flattening.{fits_end}

-- ---- spots

fresh_more : (op offset : ℕ) (tops : List Top) (t : Top) (spots more : List Spot) → AreFresh op tops spots → t.op ≡ op → more ≡ spots ++ spot offset false ∷ [] → AreFresh op (tops ++ t ∷ []) more
fresh_more op offset tops t spots more was is same = record {
  many = ap length same ∙ length-append spots (spot offset false ∷ []) ∙ ap (λ (n : ℕ). n + 1) was.many ∙ sym (count_same op tops t is);
  unnamed = subst (Each (λ s. s.named ≡ false)) (sym same)
      (each_joined (λ s. s.named ≡ false) spots (spot offset false ∷ []) was.unnamed (each_cons (λ s. s.named ≡ false) (spot offset false) [] refl (λ n s at. absurd (at_none n s at))));
}

fresh_other : (op : ℕ) (tops : List Top) (t : Top) (spots : List Spot) → AreFresh op tops spots → (t.op ≡ op → ⊥) → AreFresh op (tops ++ t ∷ []) spots
fresh_other op tops t spots was other = record { many = was.many ∙ sym (count_other op tops t other); unnamed = was.unnamed }

-- ---- lists that stay

attachments_other : (tops : List Top) (t : Top) (kept : Attachments) → AttachmentsOf tops kept → (t.op ≡ 9 → ⊥) → AttachmentsOf (tops ++ t ∷ []) kept
attachments_other tops t kept are nine = record {
  spots = spots_other (λ u. u.op ≡ 9) tops t kept.spots are.spots nine;
  notes = notes_other (λ n. NotesAttachment) (λ n. NotesAttachment) (λ u. u.op ≡ 9) tops t kept.spots kept.notes.items are.spots are.notes (λ n u x at old. old);
}

metadata_other : (tops : List Top) (t : Top) (kept : MetadataList) → MetadataOf tops kept → (t.op ≡ 12 → ⊥) → MetadataOf (tops ++ t ∷ []) kept
metadata_other tops t kept are twelve = record {
  spots = spots_other (λ u. u.op ≡ 12) tops t kept.spots are.spots twelve;
  notes = notes_other (λ n. NotesMetadata) (λ n. NotesMetadata) (λ u. u.op ≡ 12) tops t kept.spots kept.notes.items are.spots are.notes (λ n u x at old. old);
}

-- ---- one record more

abbrev pub with_chunks : IndexedRecords → Chunks → IndexedRecords
with_chunks kept chunks = record { chunks = chunks; attachments = kept.attachments; metadata = kept.metadata }

abbrev pub with_attachments : IndexedRecords → Attachments → IndexedRecords
with_attachments kept attachments = record { chunks = kept.chunks; attachments = attachments; metadata = kept.metadata }

abbrev pub with_metadata : IndexedRecords → MetadataList → IndexedRecords
with_metadata kept metadata = record { chunks = kept.chunks; attachments = kept.attachments; metadata = metadata }

pub indexed_chunk : (offset : ℕ) (tops : List Top) (t : Top) (kept : IndexedRecords) (chunks : Chunks) → IndexedOf tops kept → t.op ≡ 6 → ChunksOf (tops ++ t ∷ []) chunks → chunks.spots ≡ kept.chunks.spots ++ spot offset false ∷ [] → IndexedOf (tops ++ t ∷ []) (with_chunks kept chunks)
indexed_chunk offset tops t kept chunks was six are same = record {
  chunks = are;
  attachments = attachments_other tops t kept.attachments was.attachments (λ e. omega (arith, e, six));
  metadata = metadata_other tops t kept.metadata was.metadata (λ e. omega (arith, e, six));
  fresh_chunks = fresh_more 6 offset tops t kept.chunks.spots chunks.spots was.fresh_chunks six same;
  fresh_attachments = fresh_other 9 tops t kept.attachments.spots was.fresh_attachments (λ e. omega (arith, e, six));
  fresh_metadata = fresh_other 12 tops t kept.metadata.spots was.fresh_metadata (λ e. omega (arith, e, six));
}

pub indexed_index : (tops : List Top) (t : Top) (kept : IndexedRecords) (chunks : Chunks) → IndexedOf tops kept → t.op ≡ 7 → ChunksOf (tops ++ t ∷ []) chunks → chunks.spots ≡ kept.chunks.spots → IndexedOf (tops ++ t ∷ []) (with_chunks kept chunks)
indexed_index tops t kept chunks was seven are same = record {
  chunks = are;
  attachments = attachments_other tops t kept.attachments was.attachments (λ e. omega (arith, e, seven));
  metadata = metadata_other tops t kept.metadata was.metadata (λ e. omega (arith, e, seven));
  fresh_chunks = subst (AreFresh 6 (tops ++ t ∷ [])) (sym same) (fresh_other 6 tops t kept.chunks.spots was.fresh_chunks (λ e. omega (arith, e, seven)));
  fresh_attachments = fresh_other 9 tops t kept.attachments.spots was.fresh_attachments (λ e. omega (arith, e, seven));
  fresh_metadata = fresh_other 12 tops t kept.metadata.spots was.fresh_metadata (λ e. omega (arith, e, seven));
}

pub indexed_attachment : (offset : ℕ) (tops : List Top) (t : Top) (kept : IndexedRecords) (attachments : Attachments) → IndexedOf tops kept → t.op ≡ 9 → AttachmentsOf (tops ++ t ∷ []) attachments → attachments.spots ≡ kept.attachments.spots ++ spot offset false ∷ []
    → IndexedOf (tops ++ t ∷ []) (with_attachments kept attachments)
indexed_attachment offset tops t kept attachments was nine are same = record {
  chunks = chunks_other tops t kept.chunks was.chunks (λ e. omega (arith, e, nine)) (λ e. omega (arith, e, nine));
  attachments = are;
  metadata = metadata_other tops t kept.metadata was.metadata (λ e. omega (arith, e, nine));
  fresh_chunks = fresh_other 6 tops t kept.chunks.spots was.fresh_chunks (λ e. omega (arith, e, nine));
  fresh_attachments = fresh_more 9 offset tops t kept.attachments.spots attachments.spots was.fresh_attachments nine same;
  fresh_metadata = fresh_other 12 tops t kept.metadata.spots was.fresh_metadata (λ e. omega (arith, e, nine));
}

pub indexed_metadata : (offset : ℕ) (tops : List Top) (t : Top) (kept : IndexedRecords) (metadata : MetadataList) → IndexedOf tops kept → t.op ≡ 12 → MetadataOf (tops ++ t ∷ []) metadata → metadata.spots ≡ kept.metadata.spots ++ spot offset false ∷ []
    → IndexedOf (tops ++ t ∷ []) (with_metadata kept metadata)
indexed_metadata offset tops t kept metadata was twelve are same = record {
  chunks = chunks_other tops t kept.chunks was.chunks (λ e. omega (arith, e, twelve)) (λ e. omega (arith, e, twelve));
  attachments = attachments_other tops t kept.attachments was.attachments (λ e. omega (arith, e, twelve));
  metadata = are;
  fresh_chunks = fresh_other 6 tops t kept.chunks.spots was.fresh_chunks (λ e. omega (arith, e, twelve));
  fresh_attachments = fresh_other 9 tops t kept.attachments.spots was.fresh_attachments (λ e. omega (arith, e, twelve));
  fresh_metadata = fresh_more 12 offset tops t kept.metadata.spots metadata.spots was.fresh_metadata twelve same;
}

pub indexed_other : (tops : List Top) (t : Top) (kept : IndexedRecords) → IndexedOf tops kept → (t.op ≡ 6 → ⊥) → (t.op ≡ 7 → ⊥) → (t.op ≡ 9 → ⊥) → (t.op ≡ 12 → ⊥) → IndexedOf (tops ++ t ∷ []) kept
indexed_other tops t kept was six seven nine twelve = record {
  chunks = chunks_other tops t kept.chunks was.chunks six seven;
  attachments = attachments_other tops t kept.attachments was.attachments nine;
  metadata = metadata_other tops t kept.metadata was.metadata twelve;
  fresh_chunks = fresh_other 6 tops t kept.chunks.spots was.fresh_chunks six;
  fresh_attachments = fresh_other 9 tops t kept.attachments.spots was.fresh_attachments nine;
  fresh_metadata = fresh_other 12 tops t kept.metadata.spots was.fresh_metadata twelve;
}

-- ---- what is said of a record

-- its length, where it fits
pub length_is : (tops : List Top) (t : Top) (n : ℕ) → Fits reading_limits tops t → n ≡ min (9 + length t.content) (2 ^ 64 - 1) → n ≡ length (top_bytes t)
length_is tops t n fits is = omega (arith, is, fits_end tops t fits, length-top t)

-- a chunk that fits names no compression
pub plain_chunk : (tops : List Top) (t : Top) (f : ChunkFields) → IsChunk t f → Fits reading_limits tops t → f.compression ≡ []
plain_chunk tops t f is fits = named_or t f f.compression is refl fits.plain

pub sized_chunk : (tops : List Top) (t : Top) (f : ChunkFields) → IsChunk t f → Fits reading_limits tops t → f.size ≡ length f.records
sized_chunk tops t f is fits = (fits.v8 f is (plain_chunk tops t f is fits)).size
