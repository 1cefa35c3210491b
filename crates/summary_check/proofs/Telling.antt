-- Indexes of a summary, one after the other.
use Rattle.std.proofs.Common.{◌≡◌, ℕ, suc, List, subst, inl, inr, None, arith}
use Rattle.std.proofs.lemmas.Bool.{cases_lt}
use Rattle.rec_index.specs.Fields.{ChunkIndexFields, AttachmentIndexFields, MetadataIndexFields}
use Rattle.mcap_model.specs.Places.{At}
use Rattle.mcap_model.specs.Tops.{Top}
use Rattle.mcap_model.specs.Fields.{IsChunkIndex, IsAttachmentIndex, IsMetadataIndex}
use Rattle.mcap_model.specs.Whole.{ChunkIndexIsRight, AttachmentIndexIsRight, MetadataIndexIsRight}
use Rattle.mcap_model.proofs.Places.{at_one}
use Rattle.mcap_model.proofs.Once.{chunk_index_once, attachment_index_once, metadata_index_once}
use Rattle.index_check.specs.declared.spots.Spot.{Spot}
use Rattle.index_check.specs.declared.chunk_indexes.Chunks.{Chunks}
use Rattle.index_check.specs.declared.extras.Attachments.{Attachments}
use Rattle.index_check.specs.declared.extras.MetadataList.{MetadataList}
use Rattle.index_check.specs.Spots.{NamedBefore, NamedBy}
use Rattle.index_check.specs.Chunks.{IndexesChunk, ChunksOf, ChunksNamed}
use Rattle.index_check.specs.Extras.{IndexesAttachment, IndexesMetadata, AttachmentsOf, AttachmentsNamed, MetadataOf, MetadataNamed}
use Rattle.summary_check.specs.Told.{ToldOf, IndexTaken}

-- a record that is no index names none
pub unnamed_next : (Names : Top → ℕ → Type 0) (tops : List Top) (n : ℕ) (u : Top) (spots : List Spot) → NamedBy Names tops n spots → At tops n u → ((o : ℕ) → Names u o → ⊥) → NamedBy Names tops (suc n) spots
unnamed_next Names tops n u spots was at none = record {
  named = λ k s there.
      let held = was.named k s there in (
        λ e. let (i, v, less, at_v, names) = held.0 e in (i, v, omega (arith, less), at_v, names),
        λ b. held.1 (back s.offset b),
      );
}
  where
    back : (offset : ℕ) → NamedBefore Names tops (suc n) offset → NamedBefore Names tops n offset
    back offset (i, v, less, at_v, names) = elim (cases_lt i n) [
      | inl under ↦ (i, v, under, at_v, names)
      | inr over ↦
          let same : i ≡ n = omega (arith, less, over) in
          absurd (none offset (subst (λ (t : Top). Names t offset) (at_one tops n v u (subst (λ (k : ℕ). At tops k v) same at_v) at) names))
    ]

abbrev NoChunkIndex : Top → Type 0
NoChunkIndex t = (f : ChunkIndexFields) → IsChunkIndex t f → ⊥

abbrev NoAttachmentIndex : Top → Type 0
NoAttachmentIndex t = (f : AttachmentIndexFields) → IsAttachmentIndex t f → ⊥

abbrev NoMetadataIndex : Top → Type 0
NoMetadataIndex t = (offset size : ℕ) (name : List ℕ) → IsMetadataIndex t offset size name → ⊥

module _ (all : List Top) (n : ℕ) (t : Top) (at : At all n t) where
  chunks_next : (chunks : Chunks) → ChunksNamed all n chunks → NoChunkIndex t → ChunksNamed all (suc n) chunks
  chunks_next chunks named none = unnamed_next IndexesChunk all n t chunks.spots named at (λ o b. none b.0 b.1)

  attachments_next : (attachments : Attachments) → AttachmentsNamed all n attachments → NoAttachmentIndex t → AttachmentsNamed all (suc n) attachments
  attachments_next attachments named none = unnamed_next IndexesAttachment all n t attachments.spots named at (λ o b. none b.0 b.1)

  metadata_next : (metadata : MetadataList) → MetadataNamed all n metadata → NoMetadataIndex t → MetadataNamed all (suc n) metadata
  metadata_next metadata named none = unnamed_next IndexesMetadata all n t metadata.spots named at (λ o b. none o b.0 b.1 b.2)

  pub told_other : (chunks : Chunks) (attachments : Attachments) (metadata : MetadataList) → ToldOf all n chunks attachments metadata → NoChunkIndex t → NoAttachmentIndex t → NoMetadataIndex t → IndexTaken all n t chunks attachments metadata None
  told_other chunks attachments metadata was no_chunk no_attachment no_metadata = (
    λ f is. absurd (no_chunk f is),
    (λ f is. absurd (no_attachment f is), λ offset size name is. absurd (no_metadata offset size name is)),
    record {
      chunks = was.chunks;
      chunks_named = chunks_next chunks was.chunks_named no_chunk;
      attachments = was.attachments;
      attachments_named = attachments_next attachments was.attachments_named no_attachment;
      metadata = was.metadata;
      metadata_named = metadata_next metadata was.metadata_named no_metadata;
    },
  )

  pub told_chunk : (old chunks : Chunks) (attachments : Attachments) (metadata : MetadataList) (f : ChunkIndexFields) → ToldOf all n old attachments metadata → IsChunkIndex t f → ChunkIndexIsRight all n f → ChunksOf all chunks → ChunksNamed all (suc n) chunks
      → IndexTaken all n t chunks attachments metadata None
  told_chunk old chunks attachments metadata f was is right kept named = (
    λ g other. subst (ChunkIndexIsRight all n) (chunk_index_once t f g is other) right,
    (λ g other. absurd (omega (arith, is.kind, other.kind)), λ offset size name other. absurd (omega (arith, is.kind, other.kind))),
    record {
      chunks = kept;
      chunks_named = named;
      attachments = was.attachments;
      attachments_named = attachments_next attachments was.attachments_named (λ g other. omega (arith, is.kind, other.kind));
      metadata = was.metadata;
      metadata_named = metadata_next metadata was.metadata_named (λ offset size name other. omega (arith, is.kind, other.kind));
    },
  )

  pub told_attachment : (chunks : Chunks) (old attachments : Attachments) (metadata : MetadataList) (f : AttachmentIndexFields) → ToldOf all n chunks old metadata → IsAttachmentIndex t f → AttachmentIndexIsRight all n f → AttachmentsOf all attachments → AttachmentsNamed all (suc n) attachments
      → IndexTaken all n t chunks attachments metadata None
  told_attachment chunks old attachments metadata f was is right kept named = (
    λ g other. absurd (omega (arith, is.kind, other.kind)),
    (λ g other. subst (AttachmentIndexIsRight all n) (attachment_index_once t f g is other) right, λ offset size name other. absurd (omega (arith, is.kind, other.kind))),
    record {
      chunks = was.chunks;
      chunks_named = chunks_next chunks was.chunks_named (λ g other. omega (arith, is.kind, other.kind));
      attachments = kept;
      attachments_named = named;
      metadata = was.metadata;
      metadata_named = metadata_next metadata was.metadata_named (λ offset size name other. omega (arith, is.kind, other.kind));
    },
  )

  pub told_metadata : (chunks : Chunks) (attachments : Attachments) (old metadata : MetadataList) (offset size : ℕ) (name : List ℕ) → ToldOf all n chunks attachments old → IsMetadataIndex t offset size name → MetadataIndexIsRight all n offset size name → MetadataOf all metadata → MetadataNamed all (suc n) metadata
      → IndexTaken all n t chunks attachments metadata None
  told_metadata chunks attachments old metadata offset size name was is right kept named = (
    λ g other. absurd (omega (arith, is.kind, other.kind)),
    (
      λ g other. absurd (omega (arith, is.kind, other.kind)),
      λ o s l other. subst (λ (f : MetadataIndexFields). MetadataIndexIsRight all n f.offset f.size f.name) (metadata_index_once t offset size name o s l is other) right,
    ),
    record {
      chunks = was.chunks;
      chunks_named = chunks_next chunks was.chunks_named (λ g other. omega (arith, is.kind, other.kind));
      attachments = was.attachments;
      attachments_named = attachments_next attachments was.attachments_named (λ g other. omega (arith, is.kind, other.kind));
      metadata = kept;
      metadata_named = named;
    },
  )
