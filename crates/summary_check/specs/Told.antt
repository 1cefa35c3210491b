-- What the indexes of a summary tell of, and what they have named.
use Rattle.std.specs.Prelude.{◌≡◌, ◌⊎◌, ℕ, suc, ◌+◌, List, length, Option, Some, None}
use Rattle.mcap_model.specs.Places.{At}
use Rattle.mcap_model.specs.Tops.{Top}
use Rattle.mcap_model.specs.Whole.{V12, V13}
use Rattle.mcap_model.specs.declared.rules.Rule.TheVariants as rules
use Rattle.mcap_model.specs.declared.rules.Rule.{Rule}
use Rattle.index_check.specs.Chunks.{ChunksOf, ChunksNamed}
use Rattle.index_check.specs.Extras.{AttachmentsOf, AttachmentsNamed, MetadataOf, MetadataNamed}
use Rattle.index_check.specs.declared.chunk_indexes.Chunks.{Chunks}
use Rattle.index_check.specs.declared.extras.Attachments.{Attachments}
use Rattle.index_check.specs.declared.extras.MetadataList.{MetadataList}

-- this is kept of a file, and the indexes in front of that place have named what is marked
pub record ToldOf (all : List Top) (n : ℕ) (kept_chunks : Chunks) (kept_attachments : Attachments)
    (kept_metadata : MetadataList) : Type 0 where
  pub chunks : ChunksOf all kept_chunks
  pub chunks_named : ChunksNamed all n kept_chunks
  pub attachments : AttachmentsOf all kept_attachments
  pub attachments_named : AttachmentsNamed all n kept_attachments
  pub metadata : MetadataOf all kept_metadata
  pub metadata_named : MetadataNamed all n kept_metadata

abbrev pub BreaksIndexing : List Top → ℕ → Top → Rule → Type 0
BreaksIndexing all n t rule = ((rule ≡ rules.V12) × (V12 all n t → ⊥)) ⊎ ((rule ≡ rules.V13) × (V13 all n t → ⊥))

abbrev pub IndexTaken : List Top → ℕ → Top → Chunks → Attachments → MetadataList → Option Rule → Type 0
IndexTaken all n t chunks attachments metadata None =
    V12 all n t × V13 all n t × ToldOf all (suc n) chunks attachments metadata
IndexTaken all n t chunks attachments metadata (Some rule) = BreaksIndexing all n t rule

-- the indexes among these records, from that place on, were taken; or one breaks that rule
abbrev pub IndexesTaken : List Top → ℕ → List Top → Chunks → Attachments → MetadataList → Option (ℕ × Rule) → Type 0
IndexesTaken all base body chunks attachments metadata None = ((k : ℕ) (t : Top) → At body k t → V12 all (base + k) t × V13 all (base + k) t)
    × ToldOf all (base + length body) chunks attachments metadata
IndexesTaken all base body chunks attachments metadata (Some found) =
    (t : Top) × At body found.0 t × BreaksIndexing all (base + found.0) t found.1
