-- The records that an index can repeat.
use Rattle.std.specs.Prelude.{◌≡◌, ℕ, List, length, false}
use Rattle.mcap_model.specs.Places.{Each}
use Rattle.mcap_model.specs.Tops.{Top}
use Rattle.mcap_model.specs.Whole.{count_of}
use Rattle.index_check.specs.declared.spots.Spot.{Spot}
use Rattle.index_check.specs.Chunks.{ChunksOf}
use Rattle.index_check.specs.Extras.{AttachmentsOf, MetadataOf}
use Rattle.file_check.specs.declared.indexed_records.IndexedRecords.{IndexedRecords}

-- there is one for each record of that opcode, and none is named
pub record AreFresh (op : ℕ) (tops : List Top) (spots : List Spot) : Type 0 where
  pub many : length spots ≡ count_of op tops
  pub unnamed : Each (λ s. s.named ≡ false) spots

-- all of these records that an index can repeat are kept, and none has an index
pub record IndexedOf (tops : List Top) (kept : IndexedRecords) : Type 0 where
  pub chunks : ChunksOf tops kept.chunks
  pub attachments : AttachmentsOf tops kept.attachments
  pub metadata : MetadataOf tops kept.metadata
  pub fresh_chunks : AreFresh 6 tops kept.chunks.spots
  pub fresh_attachments : AreFresh 9 tops kept.attachments.spots
  pub fresh_metadata : AreFresh 12 tops kept.metadata.spots
