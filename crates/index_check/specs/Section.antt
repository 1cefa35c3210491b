-- What is kept of a data section.
use Rattle.std.specs.Prelude.{◌≡◌, ◌↔◌, List, length, true}
use Rattle.mcap_model.specs.Tops.{Top, flat, offset_behind}
use Rattle.mcap_model.specs.Rules.{HasSchema, HasChannel}
use Rattle.mcap_model.specs.Declarations.{TablesOf}
use Rattle.mcap_model.specs.Whole.{IsSection, AreIds}
use Rattle.index_check.specs.declared.section.Section.{Section}
use Rattle.index_check.specs.Chunks.{HasMessage, ChunksOf, ChunksNamed}
use Rattle.index_check.specs.Extras.{AttachmentsOf, AttachmentsNamed, MetadataOf, MetadataNamed}
use Rattle.index_check.specs.Tally.{TallyOf}

-- This was kept of a data section, whose last record is its Data End. No record has an index yet.
pub record SectionOf (tops : List Top) (s : Section) : Type 0 where
  pub tables : TablesOf (flat tops) s.tables
  pub chunks : ChunksOf tops s.chunks
  pub chunks_unnamed : ChunksNamed tops (length tops) s.chunks
  pub attachments : AttachmentsOf tops s.attachments
  pub attachments_unnamed : AttachmentsNamed tops (length tops) s.attachments
  pub metadata : MetadataOf tops s.metadata
  pub metadata_unnamed : MetadataNamed tops (length tops) s.metadata
  pub section : List Top
  pub is : IsSection tops section
  pub tally : TallyOf tops section s.tally
  pub schemas : AreIds (HasSchema (flat tops)) s.schemas
  pub channels : AreIds (HasChannel (flat tops)) s.channels
  pub at_top : (s.has_messages ≡ true) ↔ HasMessage tops
  pub behind : s.behind ≡ offset_behind tops
