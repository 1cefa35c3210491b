-- A file whose records keep all rules, and what is known of it.
use Rattle.std.specs.Prelude.{◌≡◌, ◌↔◌, ◌+◌, ◌++◌, ℕ, Bool, List, length, None, true}
use Rattle.mcap_wire.specs.declared.faults.Cut.{Cut}
use Rattle.rec_data.specs.Records.{footer_opcode}
use Rattle.mcap_model.specs.Places.{Each}
use Rattle.mcap_model.specs.Plain.{cut_top}
use Rattle.mcap_model.specs.Tops.{Top, spelled}
use Rattle.mcap_model.specs.Valid.{Valid, FullyIndexed}
use Rattle.index_check.specs.Chunks.{HasMessage}
use Rattle.index_check.specs.Tally.{TallyOf}
use Rattle.summary_read.specs.PartSteps.{cut_tops}
use Rattle.summary_read.specs.Steps.{Judged}
use Rattle.summary_check.specs.Laid.{EndsWithDataEnd, IsFrontRecord}
use Rattle.index_check.specs.declared.section.Section.{Section}
use Rattle.summary_check.specs.Files.{spelled_file}
use Rattle.summary_check.specs.Filed.{records_of}
use Rattle.summary_check.specs.Told.{ToldOf}

-- the file of this data section and of these records is valid, and this is known of it
pub record KnownOf (tops : List Top) (bytes : List ℕ) (cuts : List Cut) (foot : Cut) (known : Section) : Type 0 where
  pub valid : Valid (spelled_file tops bytes) (records_of tops bytes cuts foot)
  pub told : ToldOf (records_of tops bytes cuts foot) (length tops + length (cut_tops bytes cuts)) known.chunks
      known.attachments known.metadata
  pub ended : EndsWithDataEnd tops
  pub kinds : Each IsFrontRecord tops
  pub judged : Each (λ t. Judged t None) (cut_tops bytes cuts)
  pub foot_is : (cut_top bytes foot).op ≡ footer_opcode
  pub tally : TallyOf (records_of tops bytes cuts foot) ended.section known.tally
  pub at_top : (known.has_messages ≡ true) ↔ HasMessage tops

-- The bytes are records, with which the file of this data section is valid, and fully indexed where that is told.
pub record IsJudged (tops : List Top) (bytes : List ℕ) (indexed : Bool) : Type 0 where
  pub behind : List Top
  pub split : bytes ≡ spelled behind
  pub valid : Valid (spelled_file tops bytes) (tops ++ behind)
  pub full : (indexed ≡ true) ↔ FullyIndexed (spelled_file tops bytes) (tops ++ behind)
