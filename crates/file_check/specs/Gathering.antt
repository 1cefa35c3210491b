-- What is kept of the records of a data section so far.
use Rattle.std.specs.Prelude.{◌≡◌, ◌<◌, ℕ, List, Result, Ok, Err, Option, Some, None}
use Rattle.mcap_wire.specs.declared.faults.Memory.{Memory}
use Rattle.mcap_model.specs.Places.{Each}
use Rattle.mcap_model.specs.Tops.{Top, Placed, flat, offset_behind}
use Rattle.mcap_model.specs.Declarations.{TablesOf}
use Rattle.mcap_model.specs.Whole.{IsSection}
use Rattle.index_check.specs.Tally.{TallyOf}
use Rattle.file_check.specs.declared.gathering.Gathering.{Gathering}
use Rattle.file_check.specs.declared.gathering.DataEnd.{DataEnd}
use Rattle.file_check.specs.declared.top_records.TopRecords.{TopRecords}
use Rattle.file_check.specs.RecordCounts.{CountsOf}
use Rattle.file_check.specs.Givens.{GivenTo, flat_given}
use Rattle.file_check.specs.CutFiles.{IndexFails}
use Rattle.file_check.specs.TopRecords.{TopsOf}

-- this is kept of the records
pub record GatheredOf (tops : List Top) (g : Gathering) : Type 0 where
  pub counts : CountsOf (flat tops) g.counts
  pub tops_are : TopsOf tops g.tops

-- this is kept of the records that were given in their places
pub record GatheredTo (given : List Placed) (g : Gathering) : Type 0 where
  pub tops : List Top
  pub last : GivenTo given tops g.at
  pub counts : CountsOf (flat_given given) g.counts
  pub tops_are : TopsOf tops g.tops

-- all records that an index can repeat stand in front of that offset
pub record StandBefore (kept : TopRecords) (offset : ℕ) : Type 0 where
  pub chunks : Each (λ s. s.offset < offset) kept.indexed.chunks.spots
  pub attachments : Each (λ s. s.offset < offset) kept.indexed.attachments.spots
  pub metadata : Each (λ s. s.offset < offset) kept.indexed.metadata.spots

-- the last of those that were given was taken; or one of these of the top level breaks V9 at that offset
abbrev pub RecordGathered : List Placed → List Top → Gathering → Result (Option ℕ) Memory → Type 0
RecordGathered given tops g (Ok None) = GatheredTo given g
RecordGathered given tops g (Ok (Some offset)) = IndexFails tops offset
RecordGathered given tops g (Err memory) = Unit {0}

-- this is known at the Data End of these records
pub record KnownAtDataEnd (tops : List Top) (end : DataEnd) : Type 0 where
  pub tables : TablesOf (flat tops) end.tables
  pub tally : (section : List Top) → IsSection tops section → TallyOf tops section end.tally
  pub behind : end.behind ≡ offset_behind tops
