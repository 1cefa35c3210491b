-- What the reading of a data section comes to.
use Rattle.std.specs.Prelude.{◌≡◌, ℕ, List, Result, Ok, Err}
use Rattle.mcap_io.specs.Outside.{SourceState}
use Rattle.mcap_model.specs.declared.refusals.ReadingRefused.{ReadingRefused}
use Rattle.mcap_model.specs.declared.tables.Tables.{Tables}
use Rattle.mcap_model.specs.Tops.{Top, flat, offset_behind}
use Rattle.mcap_model.specs.Declarations.{TablesOf}
use Rattle.mcap_model.specs.Rules.{HasDataEnd}
use Rattle.mcap_model.specs.Kept.{reading_limits, Good}
use Rattle.mcap_model.specs.Whole.{V9}
use Rattle.mcap_model.specs.Valid.{Keeps}
use Rattle.mcap_model.specs.declared.rules.Rule.TheVariants as rules
use Rattle.mcap_scan.specs.Sources.{ReadFromFront}
use Rattle.mcap_scan.specs.RefusedReadings.{RefusalStands}
use Rattle.index_check.specs.declared.section.Section.{Section}
use Rattle.index_check.specs.Section.{SectionOf}
use Rattle.file_check.specs.declared.flaws.FailedRule.{FailedRule}
use Rattle.file_check.specs.declared.gathering.Gathering.{Gathering}
use Rattle.file_check.specs.Gathering.{GatheredOf}
use Rattle.file_check.specs.CutFiles.{IndexFails}

-- the records up to and with the Data End were taken, with these declarations, and this is the offset behind them
pub record IsTakenToEnd (tops : List Top) (g : Gathering) (tables : Tables) (behind : ℕ) : Type 0 where
  pub good : Good reading_limits tops
  pub ended : HasDataEnd tops
  pub gathered : GatheredOf tops g
  pub tables_are : TablesOf (flat tops) tables
  pub behind_is : behind ≡ offset_behind tops

-- these records, which are good, were read, and nothing behind them; the source didn't fail
pub record HasReadGood (before now : SourceState) (tops : List Top) : Type 0 where
  pub still : now.faults ≡ before.faults
  pub good : Good reading_limits tops
  pub read : ReadFromFront before now tops

-- the records of a data section were read, up to and with its Data End; they keep V9, and this was kept of them
pub record SectionIsRead (before now : SourceState) (tops : List Top) (section : Section) : Type 0 where
  pub are_read : HasReadGood before now tops
  pub ended : HasDataEnd tops
  pub v9 : Keeps V9 tops
  pub kept : SectionOf tops section

-- some records were read, and one of them breaks V9 at that offset
pub record IndexIsWrong (before now : SourceState) (tops : List Top) (failed : FailedRule) : Type 0 where
  pub are_read : HasReadGood before now tops
  pub fails : IndexFails tops failed.offset
  pub rule_is : failed.rule ≡ rules.V9

-- the section was read; or V9 fails in it; or the reading of its records was refused
abbrev pub ReadsSection : SourceState → SourceState → Result (Result Section FailedRule) ReadingRefused → Type 0
ReadsSection before now (Ok (Ok section)) = (tops : List Top) × SectionIsRead before now tops section
ReadsSection before now (Ok (Err failed)) = (tops : List Top) × IndexIsWrong before now tops failed
ReadsSection before now (Err why) = (tops : List Top) × RefusalStands why before now tops
