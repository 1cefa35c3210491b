-- A data section that a file begins with, and what was kept of it.
use Rattle.mcap_model.specs.Tops.{Top}
use Rattle.std.specs.Prelude.{List}
use Rattle.mcap_model.specs.Rules.{HasDataEnd}
use Rattle.mcap_model.specs.Kept.{reading_limits, Good}
use Rattle.mcap_model.specs.Valid.{Keeps}
use Rattle.mcap_model.specs.Whole.{V9}
use Rattle.index_check.specs.declared.section.Section.{Section}
use Rattle.index_check.specs.Section.{SectionOf}

-- the records up to the Data End are right by themselves, and this was kept of them
pub record IsSectioned (tops : List Top) (section : Section) : Type 0 where
  pub kept : SectionOf tops section
  pub good : Good reading_limits tops
  pub v9 : Keeps V9 tops
  pub ended : HasDataEnd tops
