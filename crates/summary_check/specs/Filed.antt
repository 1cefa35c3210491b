-- A file of which all records are known, up to a Footer.
use Rattle.std.specs.Prelude.{◌≡◌, ◌+◌, ◌≤◌, ℕ, List, length}
use Rattle.mcap_wire.specs.declared.faults.Cut.{Cut}
use Rattle.mcap_model.specs.Places.{Each}
use Rattle.mcap_model.specs.Tops.{Top, spelled}
use Rattle.mcap_model.specs.Fields.{IsFooter}
use Rattle.mcap_model.specs.Whole.{IsWhole}
use Rattle.mcap_model.specs.Valid.{IsPlain}
use Rattle.mcap_model.specs.Plain.{cut_top}
use Rattle.summary_read.specs.PartSteps.{cut_tops}
use Rattle.summary_check.specs.Files.{spelled_file}
use Rattle.summary_check.specs.Laid.{all_of, Laid}

-- the records of the data section, those that were cut behind it, and the Footer
abbrev pub records_of : List Top → List ℕ → List Cut → Cut → List Top
records_of tops bytes cuts foot = all_of tops (cut_tops bytes cuts) (cut_top bytes foot)

-- the file of a data section without compression is these records and a Footer
pub record Filed (tops : List Top) (bytes : List ℕ) (cuts : List Cut) (foot : Cut) (start : ℕ) : Type 0 where
  pub laid : Laid tops bytes cuts start
  pub whole : IsWhole (spelled_file tops bytes) (records_of tops bytes cuts foot)
  pub plain : Each IsPlain tops
  pub begins : foot.from ≤ foot.to
  pub ends : foot.to ≤ length bytes
  pub placed : foot.from ≡ length (spelled (cut_tops bytes cuts)) + 9
  pub footer : (summary offsets crc : ℕ) × IsFooter (cut_top bytes foot) summary offsets crc
