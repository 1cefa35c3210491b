-- Reading back the file that was recorded: what becomes of its name, and what the reading comes to.
use Rattle.std.specs.Prelude.{◌≡◌, ℕ, List, true, Result, Ok, Err}
use Rattle.mcap_io.specs.Outside.{SourceState, WorldState, Opening}
use Rattle.mcap_io.specs.declared.outside.ObjectKind.TheVariants as kinds
use Rattle.mcap_model.specs.Tops.{Top}
use Rattle.mcap_model.specs.declared.refusals.ReadingRefused.{ReadingRefused}
use Rattle.mcap_scan.specs.RefusedReadings.{RefusalStands}
use Rattle.command_generate.specs.declared.sums.Sums.{Sums}
use Rattle.command_generate.specs.SumReading.{SumsAll}
use Rattle.command_base.specs.declared.file_reading.Reading.{Reading}
use Rattle.command_base.specs.declared.file_reading.ReadName.{ReadName}
use Rattle.command_base.specs.OneFile.{Ending, failing, refusal_ending, NameRead}
use Rattle.command_base.specs.Readings.{ending_of, IsSourceRead}
use Rattle.command_generate.specs.Lines.{sums_line}

-- what became of the file's name
abbrev pub Back : Type 0
Back = ReadName Sums ReadingRefused

-- what the reading of a source came to
abbrev pub SumsComeTo : SourceState → SourceState → Result Sums ReadingRefused → Type 0
SumsComeTo before now (Ok sums) = SumsAll before now sums
SumsComeTo before now (Err why) = (tops : List Top) × RefusalStands why before now tops

-- how that ended
abbrev pub back_ending : ℕ → List ℕ → Reading Sums ReadingRefused → Ending
back_ending feeds file reading = ending_of (sums_line feeds) (refusal_ending file) reading

-- what became of the name; where the reading failed, a failure is told
pub record NameReadBack (file : List ℕ) (old new : WorldState) (back : Back) : Type 0 where
  pub entries : List Opening
  pub reading : IsSourceRead SumsComeTo file old entries back.reading
  pub name : NameRead kinds.Source file old new entries back.failed
  pub sure : (feeds : ℕ) → back_ending feeds file back.reading ≡ failing → back.failed ≡ true
