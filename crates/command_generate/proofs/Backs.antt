-- What becomes of the file's name that is read back.
use Rattle.std.proofs.Common.{◌≡◌, ℕ, List, Ok, Err, refl}
use Rattle.mcap_io.specs.Outside.{WorldState}
use Rattle.mcap_io.specs.declared.outside.ObjectKind.TheVariants as kinds
use Rattle.mcap_io.specs.declared.outside.OutsideRefused.TheVariants as outside_refusals
use Rattle.mcap_model.specs.declared.refusals.ReadingRefused.{ReadingRefused}
use Rattle.command_generate.specs.declared.sums.Sums.{Sums}
use Rattle.command_base.specs.declared.file_reading.Reading.{Reading}
use Rattle.command_base.specs.declared.file_reading.Reading.TheVariants as readings
use Rattle.command_base.specs.OneFile.{failing}
use Rattle.command_base.specs.Readings.{IsSourceRead}
use Rattle.command_base.specs.ReadingSteps.{NameEnds}
use Rattle.command_generate.specs.Back.{Back, SumsComeTo, back_ending, NameReadBack}

-- whether a reading failed doesn't go by its text
fails_so : (feeds others : ℕ) (file : List ℕ) (reading : Reading Sums ReadingRefused) → back_ending others file reading ≡ failing → back_ending feeds file reading ≡ failing
fails_so feeds others file (readings.Unopened outside_refusals.Failed) e = refl
fails_so feeds others file (readings.Unopened outside_refusals.Memory) e = absurd cc
fails_so feeds others file (readings.Opened (Ok sums)) e = absurd cc
fails_so feeds others file (readings.Opened (Err why)) e = e

pub read_back : (feeds : ℕ) (file : List ℕ) (old new : WorldState) (back : Back) → NameEnds kinds.Source file old new (λ entries. IsSourceRead SumsComeTo file old entries back.reading) (back_ending feeds file back.reading) back.failed → NameReadBack file old new back
read_back feeds file old new back ends = record { entries = ends.entries; reading = ends.reading; name = ends.name; sure = λ others e. ends.sure (fails_so feeds others file back.reading e) }
