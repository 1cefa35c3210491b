-- The answers of a reading.
use Rattle.std.proofs.Common.{◌≡◌, List, [], inl, inr}
use Rattle.mcap_io.specs.Outside.{SourceState}
use Rattle.mcap_model.specs.Tops.{Top}
use Rattle.mcap_scan.specs.declared.reader.Reader.{Reader}
use Rattle.mcap_scan.specs.declared.reader.Stage.{Stage}
use Rattle.mcap_scan.specs.declared.reader.Stage.TheVariants as stages
use Rattle.mcap_scan.specs.Scanning.{Stands, StageStands, IsGoing, IsEnded}
use Rattle.mcap_scan.specs.RefusedReadings.{MemoryStands}
use Rattle.mcap_model.specs.declared.tables.Tables.{Tables}
use Rattle.std.specs.Prelude.{ℕ}
use Rattle.file_check.specs.Reading.{HasReadGood}

-- memory lacked behind the Data End
pub lacks_at_end : (tables : Tables) (offset : ℕ) (before now : SourceState) (tops : List Top) → IsEnded tables offset before now tops → MemoryStands before now tops
lacks_at_end tables offset before now tops was = record {
  still = was.still;
  good = was.good;
  leaves = λ bytes told. let r = was.read bytes told in inr (r.0, r.2, inl r.1);
}

pub read_to_end : (tables : Tables) (offset : ℕ) (before now : SourceState) (tops : List Top) → IsEnded tables offset before now tops → HasReadGood before now tops
read_to_end tables offset before now tops was = record { still = was.still; good = was.good; read = was.read }

pub read_so_far : (reader : Reader) (before now : SourceState) (tops : List Top) → (tops ≡ [] → ⊥) → IsGoing reader.stage → Stands reader before now tops → HasReadGood before now tops
read_so_far reader before now tops some = by reader.stage
  where
    by : (s : Stage) → IsGoing s → StageStands s reader.tables reader.offset before now tops → HasReadGood before now tops
    by stages.Fresh going was = absurd (some was.none)
    by stages.Inside going was = record { still = was.reading.still; good = was.reading.good; read = was.reading.read }
    by stages.Ended going was = record { still = was.still; good = was.good; read = was.read }
    by (stages.Stopped why) going was = absurd going
