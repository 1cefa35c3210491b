-- The records of a buffer as pieces, and what it comes to when they are appended.
use Rattle.std.specs.Prelude.{◌≡◌, ℕ, suc, List, ◌∷◌, ◌++◌, length, map, take, Option, Err}
use Rattle.rec_data.specs.declared.owned.Rec.{Rec}
use Rattle.rec_data.specs.Owned.{rec_bytes}
use Rattle.mcap_io.specs.Outside.{Adds}
use Rattle.mcap_model.specs.declared.ends.Stop.{Stop}
use Rattle.mcap_model.specs.History.{history_bytes}
use Rattle.chunk_writer.specs.StopSteps.{Added}

abbrev pub framed_each : List Rec → List (List ℕ)
framed_each records = map rec_bytes records

-- the last of some records begins there
pub record BeginsLast (records : List Rec) (at : ℕ) : Type 0 where
  pub before : ℕ
  pub all : suc before ≡ length records
  pub place : at ≡ length (history_bytes (take before records))

-- Records that stand at top level were appended up to one that was refused, which begins at that offset of their bytes.
pub record AppendRefusedAt (old now : Option (List ℕ)) (records : List Rec) (at : ℕ) (stop : Stop) : Type 0 where
  pub before : List Rec
  pub rec : Rec
  pub behind : List Rec
  pub cut : records ≡ before ++ rec ∷ behind
  pub place : at ≡ length (history_bytes before)
  pub between : Option (List ℕ)
  pub front : Adds old between (history_bytes before)
  pub added : Added between now (rec_bytes rec) (Err stop)
