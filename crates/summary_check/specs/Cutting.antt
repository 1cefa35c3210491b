-- The records behind a Data End, cut one after the other.
use Rattle.std.specs.Prelude.{◌≡◌, ◌≢◌, ℕ, ◌+◌, ◌≤◌, List, ◌++◌, length, take, drop, Result, Ok, Err, Vec}
use Rattle.mcap_wire.specs.declared.faults.Cut.{Cut}
use Rattle.mcap_wire.specs.Layout.{content_limit}
use Rattle.mcap_wire.specs.Reading.{IsCut}
use Rattle.mcap_model.specs.Places.{At, Each}
use Rattle.mcap_model.specs.Tops.{Top, spelled, offset_behind}
use Rattle.mcap_model.specs.Whole.{AreShort}
use Rattle.summary_read.specs.PartSteps.{cut_tops, AreInside}
use Rattle.mcap_model.specs.declared.refusals.ReadingRefused.{ReadingRefused}
use Rattle.summary_check.specs.Files.{spelled_file, FailsThere}

-- a record was cut, or a file that has these bytes behind its first records is refused
abbrev pub CutJudged : List ℕ → ℕ → ℕ → Result Cut ReadingRefused → Type 0
CutJudged bytes at start (Ok c) = IsCut bytes at c
CutJudged bytes at start (Err why) = (tops : List Top) → AreShort tops → start + at ≡ offset_behind tops
    → FailsThere (spelled_file tops (drop at bytes)) why

-- each content stands behind the records in front of it and the head of its own
abbrev pub ArePlaced : List ℕ → List Cut → Type 0
ArePlaced bytes cuts = (k : ℕ) (c : Cut) → At cuts k c → c.from ≡ length (spelled (take k (cut_tops bytes cuts))) + 9

-- a record with a valid opcode, and a content within the limit
pub record IsRead (t : Top) : Type 0 where
  pub valid : t.op ≢ 0
  pub short : length t.content ≤ content_limit

-- so far these records were cut
pub record CutsBehindTo (bytes : List ℕ) (at : ℕ) (cuts : List Cut) : Type 0 where
  pub within : at ≤ length bytes
  pub split : bytes ≡ spelled (cut_tops bytes cuts) ++ drop at bytes
  pub there : at ≡ length (spelled (cut_tops bytes cuts))
  pub inside : AreInside bytes cuts
  pub placed : ArePlaced bytes cuts
  pub read : Each IsRead (cut_tops bytes cuts)

-- the bytes are just the records that were cut
pub record AreCutBehind (bytes : List ℕ) (cuts : List Cut) : Type 0 where
  pub split : bytes ≡ spelled (cut_tops bytes cuts)
  pub inside : AreInside bytes cuts
  pub placed : ArePlaced bytes cuts
  pub read : Each IsRead (cut_tops bytes cuts)

abbrev pub RecordsCut : {Y : Type 0} → List ℕ → ℕ → Result (Vec Cut Y) ReadingRefused → Type 0
RecordsCut bytes start (Ok cuts) = AreCutBehind bytes cuts.items
RecordsCut bytes start (Err why) =
    (tops : List Top) → AreShort tops → start ≡ offset_behind tops → FailsThere (spelled_file tops bytes) why
