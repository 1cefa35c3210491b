-- Which records a buffer may keep.
use Rattle.std.specs.Prelude.{◌≡◌, ◌≤◌, length, false}
use Rattle.mcap_wire.specs.Limits.{record_limit}
use Rattle.rec_data.specs.declared.owned.Rec.{Rec}
use Rattle.rec_data.specs.Owned.{rec_bytes, RecFits}
use Rattle.mcap_model.specs.History.{is_inner, rec_top}
use Rattle.mcap_model.specs.ReadBack.{IsExtra}

-- A record that a buffer may keep. An extra meets what an extra of a file has to meet.
pub record IsKept (r : Rec) : Type 0 where
  pub fits : RecFits r
  pub short : length (rec_bytes r) ≤ record_limit
  pub extra : is_inner r ≡ false → IsExtra (rec_top r)
