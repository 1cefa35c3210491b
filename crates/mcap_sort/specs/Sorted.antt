-- What sorting makes of a file.
use Rattle.std.specs.Prelude.{◌≡◌, ℕ, List, map, None}
use Rattle.rec_data.specs.declared.owned.Rec.{Rec}
use Rattle.mcap_model.specs.declared.replay.Range.{Range}
use Rattle.mcap_model.specs.Tops.{Top}
use Rattle.mcap_model.specs.Kept.{Kept, reading_limits}
use Rattle.mcap_model.specs.Scan.{Seen, Scan, Replay}
use Rattle.mcap_model.specs.History.{message_of}
use Rattle.mcap_model.specs.Repaired.{Repairs}
use Rattle.mcap_model.specs.Needed.{with_needs}

abbrev pub all_times : Range
all_times = record { start = 0; end = None }

-- a message of a scan as a record
abbrev pub message_seen : Seen → Rec
message_seen s = message_of s.channel s.message

-- What sorting makes of records: of what repairing makes of them the profile and the extras, and the messages of the replay of
-- all of them, by log time and place, each directly after what it needs of the history that doesn't stand before it.
pub record Sorts (tops : List Top) (profile : List ℕ) (extras : List Top) (written : List Rec) : Type 0 where
  pub history : List Rec
  pub repairs : Repairs tops profile extras history
  pub messages : List Seen
  pub scan : Scan tops messages
  pub shown : List Seen
  pub replay : Replay all_times None messages shown
  pub written_is : written ≡ with_needs history (map message_seen shown)

-- what it makes of some bytes: of the records that a reading of them keeps
pub record Sorted (bytes profile : List ℕ) (extras : List Top) (written : List Rec) : Type 0 where
  pub tops : List Top
  pub kept : Kept reading_limits bytes tops
  pub sorts : Sorts tops profile extras written
