-- What a buffer of records is to its callers.
use Rattle.std.specs.Prelude.{◌≡◌, ℕ, ◌+◌, ◌≤◌, List, ◌++◌, length, All}
use Rattle.byte_region.specs.Regions.{RegionView}
use Rattle.mcap_wire.specs.RecordingLimits.{buffer_limit}
use Rattle.mcap_wire.specs.Limits.{record_limit}
use Rattle.rec_data.specs.declared.owned.Rec.{Rec}
use Rattle.mcap_model.specs.History.{history_bytes}
use Rattle.record_cache.specs.Reading.{records_shown}
use Rattle.record_cache.specs.KeptRecords.{IsKept}

-- How many bytes a buffer may hold before it is full, and its records.
pub record Buffer : Type 0 where
  pub limit : ℕ
  pub records : List Rec

abbrev pub held : Buffer → ℕ
held b = length (history_bytes b.records)

abbrev pub with_records : Buffer → List Rec → Buffer
with_records b records = record b { records = b.records ++ records }

-- ---- how a buffer keeps its records

abbrev pub buffer_of : ℕ → List ℕ → Buffer
buffer_of limit framed = record { limit = limit; records = records_shown framed }

pub record IsBuffer (limit count : ℕ) (framed : List ℕ) : Type 0 where
  pub small : limit ≤ buffer_limit
  pub spelled : framed ≡ history_bytes (records_shown framed)
  pub kept : All IsKept (records_shown framed)
  pub counted : count ≡ length (records_shown framed)
  pub few : count ≤ length framed
  pub room : length framed ≤ limit + record_limit

-- Its region has the room for a record that begins below the limit.
pub record HasRecordRoom (limit count : ℕ) (region : RegionView) : Type 0 where
  pub buffer : IsBuffer limit count region.bytes
  pub reserved : region.room ≡ limit + record_limit
