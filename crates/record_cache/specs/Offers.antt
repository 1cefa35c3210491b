-- What a buffer answers.
use Rattle.std.specs.Prelude.{◌≡◌, ℕ, ◌<◌, ◌≤◌, suc, List, length, take, slice_get, Result, Ok, Err, Some}
use Rattle.rec_data.specs.declared.owned.Rec.{Rec}
use Rattle.rec_data.specs.declared.owned.Rec.TheVariants.{Schema, Channel, Message}
use Rattle.rec_data.specs.Owned.{rec_bytes}
use Rattle.mcap_model.specs.History.{history_bytes}
use Rattle.record_cache.specs.declared.records.RecRef.{RecRef}
use Rattle.record_cache.specs.declared.records.RecRef.TheVariants as refs
use Rattle.record_cache.specs.declared.cache.Full.{Full}
use Rattle.record_cache.specs.Buffers.{Buffer, held, with_records}

-- the record that is borrowed
abbrev pub rec_of : RecRef → Rec
rec_of (refs.Schema s) = Schema s.id (record { name = s.name.now; encoding = s.encoding.now; payload = s.payload.now })
rec_of (refs.Channel c) = Channel c.id c.schema_id c.topic.now c.message_encoding.now c.metadata
rec_of (refs.Message m) = Message m.channel_id m.sequence m.log_time m.publish_time m.payload.now

-- Records are added where the buffer isn't full; else nothing changes.
abbrev pub Offered : Buffer → List Rec → Result (Unit {0}) Full → Buffer → Type 0
Offered b records (Ok done) after = (held b < b.limit) × (after ≡ with_records b records)
Offered b records (Err full) after = (b.limit ≤ held b) × (full.held ≡ held b) × (after ≡ b)

-- a record begins there
abbrev pub StartsAt : List Rec → ℕ → Type 0
StartsAt records at = (n : ℕ) × (n < length records) × (at ≡ length (history_bytes (take n records)))

-- the n-th record, its bytes, and where the next one begins
pub record StandsThere (records : List Rec) (n : ℕ) (framed : List ℕ) (next : ℕ) : Type 0 where
  pub rec : Rec
  pub stands : slice_get records n ≡ Some rec
  pub bytes : framed ≡ rec_bytes rec
  pub behind : next ≡ length (history_bytes (take (suc n) records))

abbrev pub RecordAt : List Rec → ℕ → List ℕ → ℕ → Type 0
RecordAt records at framed next =
    (n : ℕ) → n < length records → at ≡ length (history_bytes (take n records)) → StandsThere records n framed next

-- the n-th record, read back, and where the next one begins
pub record IsNth (records : List Rec) (n : ℕ) (rec : Rec) (next : ℕ) : Type 0 where
  pub stands : slice_get records n ≡ Some rec
  pub behind : next ≡ length (history_bytes (take (suc n) records))

abbrev pub OwnedAt : List Rec → ℕ → Rec → ℕ → Type 0
OwnedAt records at rec next =
    (n : ℕ) → n < length records → at ≡ length (history_bytes (take n records)) → IsNth records n rec next
