-- The open chunk as it lies in memory.
use Rattle.std.specs.Prelude.{◌≡◌, ◌⊎◌, ℕ, ◌+◌, ◌*◌, ◌-◌, ◌<◌, ◌≤◌, [], length, drop, min, max, Bool, true, false, ◌==◌, ◌&&◌, nat_lt, nat_le, if◌then◌else◌, Option, Some, None, vec_capacity}
use Rattle.mcap_wire.specs.Writing.{HasRoom}
use Rattle.chunk_build.specs.declared.building.Building.{Building}
use Rattle.chunk_build.specs.declared.building.Mark.{Mark}
use Rattle.chunk_build.specs.declared.building.Ready.{Ready}
use Rattle.chunk_build.specs.declared.building.Closing.{Closing}
use Rattle.chunk_build.specs.declared.row.Rows.{Rows}
use Rattle.chunk_build.specs.Rows.{rows_in, RowsSound, IsRowReady, rows_size}
use Rattle.rec_data.specs.declared.owned.Rec.{Rec}
use Rattle.rec_data.specs.declared.owned.Rec.TheVariants.{Schema, Channel, Message, Extra}
use Rattle.mcap_model.specs.declared.block.Block.{Block}
use Rattle.chunk_build.specs.Opened.{Opened, chunk_of_records, with_indexed_message, with_declaration, IsBuilt}

-- what it holds: its records stand behind the room for the chunk's head
abbrev pub chunk_in_memory : Building → Opened
chunk_in_memory chunk = record {
  bytes = drop 49 chunk.bytes.items;
  rows = rows_in chunk.rows.list.items;
  start = chunk.start;
  end = chunk.end;
  messages = chunk.messages;
  declared = chunk.declared;
}

-- its rows are in order and those in use known, the size of their Message Indexes is counted, and its numbers are small
pub record IsSound (chunk : Building) : Type 0 where
  pub rows : RowsSound chunk.rows
  pub index : chunk.index ≡ rows_size (rows_in chunk.rows.list.items)
  pub few : chunk.index ≤ 31 * chunk.messages
  pub long : 31 * chunk.messages + chunk.declared ≤ length (drop 49 chunk.bytes.items)

-- what a record is logged as, if it is a message
abbrev pub mark_of : Rec → Option Mark
mark_of (Schema id schema) = None
mark_of (Channel id schema topic encoding metadata) = None
mark_of (Message channel sequence log_time publish_time payload) = Some (record { channel = channel; time = log_time })
mark_of (Extra op content) = None

-- a record is counted whose bytes stand at the end already
abbrev pub record_counted : Opened → ℕ → Option Mark → Opened
record_counted o offset None = with_declaration o
record_counted o offset (Some mark) = with_indexed_message o offset mark.channel mark.time

-- a record is long enough for what it is
abbrev pub IsLong : ℕ → Option Mark → Type 0
IsLong len None = 1 ≤ len
IsLong len (Some mark) = 31 ≤ len

-- it stands behind that offset
abbrev pub StandsBehind : ℕ → ℕ → Option Mark → Type 0
StandsBehind offset size None = offset + 1 ≤ size
StandsBehind offset size (Some mark) = offset + 31 ≤ size

abbrev pub RowReady : Rows → Option Mark → ℕ → Type 0
RowReady rows None row = Unit {0}
RowReady rows (Some mark) row = IsRowReady rows row mark.channel

-- what is needed to close a chunk behind so many messages more
pub record CanClose (chunk : Building) (more : ℕ) (closing : Closing) : Type 0 where
  pub head : HasRoom closing.head 49
  pub empty : closing.head.items ≡ []
  pub none : closing.parts.items ≡ []
  pub parts : length chunk.rows.used.items + more ≤ vec_capacity closing.parts

-- with such a record more the log times are so far apart
abbrev pub spans_with : Option ℕ → Opened → Option Mark → Bool
spans_with None o mark = false
spans_with (Some span) o None = false
spans_with (Some span) o (Some mark) =
    nat_le span (max o.end mark.time - (if o.messages == 0 then mark.time else min o.start mark.time))

-- they are so far apart, and there is a message
abbrev pub spans_open : Option ℕ → Opened → Bool
spans_open None o = false
spans_open (Some span) o = nat_lt 0 o.messages && nat_le span (o.end - o.start)

-- the chunk stays open behind such a record of so many bytes
pub record StaysOpen (size : ℕ) (span : Option ℕ) (len : ℕ) (mark : Option Mark) (o : Opened) : Type 0 where
  pub short : length o.bytes + len < size
  pub near : spans_with span o mark ≡ false

-- it doesn't
abbrev pub IsOver : ℕ → Option ℕ → ℕ → Option Mark → Opened → Type 0
IsOver size span len mark o = (size ≤ length o.bytes + len) ⊎ (spans_with span o mark ≡ true)

-- With such a record more the chunk stays open, or it can be closed. An entry more takes at most 31 bytes in the Message
-- Indexes.
abbrev pub ClosingReady : ℕ → Option ℕ → ℕ → Option Mark → Building → Option Closing → Type 0
ClosingReady size span len mark chunk None =
    StaysOpen size span len mark (chunk_in_memory chunk) × HasRoom chunk.bytes len
ClosingReady size span len mark chunk (Some closing) = IsOver size span len mark (chunk_in_memory chunk)
    × HasRoom chunk.bytes (len + (chunk.index + 31)) × CanClose chunk 1 closing

-- a record of so many bytes can be put with no refusal
pub record IsReady (size : ℕ) (span : Option ℕ) (len : ℕ) (mark : Option Mark) (chunk : Building) (ready : Ready)
    : Type 0 where
  pub begun : 49 ≤ length chunk.bytes.items
  pub row : RowReady chunk.rows mark ready.row
  pub closing : ClosingReady size span len mark chunk ready.closing

-- an entry more takes at most 31 bytes in the Message Indexes
abbrev pub CanCloseBy : Building → Option Closing → Type 0
CanCloseBy chunk None = Unit {0}
CanCloseBy chunk (Some closing) = HasRoom chunk.bytes (chunk.index + 31) × CanClose chunk 1 closing

-- what is left open, or the block that was closed
abbrev pub Settles : Opened → Option Closing → Option Block → Opened → Type 0
Settles o None None after = after ≡ o
Settles o None (Some b) after = ⊥
Settles o (Some closing) None after = ⊥
Settles o (Some closing) (Some b) after = IsBuilt o b × (after ≡ chunk_of_records [])
