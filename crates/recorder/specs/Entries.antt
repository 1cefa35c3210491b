-- That the entries of what was recorded follow one another.
use Rattle.std.specs.Prelude.{◌≡◌, ◌↔◌, ℕ, ◌≤◌, List, [], ◌∷◌, ◌++◌, length, Option, Some}
use Rattle.std.specs.List.{AllZip}
use Rattle.mcap_wire.specs.Limits.{chunk_size_limit, file_limit}
use Rattle.rec_data.specs.declared.owned.Rec.{Rec}
use Rattle.mcap_model.specs.declared.options.FileOptions.{FileOptions}
use Rattle.mcap_model.specs.Places.{Each}
use Rattle.mcap_model.specs.Tops.{Top}
use Rattle.mcap_model.specs.Kept.{reading_limits, Kept}
use Rattle.mcap_model.specs.Scan.{Seen, Scan}
use Rattle.mcap_model.specs.History.{Numbered}
use Rattle.mcap_model.specs.Blocks.{Piece, block_bytes, pieces_of, pieces_bytes}
use Rattle.mcap_model.specs.File.{front, blocks_from}
use Rattle.record_cache.specs.KeptRecords.{IsKept}
use Rattle.live_entry.specs.declared.entry.Entry.{Entry}
use Rattle.live_entry.specs.Entries.{SeenExtents, IsEntry, EntriesFollow}
use Rattle.live_entry.specs.Following.{Stored, Stretch, Follow, ScanStored, IsStored}
use Rattle.chunk_writer.specs.Scribes.{sure_blocks, GivesEntries, GivesLast}
use Rattle.recorder.specs.Recorded.{AreReadable}

-- an entry has the numbers of the block of these records, which stands at that offset, and where its extent tells, it
-- tells the block's bytes
pub record IsEntryThere {X : Type 0} (tells : X → Option (List ℕ)) (b : ℕ × List Rec) (e : Entry X) : Type 0 where
  pub numbers : IsEntry e b.0 b.1
  pub only : (bytes : List ℕ) → tells e.extent ≡ Some bytes → bytes ≡ block_bytes b.1

-- the first pieces of a history's file, which end within the limit of a file
pub record AreFirst (options : FileOptions) (history : List Rec) (pieces : List Piece) : Type 0 where
  pub more : List Piece
  pub first : pieces_of options.chunk options.span history ≡ pieces ++ more
  pub within : length (front options.profile ++ pieces_bytes pieces) ≤ file_limit

-- Where chunks are asked for and the records of a history are numbered and were kept, the entries of its first blocks
-- follow one another.
abbrev pub RecordedEntriesFollow : {X : Type 0} → (X → Option (List ℕ)) → Type 0
RecordedEntriesFollow {X} tells = (options : FileOptions) (size : ℕ) (history : List Rec) (pieces : List Piece)
    (entries : List (Entry X)) → options.chunk ≡ Some size → (1 ≤ size) × (size ≤ chunk_size_limit) → Numbered history
    → Each IsKept history → AreFirst options history pieces
    → AllZip (IsEntryThere tells) (blocks_from (length (front options.profile)) pieces) entries
    → EntriesFollow tells entries

-- what is kept of these bytes has the messages of what is stored, at the same places and with the same topics
pub record IsToldOf (bytes : List ℕ) (stored : List Stored) (stretches : List Stretch) : Type 0 where
  pub tops : List Top
  pub kept : Kept reading_limits bytes tops
  pub scan : (messages : List Seen) → Scan tops messages ↔ ScanStored stored stretches messages

-- Where the extents of such entries tell, the messages of what they tell are those of the file's front that ends with
-- their blocks.
abbrev pub FrontsAreTold : {X : Type 0} → (X → Option (List ℕ)) → Type 0
FrontsAreTold {X} tells = (options : FileOptions) (size : ℕ) (history : List Rec) (pieces : List Piece)
    (entries : List (Entry X)) → AreReadable options → options.chunk ≡ Some size → Numbered history
    → Each IsKept history → AreFirst options history pieces
    → AllZip (IsEntryThere tells) (blocks_from (length (front options.profile)) pieces) entries → (stored : List Stored)
    → AllZip (IsStored tells) entries stored → (stretches : List Stretch) → Follow stored stretches
    → IsToldOf (front options.profile ++ pieces_bytes pieces) stored stretches

-- what is seen of the extents of a store that held this
abbrev pub seen_at : {X : Type 0} → (X → Option (List ℕ)) → (X → ℕ) → Option (List ℕ) → SeenExtents X
seen_at tells size held = record { tells = tells; size = size; held = held }

-- The entries that a Scribe gives, one call after another, are those of the blocks of its history: before any call there
-- are none, those of a call stand behind those before it, and the last one is that of the last block.
pub record EntriesAreGathered {X : Type 0} (tells : X → Option (List ℕ)) (size : X → ℕ) : Type 0 where
  pub none : (options : FileOptions) → AllZip (IsEntryThere tells) (sure_blocks options []) []
  pub more : (options : FileOptions) (history records : List Rec) (held : Option (List ℕ))
      (entries given : List (Entry X)) → AllZip (IsEntryThere tells) (sure_blocks options history) entries
      → GivesEntries (seen_at tells size held) options history records given
      → AllZip (IsEntryThere tells) (sure_blocks options (history ++ records)) (entries ++ given)
  pub last : (options : FileOptions) (history : List Rec) (held : Option (List ℕ)) (entries : List (Entry X))
      (given : Entry X) → AllZip (IsEntryThere tells) (sure_blocks options history) entries
      → GivesLast (seen_at tells size held) options history (Some given)
      → AllZip (IsEntryThere tells)
      (blocks_from (length (front options.profile)) (pieces_of options.chunk options.span history))
      (entries ++ given ∷ [])
