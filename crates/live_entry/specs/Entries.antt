-- What an entry has of its block, and what its extent tells.
use Rattle.std.specs.Prelude.{◌≡◌, ℕ, List, length, Option, Some, filter, not}
use Rattle.rec_data.specs.declared.owned.Rec.{Rec}
use Rattle.mcap_io.specs.Outside.{LiveState}
use Rattle.mcap_model.specs.Blocks.{block_bytes, chunk_bytes, least, greatest, log_times, logged}
use Rattle.mcap_model.specs.Built.{declarations}
use Rattle.live_entry.specs.declared.entry.Entry.{Entry}
use Rattle.std.specs.List.{AllZip}
use Rattle.mcap_model.specs.Tops.{top_bytes, inner_tops, is_flat_kind}
use Rattle.mcap_model.specs.Fields.{ChunkFields, IsChunk}
use Rattle.mcap_model.specs.Scan.{is_message_top}
use Rattle.live_entry.specs.Following.{Stored, Stretch, Follow, IsStored}

-- an entry has the numbers of the block of these records, which stands at that offset
pub record IsEntry {X : Type 0} (e : Entry X) (offset : ℕ) (records : List Rec) : Type 0 where
  pub offset_is : e.offset ≡ offset
  pub chunk : e.chunk_length ≡ length (chunk_bytes records)
  pub start : e.start_time ≡ least (log_times records)
  pub end : e.end_time ≡ greatest (log_times records)
  pub counted : e.messages ≡ length (logged records)
  pub declaring : e.declared ≡ length (declarations records)

-- What an extent tells is the piece, where its store told what it held before; and where it tells, that is all that it tells.
pub record TellsPiece (told held : Option (List ℕ)) (piece : List ℕ) : Type 0 where
  pub there : (before : List ℕ) → held ≡ Some before → told ≡ Some piece
  pub only : (bytes : List ℕ) → told ≡ Some bytes → bytes ≡ piece

-- what is seen of the extents of a store, their bytes and their size, and what the store held before a call
pub record SeenExtents (X : Type 0) : Type 0 where
  pub tells : X → Option (List ℕ)
  pub size : X → ℕ
  pub held : Option (List ℕ)

abbrev pub seen_before : {X : Type 0} → (X → Option (List ℕ)) → (X → ℕ) → LiveState → SeenExtents X
seen_before tells size store = record { tells = tells; size = size; held = store.held }

-- its extent is as long as the block, and tells the block's bytes where the store told what it held, and nothing else
pub record HasBlockExtent {X : Type 0} (seen : SeenExtents X) (e : Entry X) (offset : ℕ) (records : List Rec)
    : Type 0 where
  pub numbers : IsEntry e offset records
  pub long : seen.size e.extent ≡ length (block_bytes records)
  pub told : TellsPiece (seen.tells e.extent) seen.held (block_bytes records)

-- ---- entries and blocks that follow one another

-- an entry has the numbers of a block
pub record HasNumbers {X : Type 0} (e : Entry X) (s : Stretch) : Type 0 where
  pub chunk_length : e.chunk_length ≡ length (top_bytes s.chunk)
  pub times : (f : ChunkFields) → IsChunk s.chunk f → (e.start_time ≡ f.start) × (e.end_time ≡ f.end)
  pub messages : e.messages ≡ length (filter is_message_top (inner_tops s.chunk))
  pub declared : e.declared ≡ length (filter (λ t. not (is_message_top t)) (filter is_flat_kind (inner_tops s.chunk)))

-- Where the extents of these entries tell, their bytes follow one another, and each entry has the numbers of its block.
abbrev pub EntriesFollow : {X : Type 0} → (X → Option (List ℕ)) → List (Entry X) → Type 0
EntriesFollow tells entries = (stored : List Stored) → AllZip (IsStored tells) entries stored
    → (stretches : List Stretch) × Follow stored stretches × AllZip HasNumbers entries stretches
