-- Where a writer stopped, and what its store holds then.
use Rattle.std.specs.Prelude.{◌≡◌, ℕ, List, length, Option, Result, Ok, Err, ◌+◌, ◌-◌, ◌++◌, take, Some}
use Rattle.rec_data.specs.declared.owned.Rec.{Rec}
use Rattle.mcap_io.specs.Outside.{Adds, RisesOnce}
use Rattle.mcap_model.specs.declared.options.FileOptions.{FileOptions}
use Rattle.mcap_model.specs.declared.ends.Stop.{Stop}
use Rattle.mcap_model.specs.Blocks.{pieces_of, blocks_in}
use Rattle.mcap_model.specs.Tops.{Top}
use Rattle.mcap_model.specs.File.{file_of}
use Rattle.chunk_writer.specs.declared.tape.Written.{Written}
use Rattle.mcap_model.specs.declared.ends.Stop.TheVariants as stops
use Rattle.mcap_model.specs.Places.{At}
use Rattle.mcap_model.specs.Pieces.{file_pieces, pieces_before, StoppedAt}
use Rattle.chunk_writer.specs.Limits.{ContentsFit, FileHolds, StopWhy}

-- so many blocks and bytes
abbrev pub numbers : ℕ → ℕ → Written
numbers blocks bytes = record { blocks = blocks; bytes = bytes }

-- the blocks among the first pieces of a file; the front is the first of them
abbrev pub first_blocks : FileOptions → List Rec → ℕ → List (List Rec)
first_blocks options history pieces = blocks_in (take (pieces - 1) (pieces_of options.chunk options.span history))

-- how many these are
abbrev pub blocks_among : FileOptions → List Rec → ℕ → ℕ
blocks_among options history pieces = length (first_blocks options history pieces)

-- The writer of this history and these extras stopped at a piece of their file. So many blocks and bytes are written before
-- the piece, and where the store tells, these bytes, and of the piece no more than the store took of it in a failure, stand
-- behind what it held.
pub record StopsAt (options : FileOptions) (extras : List Top) (history : List Rec) (opened now : Option (List ℕ))
    (stop : Stop) (written : Written) : Type 0 where
  pub place : ℕ
  pub next : List ℕ
  pub at : At (file_pieces options extras history) place next
  pub blocks_are : written.blocks ≡ blocks_among options history place
  pub bytes_are : written.bytes ≡ length (pieces_before (file_pieces options extras history) place)
  pub why : StopWhy stop written.blocks written.bytes
      (FileHolds options.profile (first_blocks options history (place + 1)) (written.bytes + length next))
  pub took : (start : List ℕ) → opened ≡ Some start
      → (text : List ℕ) × (now ≡ Some (start ++ text))
      × StoppedAt (file_pieces options extras history) place stop text written.bytes

-- the count of a store rises by one where the writer stopped at a fault, which carries it, and stands still otherwise
abbrev pub StopCause : ℕ → ℕ → Stop → Type 0
StopCause before now (stops.Fault faults) = RisesOnce before now × (faults ≡ now)
StopCause before now (stops.Limit blocks bytes) = now ≡ before
StopCause before now stops.Memory = now ≡ before

abbrev pub Cause : {X : Type 0} → ℕ → ℕ → Result X Stop → Type 0
Cause before now (Ok it) = now ≡ before
Cause before now (Err stop) = StopCause before now stop

-- How the file of extras and a history ended: all of it stands behind what the store held, and its Header and Chunks can be
-- read; or the writer stopped at a piece of it.
abbrev pub Ends : FileOptions → List Top → Option (List ℕ) → Option (List ℕ) → List Rec → Written → Result Unit Stop
    → Type 0
Ends options extras opened now history written (Ok it) = Adds opened now (file_of options extras history)
    × (written.blocks ≡ length (blocks_in (pieces_of options.chunk options.span history)))
    × (written.bytes ≡ length (file_of options extras history))
    × ContentsFit options.profile (blocks_in (pieces_of options.chunk options.span history))
Ends options extras opened now history written (Err stop) = StopsAt options extras history opened now stop written
