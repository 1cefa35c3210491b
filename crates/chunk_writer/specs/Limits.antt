-- What a file may hold, and why a writer stops at a piece.
use Rattle.std.specs.Prelude.{◌≡◌, ℕ, ◌≤◌, List, length, Option, Some}
use Rattle.mcap_wire.specs.Layout.{content_limit}
use Rattle.mcap_wire.specs.Limits.{block_limit, chunk_size_limit, file_limit}
use Rattle.rec_data.specs.declared.owned.Rec.{Rec}
use Rattle.rec_data.specs.Records.{header_text}
use Rattle.mcap_model.specs.declared.ends.Stop.{Stop}
use Rattle.mcap_model.specs.declared.ends.Stop.TheVariants as stops
use Rattle.mcap_model.specs.Places.{Each}
use Rattle.mcap_model.specs.Blocks.{chunk_content}
use Rattle.mcap_model.specs.File.{library}

-- a chunk, where there are any, is closed at 64 MiB or sooner
abbrev pub ChunkSizeFits : Option ℕ → Type 0
ChunkSizeFits chunk = (n : ℕ) → chunk ≡ Some n → (1 ≤ n) × (n ≤ chunk_size_limit)

-- so many blocks, and so many bytes
pub record Holds (blocks bytes : ℕ) : Type 0 where
  pub few : blocks ≤ block_limit
  pub small : bytes ≤ file_limit

-- the Header of a file of this profile isn't longer than a record that is read
abbrev pub HeaderFits : List ℕ → Type 0
HeaderFits profile = length (header_text (record { profile = profile; library = library })) ≤ content_limit

-- the Chunk of these records isn't
abbrev pub ChunkFits : List Rec → Type 0
ChunkFits records = length (chunk_content records) ≤ content_limit

-- the Header and the Chunks of a file of this profile, of which these are the blocks, can be read
pub record ContentsFit (profile : List ℕ) (blocks : List (List Rec)) : Type 0 where
  pub header : HeaderFits profile
  pub chunks : Each ChunkFits blocks

-- a file of this profile may hold these blocks, and so many bytes
pub record FileHolds (profile : List ℕ) (blocks : List (List Rec)) (bytes : ℕ) : Type 0 where
  pub holds : Holds (length blocks) bytes
  pub contents : ContentsFit profile blocks

-- A writer stopped at a piece, with so many blocks and bytes before it: at the limit exactly where a file may not hold the piece.
abbrev pub StopWhy : Stop → ℕ → ℕ → Type 0 → Type 0
StopWhy (stops.Fault faults) blocks bytes holds = holds
StopWhy (stops.Limit at_blocks at_bytes) blocks bytes holds = (at_blocks ≡ blocks) × (at_bytes ≡ bytes) × (holds → ⊥)
StopWhy stops.Memory blocks bytes holds = Unit {0}
