-- Whether a piece may be appended, as the steps of a writer find it.
use Rattle.std.specs.Prelude.{◌≡◌, ℕ, ◌+◌, ◌≤◌, length, Result, Ok, Err}
use Rattle.mcap_model.specs.declared.ends.Stop.{Stop}
use Rattle.mcap_model.specs.declared.ends.Stop.TheVariants as stops
use Rattle.mcap_wire.specs.Layout.{content_limit}
use Rattle.mcap_model.specs.declared.block.Block.{Block}
use Rattle.chunk_writer.specs.Limits.{Holds}

-- the piece may be appended, or the limit stops it
abbrev pub LimitKept : ℕ → ℕ → ℕ → ℕ → Result Unit Stop → Type 0
LimitKept blocks bytes with_blocks with_bytes (Ok it) = Holds with_blocks with_bytes
LimitKept blocks bytes with_blocks with_bytes (Err stop) =
    (stop ≡ stops.Limit blocks bytes) × (Holds with_blocks with_bytes → ⊥)

-- A file may hold what comes after so many blocks and bytes, of which that is said; or the limit stops it, or memory lacks.
abbrev pub HoldsOrStops : {X : Type 0} → ℕ → ℕ → Type 0 → Result X Stop → Type 0
HoldsOrStops blocks bytes holds (Ok it) = holds
HoldsOrStops blocks bytes holds (Err (stops.Fault faults)) = ⊥
HoldsOrStops blocks bytes holds (Err (stops.Limit at_blocks at_bytes)) =
    (at_blocks ≡ blocks) × (at_bytes ≡ bytes) × (holds → ⊥)
HoldsOrStops blocks bytes holds (Err stops.Memory) = Unit {0}

-- a file may hold a block more; the Chunk, with which its bytes begin, has nine bytes before its content
pub record BlockFits (blocks bytes : ℕ) (b : Block) : Type 0 where
  pub holds : Holds (blocks + 1) (bytes + length b.bytes)
  pub short : b.chunk_length ≤ 9 + content_limit

-- the store didn't fail
abbrev pub IsNoFault : Stop → Type 0
IsNoFault (stops.Fault faults) = ⊥
IsNoFault (stops.Limit blocks bytes) = Unit {0}
IsNoFault stops.Memory = Unit {0}
