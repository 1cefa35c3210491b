-- Blocks of sixteen bytes, of which the first is folded into later ones.
use Rattle.std.specs.Prelude.{ℕ, ◌+◌, ◌*◌, ◌/◌, List, [], ◌++◌, get_or, bit_and, bit_xor}
use Rattle.mcap_crc.specs.declared.folded.Blocks.{Blocks}
use Rattle.mcap_crc.specs.declared.tables.TheConstants.{FOLDS}

-- the bytes of five blocks
abbrev pub bytes_of : Blocks → List ℕ
bytes_of b = b.first ++ b.second ++ b.third ++ b.fourth ++ b.fifth

-- what a byte that is folded away adds at a distance, by its low and its high four bits
unfoldable pub folded_byte : ℕ → ℕ → ℕ
folded_byte k byte =
    bit_xor (get_or (get_or FOLDS (2 * k) []) (bit_and byte 15) 0) (get_or (get_or FOLDS (2 * k + 1) []) (byte / 16) 0)
