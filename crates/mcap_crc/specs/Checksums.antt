-- The checksum of a message, and messages that are xored.
use Rattle.std.specs.Prelude.{◌≡◌, ℕ, List, [], ◌∷◌, bit_xor}
use Rattle.mcap_crc.specs.Remainder.{remainder}

-- a checksum is that of this message
abbrev pub IsChecksumOf : ℕ → List ℕ → Type 0
IsChecksumOf crc bytes = crc ≡ remainder bytes

-- two messages of one length, xored byte by byte
abbrev pub xored : List ℕ → List ℕ → List ℕ
xored [] others = []
xored (byte ∷ bytes) [] = []
xored (byte ∷ bytes) (other ∷ others) = bit_xor byte other ∷ xored bytes others
