-- CRC-32, as what is left of a long division of bits.
use Rattle.std.specs.Prelude.{ℕ, zero, suc, ◌+◌, ◌*◌, ◌/◌, ◌%◌, ◌==◌, Bool, true, false, not, if◌then◌else◌, List, [], ◌∷◌, ◌++◌, length, drop, map, replicate, codes}
use Rattle.std.specs.List.{flat_map}

-- the lowest k bits of a number, the lowest first
abbrev pub bits_of : ℕ → ℕ → List Bool
bits_of zero n = []
bits_of (suc k) n = (n % 2 == 1) ∷ bits_of k (n / 2)

-- the number that has these bits, the lowest first
abbrev pub number_of : List Bool → ℕ
number_of [] = 0
number_of (bit ∷ bits) = (if bit then 1 else 0) + 2 * number_of bits

-- the bits of a message, byte after byte
abbrev pub message_bits : List ℕ → List Bool
message_bits bytes = flat_map (bits_of 8) bytes

-- a pattern xored onto the front of some bits
abbrev pub xor_front : List Bool → List Bool → List Bool
xor_front [] bits = bits
xor_front (p ∷ pattern) [] = []
xor_front (p ∷ pattern) (bit ∷ bits) = (if p then not bit else bit) ∷ xor_front pattern bits

-- the first 32 bits inverted
abbrev pub inverted : List Bool → List Bool
inverted bits = xor_front (replicate 32 true) bits

-- what is divided by: 1, and then the polynomial of CRC-32 from x^31 down
abbrev pub divisor : List Bool
divisor = true ∷ map (λ digit. digit == 49) (codes "00000100110000010001110110110111")

-- where the first bit is 1, the divisor is xored onto the front; then the first bit goes
abbrev pub divided_once : List Bool → List Bool
divided_once [] = []
divided_once (false ∷ bits) = bits
divided_once (true ∷ bits) = drop 1 (xor_front divisor (true ∷ bits))

-- the same for so many bits
abbrev pub divided : ℕ → List Bool → List Bool
divided zero bits = bits
divided (suc n) bits = divided n (divided_once bits)

-- The CRC-32 of a message: its bits and 32 zeros, of which the first 32 are inverted, are divided
-- until 32 bits are left; inverted, these are the number.
unfoldable pub remainder : List ℕ → ℕ
remainder bytes =
    let bits = message_bits bytes in
    number_of (inverted (divided (length bits) (inverted (bits ++ replicate 32 false))))
