-- A register of 32 bits, from which bits leave at the low end as the division goes on.
use Rattle.std.specs.Prelude.{ℕ, zero, suc, ◌*◌, ◌/◌, ◌%◌, List, [], ◌∷◌, bit_xor}

-- the divisor without its first bit, as a number
abbrev pub polynomial : ℕ
polynomial = 0xEDB8_8320

-- the register after a message bit of 0: where a 1 leaves, the polynomial is xored
unfoldable pub shifted : ℕ → ℕ
shifted r = bit_xor (r / 2) (r % 2 * polynomial)

-- the same for n bits of 0
unfoldable pub shifted_by : ℕ → ℕ → ℕ
shifted_by zero r = r
shifted_by (suc n) r = shifted_by n (shifted r)

-- the register after a message: each byte joins its lowest eight bits, which then leave
unfoldable pub register_after : ℕ → List ℕ → ℕ
register_after r [] = r
register_after r (b ∷ bytes) = register_after (shifted_by 8 (bit_xor r b)) bytes
