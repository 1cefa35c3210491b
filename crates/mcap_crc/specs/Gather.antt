-- A window keeps the last 2400 bytes of a message, each as it was when it was made 0 and xored onto
-- the bytes 1160, 1464, 1688 and 2400 places behind it.
use Rattle.std.specs.Prelude.{◌≡◌, ℕ, ◌*◌, List, ◌++◌, take, drop, bit_xor}
use Rattle.mcap_crc.specs.Register.{shifted_by, register_after}

-- the window's bytes from a place on, xored onto the first of 2400 zero bytes: the register after these
abbrev pub from_place : ℕ → List ℕ → ℕ
from_place place window = shifted_by (8 * place) (register_after 0 (drop place window))

-- what the window leaves to the 2400 bytes that follow it: the register after these, were they 0
unfoldable pub pending : List ℕ → ℕ
pending window =
    bit_xor (bit_xor (from_place 0 window) (from_place 712 window)) (bit_xor (from_place 936 window)
    (from_place 1240 window))

-- the window stands for a message that leaves this register
abbrev pub WindowLeaves : ℕ → List ℕ → Type 0
WindowLeaves register window = pending window ≡ shifted_by 19200 register

-- a window whose oldest byte stands at a place
abbrev pub turned : ℕ → List ℕ → List ℕ
turned place window = drop place window ++ take place window
