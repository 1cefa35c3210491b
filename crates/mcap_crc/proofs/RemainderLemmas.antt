-- What crates above may need of the remainder.
use Rattle.std.proofs.Common.{◌≡◌, ℕ, ◌^◌, ◌<◌, Bool, true, false, List, [], ◌∷◌, ◌++◌, length, replicate, subst, ◌∙◌, arith, pow-suc}
use Rattle.mcap_crc.specs.Remainder.{number_of, message_bits, inverted, divided, remainder}
use Rattle.mcap_crc.proofs.Register.{length-xor_front, length-divided_message}

number_of-lt : (bits : List Bool) → number_of bits < 2 ^ length bits
number_of-lt [] = omega arith
number_of-lt (false ∷ bits) = omega (arith, number_of-lt bits, pow-suc 2 (length bits))
number_of-lt (true ∷ bits) = omega (arith, number_of-lt bits, pow-suc 2 (length bits))

pub remainder-lt : (bytes : List ℕ) → remainder bytes < 2 ^ 32
unfolding remainder
remainder-lt bytes =
    let bits = message_bits bytes in
    let left : List Bool = divided (length bits) (inverted (bits ++ replicate 32 false)) in
    let long : length (inverted left) ≡ 32 = length-xor_front (replicate 32 true) left ∙ length-divided_message bytes in
    subst (λ n. number_of (inverted left) < 2 ^ n) long (number_of-lt (inverted left))
