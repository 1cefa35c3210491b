-- A register of 32 bits that takes the message a bit or a byte at a time computes the remainder.
use Rattle.std.proofs.Common.{◌≡◌, ℕ, zero, suc, max, ◌+◌, ◌-◌, ◌*◌, ◌/◌, ◌%◌, ◌^◌, ◌<◌, ◌≤◌, ◌==◌, Bool, true, false, not, cond, List, [], ◌∷◌, ◌++◌, length, drop, take, get_or, replicate, bit_xor, refl, sym, ap, ◌∙◌, arith, inl, inr, ◌⊎◌, length-append, pow-suc, mul_assoc, mul_comm, mod-lt, pow_pos}
use Rattle.std.proofs.lemmas.List.{take_more, take-append-drop}
use Rattle.std.proofs.lemmas.List.Concat.{flat_map-append}
use Rattle.std.proofs.lemmas.Nat.{xor_comm, xor_shr, xor_mod, xor_block, shr_split}
use lib.Bits.{xor_assoc, xor_self, xor_zero_r}
use Rattle.mcap_crc.specs.Register.{polynomial, shifted, shifted_by, register_after}
use Rattle.mcap_crc.specs.Remainder.{bits_of, number_of, message_bits, xor_front, inverted, divisor, divided_once, divided, remainder}

-- ---- xor of numbers

-- two xors are taken in another order
pub exchanged : (a b c d : ℕ) → bit_xor (bit_xor a b) (bit_xor c d) ≡ bit_xor (bit_xor a c) (bit_xor b d)
exchanged a b c d =
    xor_assoc a b (bit_xor c d)
    ∙ ap (bit_xor a) (sym (xor_assoc b c d) ∙ ap (λ x. bit_xor x d) (xor_comm b c) ∙ xor_assoc c b d)
    ∙ sym (xor_assoc a c (bit_xor b d))

pub xor_twice : (a b : ℕ) → bit_xor (bit_xor a b) b ≡ a
xor_twice a b = xor_assoc a b b ∙ ap (bit_xor a) (xor_self b) ∙ xor_zero_r a

parity : (n : ℕ) → (n % 2 ≡ 0) ⊎ (n % 2 ≡ 1)
parity n = grind arith

-- ---- the register

odd_part : (a b : ℕ) → bit_xor a b % 2 * polynomial ≡ bit_xor (a % 2 * polynomial) (b % 2 * polynomial)
odd_part a b =
    let e : bit_xor a b % 2 ≡ bit_xor (a % 2) (b % 2) = xor_mod a b 1 in
    ap (λ x. x * polynomial) e ∙
    elim (parity a) [
      | inl p ↦ elim (parity b) [ inl q ↦ rw (p, q) | inr q ↦ rw (p, q) ]
      | inr p ↦ elim (parity b) [ inl q ↦ rw (p, q) | inr q ↦ rw (p, q) ]
    ]

pub shifted-xor : (a b : ℕ) → shifted (bit_xor a b) ≡ bit_xor (shifted a) (shifted b)
unfolding shifted
shifted-xor a b =
    ap (λ x. bit_xor x (bit_xor a b % 2 * polynomial)) (xor_shr a b 1)
    ∙ ap (bit_xor (bit_xor (a / 2) (b / 2))) (odd_part a b)
    ∙ exchanged (a / 2) (b / 2) (a % 2 * polynomial) (b % 2 * polynomial)

pub shifted_by-xor : (n a b : ℕ) → shifted_by n (bit_xor a b) ≡ bit_xor (shifted_by n a) (shifted_by n b)
unfolding shifted_by
shifted_by-xor zero a b = refl
shifted_by-xor (suc n) a b = ap (shifted_by n) (shifted-xor a b) ∙ shifted_by-xor n (shifted a) (shifted b)

pub shifted_by-add : (m n r : ℕ) → shifted_by (m + n) r ≡ shifted_by n (shifted_by m r)
unfolding shifted_by
shifted_by-add zero n r = ap (λ k. shifted_by k r) (let e : 0 + n ≡ n = omega arith in e)
shifted_by-add (suc m) n r = ap (λ k. shifted_by k r) (let e : suc m + n ≡ suc (m + n) = omega arith in e) ∙ shifted_by-add m n (shifted r)

shifted_even : (h : ℕ) → shifted (2 * h) ≡ h
unfolding shifted
shifted_even h =
    let a : 2 * h / 2 ≡ h = omega arith in
    let b : 2 * h % 2 ≡ 0 = omega arith in
    rw (a, b) (xor_zero_r h)

-- a bit of the message joins the lowest bit of the register
abbrev bit_number : Bool → ℕ
bit_number b = cond b 1 0

unfoldable pub run : ℕ → List Bool → ℕ
run r [] = r
run r (bit ∷ bits) = run (shifted (bit_xor r (bit_number bit))) bits

pub run-append : (r : ℕ) (xs ys : List Bool) → run r (xs ++ ys) ≡ run (run r xs) ys
unfolding run
run-append r [] ys = refl
run-append r (x ∷ xs) ys = run-append (shifted (bit_xor r (bit_number x))) xs ys

-- ---- the division of bits is a run of the register

abbrev flipped : Bool → Bool → Bool
flipped p b = cond p (not b) b

shifted_odd : (h : ℕ) → shifted (1 + 2 * h) ≡ bit_xor h polynomial
unfolding shifted
shifted_odd h =
    let a : (1 + 2 * h) / 2 ≡ h = omega arith in
    let b : (1 + 2 * h) % 2 ≡ 1 = omega arith in
    rw (a, b)

shifted_digit : (r : Bool) (n : ℕ) → shifted (bit_number r + 2 * n) ≡ bit_xor n (cond r polynomial 0)
shifted_digit false n = ap shifted (let e : 0 + 2 * n ≡ 2 * n = omega arith in e) ∙ shifted_even n ∙ sym (xor_zero_r n)
shifted_digit true n = shifted_odd n

shifted_bit : (m : Bool) → shifted (bit_number m) ≡ cond m polynomial 0
unfolding shifted
shifted_bit false = refl
shifted_bit true = refl

joined : (r m : Bool) → bit_xor (cond r polynomial 0) (cond m polynomial 0) ≡ cond (flipped r m) polynomial 0
joined false false = refl
joined false true = refl
joined true false = refl
joined true true = refl

shifted_join : (r m : Bool) (n : ℕ) → shifted (bit_xor (bit_number r + 2 * n) (bit_number m)) ≡ bit_xor n (cond (flipped r m) polynomial 0)
shifted_join r m n =
    shifted-xor (bit_number r + 2 * n) (bit_number m)
    ∙ ap (λ x. bit_xor x (shifted (bit_number m))) (shifted_digit r n)
    ∙ ap (bit_xor (bit_xor n (cond r polynomial 0))) (shifted_bit m)
    ∙ xor_assoc n (cond r polynomial 0) (cond m polynomial 0)
    ∙ ap (bit_xor n) (joined r m)

digit_join : (p b : Bool) → bit_xor (bit_number p) (bit_number b) ≡ bit_number (flipped p b)
digit_join false false = refl
digit_join false true = refl
digit_join true false = refl
digit_join true true = refl

digit-lt : (b : Bool) → bit_number b < 2 ^ 1
digit-lt false = omega arith
digit-lt true = omega arith

number-xor : (p b : Bool) (m n : ℕ) → bit_xor (bit_number p + 2 * m) (bit_number b + 2 * n) ≡ bit_number (flipped p b) + 2 * bit_xor m n
number-xor p b m n =
    let left : bit_number p + 2 * m ≡ m * 2 ^ 1 + bit_number p = omega arith in
    let right : bit_number b + 2 * n ≡ n * 2 ^ 1 + bit_number b = omega arith in
    let whole : bit_xor m n * 2 ^ 1 + bit_number (flipped p b) ≡ bit_number (flipped p b) + 2 * bit_xor m n = omega arith in
    ap (λ x. bit_xor x (bit_number b + 2 * n)) left
    ∙ ap (bit_xor (m * 2 ^ 1 + bit_number p)) right
    ∙ xor_block 1 m n (bit_number p) (bit_number b) (digit-lt p) (digit-lt b)
    ∙ ap (λ x. bit_xor m n * 2 ^ 1 + x) (digit_join p b)
    ∙ whole

-- a pattern xored onto the front is xored onto the number
pub number_of-xor_front : (pattern bits : List Bool) → length pattern ≤ length bits → number_of (xor_front pattern bits) ≡ bit_xor (number_of pattern) (number_of bits)
number_of-xor_front [] bits h = refl
number_of-xor_front (p ∷ pattern) [] h = absurd (omega arith)
number_of-xor_front (p ∷ pattern) (b ∷ bits) h =
    ap (λ x. bit_number (flipped p b) + 2 * x) (number_of-xor_front pattern bits (omega arith))
    ∙ sym (number-xor p b (number_of pattern) (number_of bits))

number_of-false : (bits : List Bool) → number_of (bits ++ false ∷ []) ≡ number_of bits
number_of-false [] = refl
number_of-false (b ∷ bits) = ap (λ x. bit_number b + 2 * x) (number_of-false bits)

pub length-xor_front : (pattern bits : List Bool) → length (xor_front pattern bits) ≡ length bits
length-xor_front [] bits = refl
length-xor_front (p ∷ pattern) [] = refl
length-xor_front (p ∷ pattern) (b ∷ bits) = ap suc (length-xor_front pattern bits)

xor_front-zeros : (bits : List Bool) (n : ℕ) → length bits ≡ n → xor_front bits (replicate n false) ≡ bits
xor_front-zeros [] zero h = refl
xor_front-zeros [] (suc n) h = absurd (omega arith)
xor_front-zeros (b ∷ bits) zero h = absurd (omega arith)
xor_front-zeros (false ∷ bits) (suc n) h = ap (λ x. false ∷ x) (xor_front-zeros bits n (omega arith))
xor_front-zeros (true ∷ bits) (suc n) h = ap (λ x. true ∷ x) (xor_front-zeros bits n (omega arith))

xor_front-false : (bits rest : List Bool) → suc (length bits) ≤ length rest → xor_front bits rest ≡ xor_front (bits ++ false ∷ []) rest
xor_front-false [] [] h = absurd (omega arith)
xor_front-false [] (x ∷ rest) h = refl
xor_front-false (b ∷ bits) [] h = absurd (omega arith)
xor_front-false (b ∷ bits) (x ∷ rest) h = ap (λ y. flipped b x ∷ y) (xor_front-false bits rest (omega arith))

flipped-flipped : (p r x : Bool) → flipped p (flipped r x) ≡ flipped (flipped p r) x
flipped-flipped false r x = refl
flipped-flipped true false x = refl
flipped-flipped true true false = refl
flipped-flipped true true true = refl

-- two patterns on one front are their xor there
xor_front_twice : (ps rs xs : List Bool) → length ps ≡ suc (length rs) → length ps ≤ length xs → xor_front ps (xor_front rs xs) ≡ xor_front (xor_front ps (rs ++ false ∷ [])) xs
xor_front_twice [] rs xs h le = absurd (omega arith)
xor_front_twice (p ∷ ps) rs [] h le = absurd (omega arith)
xor_front_twice (p ∷ []) [] (x ∷ xs) h le = ap (λ y. y ∷ xs) (flipped-flipped p false x)
xor_front_twice (p ∷ q ∷ ps) [] (x ∷ xs) h le = absurd (omega arith)
xor_front_twice (p ∷ ps) (r ∷ rs) (x ∷ xs) h le =
    ap (λ y. y ∷ xor_front ps (xor_front rs xs)) (flipped-flipped p r x)
    ∙ ap (λ ys. flipped (flipped p r) x ∷ ys) (xor_front_twice ps rs xs (omega arith) (omega arith))

-- the bits of the register after one step that found this bit
abbrev shifted_bits : Bool → List Bool → List Bool
shifted_bits false rs = rs ++ false ∷ []
shifted_bits true rs = xor_front (drop 1 divisor) (rs ++ false ∷ [])

divided_once_is : (first : Bool) (rs rest : List Bool) → length rs ≡ 31 → 32 ≤ length rest → divided_once (first ∷ xor_front rs rest) ≡ xor_front (shifted_bits first rs) rest
divided_once_is false rs rest h le = xor_front-false rs rest (omega arith)
divided_once_is true rs rest h le = xor_front_twice (drop 1 divisor) rs rest (omega arith) (omega arith)

length-shifted_bits : (first : Bool) (rs : List Bool) → length (shifted_bits first rs) ≡ length rs + 1
length-shifted_bits false rs = length-append rs (false ∷ [])
length-shifted_bits true rs = length-xor_front (drop 1 divisor) (rs ++ false ∷ []) ∙ length-append rs (false ∷ [])

number_of-shifted_bits : (first : Bool) (rs : List Bool) → length rs ≡ 31 → number_of (shifted_bits first rs) ≡ bit_xor (number_of rs) (cond first polynomial 0)
number_of-shifted_bits false rs h = number_of-false rs ∙ sym (xor_zero_r (number_of rs))
number_of-shifted_bits true rs h =
    let le : 32 ≤ length (rs ++ false ∷ []) = omega (arith, length-append rs (false ∷ [])) in
    number_of-xor_front (drop 1 divisor) (rs ++ false ∷ []) le
    ∙ ap (bit_xor polynomial) (number_of-false rs)
    ∙ xor_comm polynomial (number_of rs)

abbrev zeros : List Bool
zeros = replicate 32 false

divided_is_run : (ms rs : List Bool) → length rs ≡ 32 → number_of (divided (length ms) (xor_front rs (ms ++ zeros))) ≡ run (number_of rs) ms
unfolding run
divided_is_run [] rs h = ap number_of (xor_front-zeros rs 32 h)
divided_is_run (m ∷ ms) [] h = absurd (omega arith)
divided_is_run (m ∷ ms) (r ∷ rs) h =
    let room : 32 ≤ length (ms ++ zeros) = omega (arith, length-append ms zeros) in
    let long : length rs ≡ 31 = omega arith in
    let kept : length (shifted_bits (flipped r m) rs) ≡ 32 = omega (arith, length-shifted_bits (flipped r m) rs) in
    ap (λ bits. number_of (divided (length ms) bits)) (divided_once_is (flipped r m) rs (ms ++ zeros) long room)
    ∙ divided_is_run ms (shifted_bits (flipped r m) rs) kept
    ∙ ap (λ x. run x ms) (number_of-shifted_bits (flipped r m) rs long ∙ sym (shifted_join r m (number_of rs)))

length-divided_once : (bits : List Bool) → length (divided_once bits) + 1 ≡ max 1 (length bits)
length-divided_once [] = refl
length-divided_once (false ∷ bits) = omega arith
length-divided_once (true ∷ bits) = omega (arith, length-xor_front (drop 1 divisor) bits)

length-divided : (n : ℕ) (bits : List Bool) → length (divided n bits) ≡ length bits - n
length-divided zero bits = omega arith
length-divided (suc n) bits = omega (arith, length-divided n (divided_once bits), length-divided_once bits)

-- thirty-two bits are left
pub length-divided_message : (bytes : List ℕ) → length (divided (length (message_bits bytes)) (inverted (message_bits bytes ++ zeros))) ≡ 32
length-divided_message bytes =
    let bits = message_bits bytes in
    omega (arith, length-divided (length bits) (inverted (bits ++ zeros)), length-xor_front (replicate 32 true) (bits ++ zeros), length-append bits zeros)

abbrev ones : ℕ
ones = 0xFFFF_FFFF

-- the remainder, by a run of the register
pub remainder_is_run : (bytes : List ℕ) → remainder bytes ≡ bit_xor ones (run ones (message_bits bytes))
unfolding remainder
remainder_is_run bytes =
    let bits = message_bits bytes in
    let left : List Bool = divided (length bits) (inverted (bits ++ zeros)) in
    let long : 32 ≤ length left = omega (arith, length-divided_message bytes) in
    number_of-xor_front (replicate 32 true) left long
    ∙ ap (bit_xor ones) (divided_is_run bits (replicate 32 true) refl)

-- ---- a byte at a time

low_bit : (b : ℕ) → bit_number (b % 2 == 1) ≡ b % 2
low_bit b = elim (parity b) [ inl p ↦ rw (p) | inr p ↦ rw (p) ]

-- the higher bits of a byte may join the register later
shifted_low : (r b : ℕ) → bit_xor (shifted (bit_xor r (b % 2))) (b / 2) ≡ shifted (bit_xor r b)
unfolding shifted
shifted_low r b =
    let twice : b % 2 % 2 ≡ b % 2 = omega arith in
    let none : b % 2 / 2 ≡ 0 = omega arith in
    let high : shifted (b % 2) ≡ b % 2 * polynomial = rw (twice, none) in
    ap (λ x. bit_xor x (b / 2)) (shifted-xor r (b % 2) ∙ ap (bit_xor (shifted r)) high)
    ∙ xor_assoc (shifted r) (b % 2 * polynomial) (b / 2)
    ∙ ap (bit_xor (shifted r)) (xor_comm (b % 2 * polynomial) (b / 2))
    ∙ sym (shifted-xor r b)

run_bits : (k b r : ℕ) (rest : List Bool) → b < 2 ^ k → run r (bits_of k b ++ rest) ≡ run (shifted_by k (bit_xor r b)) rest
unfolding run shifted_by
run_bits zero b r rest h =
    let none : b ≡ 0 = omega arith in
    ap (λ x. run x rest) (sym (xor_zero_r r) ∙ ap (bit_xor r) (sym none))
run_bits (suc k) b r rest h =
    let below : b / 2 < 2 ^ k = omega (arith, pow-suc 2 k) in
    ap (λ x. run (shifted (bit_xor r x)) (bits_of k (b / 2) ++ rest)) (low_bit b)
    ∙ run_bits k (b / 2) (shifted (bit_xor r (b % 2))) rest below
    ∙ ap (λ x. run (shifted_by k x) rest) (shifted_low r b)

pub register_after-append : (r : ℕ) (xs ys : List ℕ) → register_after r (xs ++ ys) ≡ register_after (register_after r xs) ys
unfolding register_after
register_after-append r [] ys = refl
register_after-append r (x ∷ xs) ys = register_after-append (shifted_by 8 (bit_xor r x)) xs ys

pub run_is_register : (r : ℕ) (bytes : List ℕ) → ((i : ℕ) → get_or bytes i 0 < 256) → run r (message_bits bytes) ≡ register_after r bytes
unfolding run register_after
run_is_register r [] small = refl
run_is_register r (b ∷ bytes) small =
    run_bits 8 b r (message_bits bytes) (small 0)
    ∙ run_is_register (shifted_by 8 (bit_xor r b)) bytes (λ i. small (suc i))

-- a register's high bits are not reached by eight shifts
pub shifted_by_whole : (k h : ℕ) → shifted_by k (h * 2 ^ k) ≡ h
unfolding shifted_by
shifted_by_whole zero h = omega arith
shifted_by_whole (suc k) h =
    let e : h * 2 ^ suc k ≡ 2 * (h * 2 ^ k) = ap (λ x. h * x) (pow-suc 2 k) ∙ sym (mul_assoc h (2 ^ k) 2) ∙ mul_comm (h * 2 ^ k) 2 in
    ap (λ x. shifted_by k (shifted x)) e ∙ ap (shifted_by k) (shifted_even (h * 2 ^ k)) ∙ shifted_by_whole k h

-- a register, by its low k bits and the others
pub split_low : (k r : ℕ) → r ≡ bit_xor (r / 2 ^ k * 2 ^ k) (r % 2 ^ k)
split_low k r =
    let h : ℕ = r / 2 ^ k in
    let low : ℕ = r % 2 ^ k in
    let left : h * 2 ^ k + 0 ≡ h * 2 ^ k = omega arith in
    let right : 0 * 2 ^ k + low ≡ low = omega arith in
    let below : low < 2 ^ k = mod-lt r (pow_pos k) in
    sym (shr_split r k)
    ∙ ap (λ x. x * 2 ^ k + low) (sym (xor_zero_r h))
    ∙ sym (xor_block k h 0 0 low (pow_pos k) below)
    ∙ ap (λ x. bit_xor x (0 * 2 ^ k + low)) left ∙ ap (bit_xor (h * 2 ^ k)) right

-- the low k bits and the others may be shifted apart, the others by k fewer
pub shifted_by_parts : (k m r : ℕ) → shifted_by (k + m) r ≡ bit_xor (shifted_by (k + m) (r % 2 ^ k)) (shifted_by m (r / 2 ^ k))
shifted_by_parts k m r =
    let h : ℕ = r / 2 ^ k in
    let low : ℕ = r % 2 ^ k in
    ap (shifted_by (k + m)) (split_low k r)
    ∙ shifted_by-xor (k + m) (h * 2 ^ k) low
    ∙ ap (λ x. bit_xor x (shifted_by (k + m) low)) (shifted_by-add k m (h * 2 ^ k) ∙ ap (shifted_by m) (shifted_by_whole k h))
    ∙ xor_comm (shifted_by m h) (shifted_by (k + m) low)

pub shifted_by_zero : (r : ℕ) → shifted_by 0 r ≡ r
unfolding shifted_by
shifted_by_zero r = refl

pub shifted_by_byte : (r : ℕ) → shifted_by 8 r ≡ bit_xor (r / 256) (shifted_by 8 (r % 256))
shifted_by_byte r =
    shifted_by_parts 8 0 r
    ∙ ap (bit_xor (shifted_by 8 (r % 256))) (shifted_by_zero (r / 256))
    ∙ xor_comm (shifted_by 8 (r % 256)) (r / 256)

-- one more byte of a list
pub register_after_more : (r : ℕ) (bytes : List ℕ) (i : ℕ) → i < length bytes → register_after r (take (i + 1) bytes) ≡ shifted_by 8 (bit_xor (register_after r (take i bytes)) (get_or bytes i 0))
unfolding register_after
register_after_more r bytes i h =
    ap (register_after r) (take_more bytes i 0 h) ∙ register_after-append r (take i bytes) (get_or bytes i 0 ∷ [])

-- the remainder of a longer message, by the bits that follow
pub remainder-append : (xs ys : List ℕ) → remainder (xs ++ ys) ≡ bit_xor ones (run (bit_xor ones (remainder xs)) (message_bits ys))
remainder-append xs ys =
    let start : bit_xor ones (remainder xs) ≡ run ones (message_bits xs) =
    ap (bit_xor ones) (remainder_is_run xs) ∙ sym (xor_assoc ones ones (run ones (message_bits xs))) in
    remainder_is_run (xs ++ ys)
    ∙ ap (λ bits. bit_xor ones (run ones bits)) (flat_map-append (bits_of 8) xs ys)
    ∙ ap (bit_xor ones) (run-append ones (message_bits xs) (message_bits ys))
    ∙ ap (λ r. bit_xor ones (run r (message_bits ys))) (sym start)

-- the same, by the register, which is inverted before and after
pub remainder-append_bytes : (xs ys : List ℕ) → ((i : ℕ) → get_or ys i 0 < 256) → remainder (xs ++ ys) ≡ bit_xor (register_after (bit_xor (remainder xs) ones) ys) ones
remainder-append_bytes xs ys small =
    remainder-append xs ys
    ∙ ap (bit_xor ones) (run_is_register (bit_xor ones (remainder xs)) ys small)
    ∙ xor_comm ones (register_after (bit_xor ones (remainder xs)) ys)
    ∙ ap (λ r. bit_xor (register_after r ys) ones) (xor_comm ones (remainder xs))

-- the remainder of bytes, by the register
pub remainder_is : (bytes : List ℕ) → ((i : ℕ) → get_or bytes i 0 < 256) → remainder bytes ≡ bit_xor (register_after ones bytes) ones
remainder_is bytes small =
    remainder_is_run bytes ∙ ap (bit_xor ones) (run_is_register ones bytes small) ∙ xor_comm ones (register_after ones bytes)

pub register_of_nothing : (r : ℕ) → r ≡ register_after r []
unfolding register_after
register_of_nothing r = refl

-- a message may be cut anywhere
pub register_after-cut : (r n : ℕ) (bytes : List ℕ) → register_after (register_after r (take n bytes)) (drop n bytes) ≡ register_after r bytes
register_after-cut r n bytes = sym (register_after-append r (take n bytes) (drop n bytes)) ∙ ap (register_after r) (take-append-drop n bytes)
