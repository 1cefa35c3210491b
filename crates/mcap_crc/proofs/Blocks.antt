-- A block of bytes joins the register as one number.
use Rattle.std.proofs.Common.{◌≡◌, ℕ, zero, suc, ◌+◌, ◌*◌, ◌/◌, ◌%◌, ◌^◌, ◌<◌, List, [], ◌∷◌, length, get_or, bit_and, bit_xor, refl, sym, ap, ◌∙◌, arith, pow-suc, mul_assoc, mul_comm}
use Rattle.std.specs.Int.{sum_through, byte_worth, from_le_bytes, w128}
use Rattle.std.proofs.lemmas.Nat.{xor_comm, and_mask, shr-shr}
use lib.Bits.{xor_assoc, xor_zero_r}
use Rattle.mcap_crc.specs.Register.{shifted_by, register_after}
use Rattle.mcap_crc.proofs.Register.{shifted_by-xor, shifted_by-add, shifted_by_whole, shifted_by_parts, shifted_by_zero, split_low}

-- the number of some bytes, the lowest first
unfoldable pub number : List ℕ → ℕ
number [] = 0
number (b ∷ bytes) = b + 256 * number bytes

sum_shift : (f : ℕ → ℕ) (k : ℕ) → sum_through f (suc k) ≡ f 0 + sum_through (λ i. f (suc i)) k
sum_shift f zero = refl
sum_shift f (suc k) = omega (arith, sum_shift f k)

worth_more : (i b : ℕ) → byte_worth (suc i) b ≡ 256 * byte_worth i b
worth_more zero b = omega arith
worth_more (suc i) b = ap (λ x. b * x) (pow-suc 256 (suc i)) ∙ sym (mul_assoc b (256 ^ suc i) 256) ∙ mul_comm (b * 256 ^ suc i) 256

sum_worth_more : (g : ℕ → ℕ) (k : ℕ) → sum_through (λ i. byte_worth (suc i) (g i)) k ≡ 256 * sum_through (λ i. byte_worth i (g i)) k
sum_worth_more g zero = worth_more 0 (g 0)
sum_worth_more g (suc k) = omega (arith, sum_worth_more g k, worth_more (suc k) (g (suc k)))

number_is : (bytes : List ℕ) (k : ℕ) → length bytes ≡ suc k → sum_through (λ i. byte_worth i (get_or bytes i 0)) k ≡ number bytes
unfolding number
number_is [] k h = absurd (omega arith)
number_is (b ∷ []) zero h = omega arith
number_is (b ∷ c ∷ bytes) zero h = absurd (omega arith)
number_is (b ∷ bytes) (suc k) h =
    sum_shift (λ i. byte_worth i (get_or (b ∷ bytes) i 0)) k
    ∙ ap (λ x. b + x) (sum_worth_more (λ i. get_or bytes i 0) k ∙ ap (λ x. 256 * x) (number_is bytes k (omega arith)))

byte_joins : (r b n : ℕ) → b < 256 → shifted_by 8 (bit_xor r (b + 256 * n)) ≡ bit_xor (shifted_by 8 (bit_xor r b)) n
byte_joins r b n small =
    let high : (b + 256 * n) / 256 ≡ n = omega arith in
    let low : (b + 256 * n) % 256 ≡ b = omega arith in
    let parts : b + 256 * n ≡ bit_xor (n * 2 ^ 8) b =
    split_low 8 (b + 256 * n) ∙ ap (λ x. bit_xor (x * 2 ^ 8) ((b + 256 * n) % 256)) high ∙ ap (bit_xor (n * 2 ^ 8)) low in
    let joined : bit_xor r (b + 256 * n) ≡ bit_xor (bit_xor r b) (n * 2 ^ 8) =
    ap (bit_xor r) (parts ∙ xor_comm (n * 2 ^ 8) b) ∙ sym (xor_assoc r b (n * 2 ^ 8)) in
    ap (shifted_by 8) joined
    ∙ shifted_by-xor 8 (bit_xor r b) (n * 2 ^ 8)
    ∙ ap (bit_xor (shifted_by 8 (bit_xor r b))) (shifted_by_whole 8 n)

-- bytes join the register one by one, or as one number
pub register_number : (r : ℕ) (bytes : List ℕ) → ((i : ℕ) → get_or bytes i 0 < 256) → register_after r bytes ≡ shifted_by (8 * length bytes) (bit_xor r (number bytes))
unfolding register_after number
register_number r [] small = sym (shifted_by_zero (bit_xor r 0) ∙ xor_zero_r r)
register_number r (b ∷ bytes) small =
    let longer : 8 * length (b ∷ bytes) ≡ 8 + 8 * length bytes = omega arith in
    register_number (shifted_by 8 (bit_xor r b)) bytes (λ i. small (suc i))
    ∙ ap (shifted_by (8 * length bytes)) (sym (byte_joins r b (number bytes) (small 0)))
    ∙ sym (shifted_by-add 8 (8 * length bytes) (bit_xor r (b + 256 * number bytes)))
    ∙ ap (λ n. shifted_by n (bit_xor r (b + 256 * number bytes))) (sym longer)

-- four pieces of k bits are shifted apart, each by what follows it
pub shifted_by_four : (k m v : ℕ) → shifted_by (k + (k + (k + m))) v
    ≡ bit_xor (bit_xor (bit_xor (shifted_by (k + (k + (k + m))) (v % 2 ^ k)) (shifted_by (k + (k + m)) (v / 2 ^ k % 2 ^ k))) (shifted_by (k + m) (v / 2 ^ (k + k) % 2 ^ k))) (shifted_by m (v / 2 ^ (k + k + k)))
shifted_by_four k m v =
    let a : ℕ = shifted_by (k + (k + (k + m))) (v % 2 ^ k) in
    let b : ℕ = shifted_by (k + (k + m)) (v / 2 ^ k % 2 ^ k) in
    let c : ℕ = shifted_by (k + m) (v / 2 ^ (k + k) % 2 ^ k) in
    let two : v / 2 ^ k / 2 ^ k ≡ v / 2 ^ (k + k) = shr-shr v k k in
    let three : v / 2 ^ (k + k) / 2 ^ k ≡ v / 2 ^ (k + k + k) = shr-shr v (k + k) k in
    shifted_by_parts k (k + (k + m)) v
    ∙ ap (bit_xor a) (shifted_by_parts k (k + m) (v / 2 ^ k) ∙ ap (λ u. bit_xor b (shifted_by (k + m) u)) two)
    ∙ ap (λ x. bit_xor a (bit_xor b x)) (shifted_by_parts k m (v / 2 ^ (k + k)) ∙ ap (λ u. bit_xor c (shifted_by m u)) three)
    ∙ sym (xor_assoc a b (bit_xor c (shifted_by m (v / 2 ^ (k + k + k)))))
    ∙ sym (xor_assoc (bit_xor a b) c (shifted_by m (v / 2 ^ (k + k + k))))

-- the four bytes of a word, each with its table
pub word_parts : (table w : ℕ) → shifted_by (8 * table + 32) w
    ≡ bit_xor (bit_xor (bit_xor (shifted_by (8 * (table + 3) + 8) (bit_and w 255)) (shifted_by (8 * (table + 2) + 8) (bit_and (w / 2 ^ 8) 255))) (shifted_by (8 * (table + 1) + 8) (bit_and (w / 2 ^ 16) 255))) (shifted_by (8 * table + 8) (w / 2 ^ 24))
word_parts table w =
    let m : ℕ = 8 * table + 8 in
    let n1 : 8 * table + 32 ≡ 8 + (8 + (8 + m)) = omega arith in
    let n2 : 8 * (table + 3) + 8 ≡ 8 + (8 + (8 + m)) = omega arith in
    let n3 : 8 * (table + 2) + 8 ≡ 8 + (8 + m) = omega arith in
    let n4 : 8 * (table + 1) + 8 ≡ 8 + m = omega arith in
    rw (n1, n2, n3, n4, and_mask w 8, and_mask (w / 2 ^ 8) 8, and_mask (w / 2 ^ 16) 8) (shifted_by_four 8 m w)

-- the four words of a block, each with its tables
pub block_parts : (v : ℕ) → shifted_by 128 v
    ≡ bit_xor (bit_xor (bit_xor (shifted_by 128 (bit_and v 0xFFFF_FFFF)) (shifted_by 96 (bit_and (v / 2 ^ 32) 0xFFFF_FFFF))) (shifted_by 64 (bit_and (v / 2 ^ 64) 0xFFFF_FFFF))) (shifted_by 32 (v / 2 ^ 96))
block_parts v =
    rw (and_mask v 32, and_mask (v / 2 ^ 32) 32, and_mask (v / 2 ^ 64) 32) (shifted_by_four 32 32 v)

-- the register after sixteen bytes, by the number that they are
pub register_block : (r : ℕ) (block : List ℕ) → length block ≡ 16 → ((i : ℕ) → get_or block i 0 < 256) → register_after r block ≡ shifted_by 128 (bit_xor (from_le_bytes w128 block) r)
register_block r block long small =
    let bits : 8 * length block ≡ 128 = omega (arith, long) in
    register_number r block small
    ∙ ap (λ n. shifted_by n (bit_xor r (number block))) bits
    ∙ ap (shifted_by 128) (ap (bit_xor r) (sym (number_is block 15 long)) ∙ xor_comm r (from_le_bytes w128 block))
