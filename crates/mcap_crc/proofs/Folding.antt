-- A block folded into the blocks behind it leaves the register that the message gives.
use Rattle.std.proofs.Common.{◌≡◌, ℕ, zero, suc, ◌+◌, ◌*◌, ◌/◌, ◌%◌, ◌^◌, ◌<◌, ◌≤◌, ◌==◌, Bool, true, List, [], ◌∷◌, ◌++◌, length, get_or, take, drop, map, bit_xor, refl, sym, ap, ◌∙◌, arith, le_refl, eqb-true, pow-suc, pow-add, length-take, length-drop, drop-drop, inl, inr}
use Rattle.std.specs.Int.{byte_at, bytes_low_first, to_le_bytes, w128}
use Rattle.std.proofs.lemmas.List.{length-map, take_all, take-take, get_or_past}
use Rattle.std.proofs.lemmas.Nat.{xor_comm, xor_of_8, shr-shr, mod-pow-add}
use Rattle.std.proofs.lemmas.Bool.{cases_lt}
use lib.Bits.{xor_assoc, xor_self, xor_zero_r}
use lib.Lanes.{zip2}
use Rattle.mcap_crc.specs.Register.{shifted, shifted_by, register_after}
use Rattle.std.specs.Prelude.{All}
use Rattle.mcap_crc.specs.Fold.{folded_byte}
use Rattle.mcap_crc.specs.Remainder.{remainder}
use Rattle.mcap_crc.specs.Checksums.{xored}
use Rattle.mcap_crc.proofs.Below.{all_below, each_below}
use Rattle.mcap_crc.proofs.Register.{exchanged, remainder_is, shifted_by-xor, shifted_by-add, shifted_by_zero, register_after-append, register_after-cut}
use Rattle.mcap_crc.proofs.Blocks.{number, register_number}

-- ---- the register is linear

-- the register before a message and the message add up
pub register_after-start : (r : ℕ) (bytes : List ℕ) → register_after r bytes ≡ bit_xor (shifted_by (8 * length bytes) r) (register_after 0 bytes)
unfolding register_after
register_after-start r [] = sym (xor_zero_r (shifted_by 0 r) ∙ shifted_by_zero r)
register_after-start r (b ∷ bytes) =
    let n : ℕ = 8 * length bytes in
    let longer : 8 + n ≡ 8 * length (b ∷ bytes) = omega arith in
    register_after-start (shifted_by 8 (bit_xor r b)) bytes
    ∙ ap (λ x. bit_xor x (register_after 0 bytes)) (ap (shifted_by n) (shifted_by-xor 8 r b) ∙ shifted_by-xor n (shifted_by 8 r) (shifted_by 8 b))
    ∙ xor_assoc (shifted_by n (shifted_by 8 r)) (shifted_by n (shifted_by 8 b)) (register_after 0 bytes)
    ∙ ap (bit_xor (shifted_by n (shifted_by 8 r))) (sym (register_after-start (shifted_by 8 b) bytes))
    ∙ ap (λ x. bit_xor x (register_after (shifted_by 8 b) bytes)) (sym (shifted_by-add 8 n r) ∙ ap (λ k. shifted_by k r) longer)

-- messages of one length are xored byte by byte
pub register_after-xor : (q r : ℕ) (xs ys : List ℕ) → length xs ≡ length ys → register_after (bit_xor q r) (zip2 bit_xor xs ys) ≡ bit_xor (register_after q xs) (register_after r ys)
unfolding register_after
register_after-xor q r [] [] h = refl
register_after-xor q r [] (y ∷ ys) h = absurd (omega arith)
register_after-xor q r (x ∷ xs) [] h = absurd (omega arith)
register_after-xor q r (x ∷ xs) (y ∷ ys) h =
    ap (λ s. register_after s (zip2 bit_xor xs ys)) (ap (shifted_by 8) (exchanged q r x y) ∙ shifted_by-xor 8 (bit_xor q x) (bit_xor r y))
    ∙ register_after-xor (shifted_by 8 (bit_xor q x)) (shifted_by 8 (bit_xor r y)) xs ys (omega arith)

-- ---- one byte

-- the register after a block of zeros
abbrev across : ℕ → ℕ
across r = shifted_by 128 r

-- after five of them
abbrev far : ℕ → ℕ
far r = across (across (across (across (across r))))

-- what four blocks give, at the distances 1, 3, 4 and 5 from where the first of six stands
abbrev spread : ℕ → ℕ → ℕ → ℕ → ℕ
spread a b c d = bit_xor (across (bit_xor (across (bit_xor (across (across a)) b)) c)) d

byte_ok : ℕ → Bool
byte_ok x = far (shifted_by 8 x) == spread (shifted_by 8 (folded_byte 0 x)) (shifted_by 8 (folded_byte 1 x)) (shifted_by 8 (folded_byte 2 x)) (shifted_by 8 (folded_byte 3 x))

bytes_ok : all_below byte_ok 256 ≡ true
unfolding all_below byte_ok folded_byte shifted shifted_by
bytes_ok = refl

byte_spreads : (x : ℕ) → x < 256 → far (shifted_by 8 x) ≡ spread (shifted_by 8 (folded_byte 0 x)) (shifted_by 8 (folded_byte 1 x)) (shifted_by 8 (folded_byte 2 x)) (shifted_by 8 (folded_byte 3 x))
unfolding byte_ok
byte_spreads x small = eqb-true _ _ (each_below byte_ok 256 x bytes_ok small)

-- ---- a block

across-xor : (a b : ℕ) → across (bit_xor a b) ≡ bit_xor (across a) (across b)
across-xor a b = shifted_by-xor 128 a b

across-shifted_by : (n r : ℕ) → shifted_by n (across r) ≡ across (shifted_by n r)
across-shifted_by n r =
    let turned : 128 + n ≡ n + 128 = omega arith in
    sym (shifted_by-add 128 n r) ∙ ap (λ k. shifted_by k r) turned ∙ shifted_by-add n 128 r

far-xor : (a b : ℕ) → far (bit_xor a b) ≡ bit_xor (far a) (far b)
far-xor a b = simp across-xor

far-shifted_by : (n r : ℕ) → shifted_by n (far r) ≡ far (shifted_by n r)
far-shifted_by n r =
    across-shifted_by n (across (across (across (across r))))
    ∙ ap across (across-shifted_by n (across (across (across r)))
    ∙ ap across (across-shifted_by n (across (across r))
    ∙ ap across (across-shifted_by n (across r) ∙ ap across (across-shifted_by n r))))

-- one step of `spread`
next-xor : (s s' t t' : ℕ) → bit_xor (across (bit_xor s s')) (bit_xor t t') ≡ bit_xor (bit_xor (across s) t) (bit_xor (across s') t')
next-xor s s' t t' = ap (λ x. bit_xor x (bit_xor t t')) (across-xor s s') ∙ exchanged (across s) (across s') t t'

spread-xor : (a b c d a' b' c' d' : ℕ) → spread (bit_xor a a') (bit_xor b b') (bit_xor c c') (bit_xor d d') ≡ bit_xor (spread a b c d) (spread a' b' c' d')
spread-xor a b c d a' b' c' d' =
    let one : across (across (bit_xor a a')) ≡ bit_xor (across (across a)) (across (across a')) =
    ap across (across-xor a a') ∙ across-xor (across a) (across a') in
    ap (λ x. bit_xor (across (bit_xor (across (bit_xor x (bit_xor b b'))) (bit_xor c c'))) (bit_xor d d')) one
    ∙ ap (λ x. bit_xor (across (bit_xor (across x) (bit_xor c c'))) (bit_xor d d')) (exchanged (across (across a)) (across (across a')) b b')
    ∙ ap (λ x. bit_xor (across x) (bit_xor d d')) (next-xor (bit_xor (across (across a)) b) (bit_xor (across (across a')) b') c c')
    ∙ next-xor (bit_xor (across (bit_xor (across (across a)) b)) c) (bit_xor (across (bit_xor (across (across a')) b')) c') d d'

next-shifted_by : (n s t : ℕ) → shifted_by n (bit_xor (across s) t) ≡ bit_xor (across (shifted_by n s)) (shifted_by n t)
next-shifted_by n s t = shifted_by-xor n (across s) t ∙ ap (λ x. bit_xor x (shifted_by n t)) (across-shifted_by n s)

spread-shifted_by : (n a b c d : ℕ) → shifted_by n (spread a b c d) ≡ spread (shifted_by n a) (shifted_by n b) (shifted_by n c) (shifted_by n d)
spread-shifted_by n a b c d =
    next-shifted_by n (bit_xor (across (bit_xor (across (across a)) b)) c) d
    ∙ ap (λ x. bit_xor (across x) (shifted_by n d)) (next-shifted_by n (bit_xor (across (across a)) b) c)
    ∙ ap (λ x. bit_xor (across (bit_xor (across x) (shifted_by n c))) (shifted_by n d)) (next-shifted_by n (across a) b)
    ∙ ap (λ x. bit_xor (across (bit_xor (across (bit_xor (across x) (shifted_by n b))) (shifted_by n c))) (shifted_by n d)) (across-shifted_by n a)

abbrev added : ℕ → List ℕ → ℕ
added k block = register_after 0 (map (folded_byte k) block)

pub first_byte : (b : ℕ) (bytes : List ℕ) → register_after 0 (b ∷ bytes) ≡ bit_xor (shifted_by (8 * length bytes) (shifted_by 8 b)) (register_after 0 bytes)
unfolding register_after
first_byte b bytes = register_after-start (shifted_by 8 b) bytes

added_first : (k x : ℕ) (xs : List ℕ) → added k (x ∷ xs) ≡ bit_xor (shifted_by (8 * length xs) (shifted_by 8 (folded_byte k x))) (added k xs)
added_first k x xs =
    first_byte (folded_byte k x) (map (folded_byte k) xs)
    ∙ ap (λ n. bit_xor (shifted_by (8 * n) (shifted_by 8 (folded_byte k x))) (added k xs)) (length-map xs (folded_byte k))

nothing_spreads : far (register_after 0 []) ≡ spread (register_after 0 []) (register_after 0 []) (register_after 0 []) (register_after 0 [])
unfolding register_after shifted_by shifted
nothing_spreads = refl

-- what some bytes give from five blocks away, four blocks give nearer by
pub block_spreads : (xs : List ℕ) → ((i : ℕ) → get_or xs i 0 < 256) → far (register_after 0 xs) ≡ spread (added 0 xs) (added 1 xs) (added 2 xs) (added 3 xs)
block_spreads [] small = nothing_spreads
block_spreads (x ∷ xs) small =
    let n : ℕ = 8 * length xs in
    let at : ℕ → ℕ = λ k. shifted_by n (shifted_by 8 (folded_byte k x)) in
    ap far (first_byte x xs)
    ∙ far-xor (shifted_by n (shifted_by 8 x)) (register_after 0 xs)
    ∙ ap (bit_xor (far (shifted_by n (shifted_by 8 x)))) (block_spreads xs (λ i. small (suc i)))
    ∙ ap (λ y. bit_xor y (spread (added 0 xs) (added 1 xs) (added 2 xs) (added 3 xs)))
    (sym (far-shifted_by n (shifted_by 8 x)) ∙ ap (shifted_by n) (byte_spreads x (small 0))
    ∙ spread-shifted_by n (shifted_by 8 (folded_byte 0 x)) (shifted_by 8 (folded_byte 1 x)) (shifted_by 8 (folded_byte 2 x)) (shifted_by 8 (folded_byte 3 x)))
    ∙ sym (spread-xor (at 0) (at 1) (at 2) (at 3) (added 0 xs) (added 1 xs) (added 2 xs) (added 3 xs))
    ∙ (λ i. spread (sym (added_first 0 x xs) i) (sym (added_first 1 x xs) i) (sym (added_first 2 x xs) i) (sym (added_first 3 x xs) i))

-- ---- six blocks

-- a part of the register that goes on beside the rest
beside : (r s : ℕ) (block : List ℕ) → length block ≡ 16 → register_after (bit_xor r s) block ≡ bit_xor (register_after r block) (across s)
beside r s block long =
    let bits : 8 * length block ≡ 128 = omega (arith, long) in
    let alone : (q : ℕ) → register_after q block ≡ bit_xor (across q) (register_after 0 block) =
    λ q. register_after-start q block ∙ ap (λ k. bit_xor (shifted_by k q) (register_after 0 block)) bits in
    alone (bit_xor r s)
    ∙ ap (λ x. bit_xor x (register_after 0 block)) (across-xor r s)
    ∙ xor_assoc (across r) (across s) (register_after 0 block)
    ∙ ap (bit_xor (across r)) (xor_comm (across s) (register_after 0 block))
    ∙ sym (xor_assoc (across r) (register_after 0 block) (across s))
    ∙ ap (λ x. bit_xor x (across s)) (sym (alone r))

-- the same where something is xored onto the block too
beside_added : (r s : ℕ) (block more : List ℕ) → length block ≡ 16 → length more ≡ 16 → register_after (bit_xor r s) (zip2 bit_xor block more) ≡ bit_xor (register_after r block) (bit_xor (across s) (register_after 0 more))
beside_added r s block more long same =
    let bits : 8 * length more ≡ 128 = omega (arith, same) in
    register_after-xor r s block more (long ∙ sym same)
    ∙ ap (bit_xor (register_after r block)) (register_after-start s more ∙ ap (λ k. bit_xor (shifted_by k s) (register_after 0 more)) bits)

pub one_by_one : (a b c d e : List ℕ) → register_after 0 (a ++ b ++ c ++ d ++ e) ≡ register_after (register_after (register_after (register_after (register_after 0 a) b) c) d) e
one_by_one a b c d e = simp register_after-append

module _ (a b c d e n : List ℕ) (la : length a ≡ 16) (lb : length b ≡ 16) (lc : length c ≡ 16) (ld : length d ≡ 16) (le : length e ≡ 16) (ln : length n ≡ 16) where
  abbrev by : ℕ → List ℕ
  by k = map (folded_byte k) a

  by_long : (k : ℕ) → length (by k) ≡ 16
  by_long k = length-map a (folded_byte k) ∙ la

  -- the register after the last five blocks alone
  abbrev last_five : ℕ
  last_five = register_after (register_after (register_after (register_after (register_after 0 b) c) d) e) n

  unfolded_first : register_after 0 (a ++ b ++ c ++ d ++ e ++ n) ≡ bit_xor last_five (far (register_after 0 a))
  unfolded_first =
      let ra : ℕ = register_after 0 a in
      let rb : ℕ = register_after 0 b in
      let rc : ℕ = register_after rb c in
      let rd : ℕ = register_after rc d in
      let re : ℕ = register_after rd e in
      register_after-append 0 (a ++ b ++ c ++ d ++ e) n
      ∙ ap (λ r. register_after r n) (one_by_one a b c d e)
      ∙ ap (λ r. register_after (register_after (register_after (register_after r c) d) e) n) (beside 0 ra b lb)
      ∙ ap (λ r. register_after (register_after (register_after r d) e) n) (beside rb (across ra) c lc)
      ∙ ap (λ r. register_after (register_after r e) n) (beside rc (across (across ra)) d ld)
      ∙ ap (λ r. register_after r n) (beside rd (across (across (across ra))) e le)
      ∙ beside re (across (across (across (across ra)))) n ln

  folded_first : register_after 0 (zip2 bit_xor b (by 0) ++ c ++ zip2 bit_xor d (by 1) ++ zip2 bit_xor e (by 2) ++ zip2 bit_xor n (by 3))
      ≡ bit_xor last_five (spread (added 0 a) (added 1 a) (added 2 a) (added 3 a))
  folded_first =
      let rb : ℕ = register_after 0 b in
      let rc : ℕ = register_after rb c in
      let rd : ℕ = register_after rc d in
      let re : ℕ = register_after rd e in
      let s1 : ℕ = across (added 0 a) in
      let s2 : ℕ = bit_xor (across s1) (added 1 a) in
      let s3 : ℕ = bit_xor (across s2) (added 2 a) in
      one_by_one (zip2 bit_xor b (by 0)) c (zip2 bit_xor d (by 1)) (zip2 bit_xor e (by 2)) (zip2 bit_xor n (by 3))
      ∙ ap (λ r. register_after (register_after (register_after (register_after r c) (zip2 bit_xor d (by 1))) (zip2 bit_xor e (by 2))) (zip2 bit_xor n (by 3))) (register_after-xor 0 0 b (by 0) (lb ∙ sym (by_long 0)))
      ∙ ap (λ r. register_after (register_after (register_after r (zip2 bit_xor d (by 1))) (zip2 bit_xor e (by 2))) (zip2 bit_xor n (by 3))) (beside rb (added 0 a) c lc)
      ∙ ap (λ r. register_after (register_after r (zip2 bit_xor e (by 2))) (zip2 bit_xor n (by 3))) (beside_added rc s1 d (by 1) ld (by_long 1))
      ∙ ap (λ r. register_after r (zip2 bit_xor n (by 3))) (beside_added rd s2 e (by 2) le (by_long 2))
      ∙ beside_added re s3 n (by 3) ln (by_long 3)

  -- a block folded into the later ones leaves the register that the message gives
  pub folded : ((i : ℕ) → get_or a i 0 < 256)
      → register_after 0 (zip2 bit_xor b (by 0) ++ c ++ zip2 bit_xor d (by 1) ++ zip2 bit_xor e (by 2) ++ zip2 bit_xor n (by 3)) ≡ register_after 0 (a ++ b ++ c ++ d ++ e ++ n)
  folded small = folded_first ∙ ap (bit_xor last_five) (sym (block_spreads a small)) ∙ sym unfolded_first

-- ---- the first five blocks

pub shifted_by_nothing : (n : ℕ) → shifted_by n 0 ≡ 0
unfolding shifted_by shifted
shifted_by_nothing zero = refl
shifted_by_nothing (suc n) = shifted_by_nothing n

-- a register xored onto the first block is the register before it
xored_before : (r : ℕ) (block own : List ℕ) → length block ≡ length own → ((i : ℕ) → get_or own i 0 < 256) → number own ≡ r → register_after 0 (zip2 bit_xor block own) ≡ register_after r block
xored_before r block own same small is =
    let gone : register_after r own ≡ 0 =
    register_number r own small
    ∙ ap (shifted_by (8 * length own)) (ap (bit_xor r) is ∙ xor_self r)
    ∙ shifted_by_nothing (8 * length own) in
    ap (λ q. register_after q (zip2 bit_xor block own)) (sym (xor_self r))
    ∙ register_after-xor r r block own same
    ∙ ap (bit_xor (register_after r block)) gone
    ∙ xor_zero_r (register_after r block)

pow-256 : (i : ℕ) → 256 ^ i ≡ 2 ^ (8 * i)
pow-256 zero = refl
pow-256 (suc i) =
    let more : 8 * i + 8 ≡ 8 * suc i = omega arith in
    pow-suc 256 i ∙ ap (λ x. x * 256) (pow-256 i) ∙ sym (pow-add 2 (8 * i) 8) ∙ ap (λ k. 2 ^ k) more

byte_at_is : (i n : ℕ) → byte_at i n ≡ n / 2 ^ (8 * i) % 256
byte_at_is zero n = omega arith
byte_at_is (suc i) n = ap (λ x. n / x % 256) (pow-256 (suc i))

pub number-bytes_low_first : (i k n : ℕ) → number (bytes_low_first i k n) ≡ n / 2 ^ (8 * i) % 2 ^ (8 * k)
unfolding number
number-bytes_low_first i zero n = omega arith
number-bytes_low_first i (suc k) n =
    let m : ℕ = n / 2 ^ (8 * i) in
    let more : 8 * i + 8 ≡ 8 * suc i = omega arith in
    let wider : 8 * k + 8 ≡ 8 * suc k = omega arith in
    let next : n / 2 ^ (8 * suc i) ≡ m / 2 ^ 8 = ap (λ j. n / 2 ^ j) (sym more) ∙ sym (shr-shr n (8 * i) 8) in
    let rest : number (bytes_low_first (suc i) k n) ≡ m / 2 ^ 8 % 2 ^ (8 * k) = number-bytes_low_first (suc i) k n ∙ ap (λ x. x % 2 ^ (8 * k)) next in
    let whole : m % 2 ^ (8 * suc k) ≡ (m / 2 ^ 8 % 2 ^ (8 * k)) * 2 ^ 8 + m % 2 ^ 8 = ap (λ j. m % 2 ^ j) (sym wider) ∙ mod-pow-add m (8 * k) 8 in
    let byte : byte_at i n ≡ m % 256 = byte_at_is i n in
    omega (arith, rest, whole, byte)

pub bytes_low_first-lt : (i k n j : ℕ) → get_or (bytes_low_first i k n) j 0 < 256
bytes_low_first-lt i zero n j = omega arith
bytes_low_first-lt i (suc k) n zero = omega (arith, byte_at_is i n)
bytes_low_first-lt i (suc k) n (suc j) = bytes_low_first-lt (suc i) k n j

-- a message of five blocks, block by block
pub five_blocks : (r : ℕ) (xs : List ℕ) → length xs ≡ 80 → register_after (register_after (register_after (register_after (register_after r (take 16 xs)) (take 16 (drop 16 xs))) (take 16 (drop 32 xs))) (take 16 (drop 48 xs))) (take 16 (drop 64 xs)) ≡ register_after r xs
five_blocks r xs long =
    let last : length (drop 64 xs) ≤ 16 = omega (arith, length-drop 64 xs) in
    let step : (q k : ℕ) → register_after (register_after q (take 16 (drop k xs))) (drop (k + 16) xs) ≡ register_after q (drop k xs) =
    λ q k. ap (register_after (register_after q (take 16 (drop k xs)))) (sym (drop-drop 16 k xs)) ∙ register_after-cut q 16 (drop k xs) in
    let r1 : ℕ = register_after r (take 16 xs) in
    let r2 : ℕ = register_after r1 (take 16 (drop 16 xs)) in
    let r3 : ℕ = register_after r2 (take 16 (drop 32 xs)) in
    let r4 : ℕ = register_after r3 (take 16 (drop 48 xs)) in
    ap (register_after r4) (take_all 16 (drop 64 xs) last)
    ∙ step r3 48 ∙ step r2 32 ∙ step r1 16 ∙ register_after-cut r 16 xs

-- one more block folded in, where q is the register so far
pub fold_step : (had ys folded : List ℕ) (q : ℕ) → register_after 0 folded ≡ register_after 0 (had ++ take 16 (take 16 ys)) → register_after 0 had ≡ q → register_after 0 folded ≡ register_after q (take 16 ys)
fold_step had ys folded q step before =
    step ∙ register_after-append 0 had (take 16 (take 16 ys))
    ∙ ap (λ r. register_after r (take 16 (take 16 ys))) before
    ∙ ap (register_after q) (take-take 16 16 ys (le_refl 16))

-- five blocks, the first of them with the register xored onto it
pub begun : (r : ℕ) (xs : List ℕ) → r < 2 ^ 32 → length xs ≡ 80
    → register_after 0 (zip2 bit_xor (take 16 xs) (to_le_bytes w128 r) ++ take 16 (drop 16 xs) ++ take 16 (drop 32 xs) ++ take 16 (drop 48 xs) ++ take 16 (drop 64 xs)) ≡ register_after r xs
begun r xs small long =
    let own : List ℕ = to_le_bytes w128 r in
    let whole : number own ≡ r = number-bytes_low_first 0 16 r ∙ (let e : r / 2 ^ 0 % 2 ^ 128 ≡ r = omega arith in e) in
    let same : length (take 16 xs) ≡ length own = omega (arith, length-take 16 xs) in
    one_by_one (zip2 bit_xor (take 16 xs) own) (take 16 (drop 16 xs)) (take 16 (drop 32 xs)) (take 16 (drop 48 xs)) (take 16 (drop 64 xs))
    ∙ ap (λ q. register_after (register_after (register_after (register_after q (take 16 (drop 16 xs))) (take 16 (drop 32 xs))) (take 16 (drop 48 xs))) (take 16 (drop 64 xs)))
    (xored_before r (take 16 xs) own same (bytes_low_first-lt 0 16 r) whole)
    ∙ five_blocks r xs long

-- ---- messages of one length

xored_is : (xs ys : List ℕ) → xored xs ys ≡ zip2 bit_xor xs ys
xored_is [] ys = refl
xored_is (x ∷ xs) [] = refl
xored_is (x ∷ xs) (y ∷ ys) = ap (λ zs. bit_xor x y ∷ zs) (xored_is xs ys)

length-xored : (xs ys : List ℕ) → length xs ≡ length ys → length (xored xs ys) ≡ length xs
length-xored [] ys h = refl
length-xored (x ∷ xs) [] h = absurd (omega arith)
length-xored (x ∷ xs) (y ∷ ys) h = ap suc (length-xored xs ys (omega arith))

-- each byte is below 256, also past the end
abbrev AreBytes : List ℕ → Type 0
AreBytes xs = (i : ℕ) → get_or xs i 0 < 256

are_bytes : (xs : List ℕ) → All (λ x. x < 256) xs → AreBytes xs
are_bytes xs all i = elim (cases_lt i (length xs)) [
  | inl within ↦ all i 0 within
  | inr past ↦ let none : get_or xs i 0 ≡ 0 = get_or_past xs i 0 past in omega arith
]

xored_bytes : (xs ys : List ℕ) → AreBytes xs → AreBytes ys → AreBytes (xored xs ys)
xored_bytes [] ys hx hy i = omega arith
xored_bytes (x ∷ xs) [] hx hy i = omega arith
xored_bytes (x ∷ xs) (y ∷ ys) hx hy zero = xor_of_8 x y (hx 0) (hy 0)
xored_bytes (x ∷ xs) (y ∷ ys) hx hy (suc i) = xored_bytes xs ys (λ j. hx (suc j)) (λ j. hy (suc j)) i

abbrev all_ones : ℕ
all_ones = 0xFFFF_FFFF

pub remainder-xored : (xs ys zs : List ℕ) → All (λ x. x < 256) xs → All (λ x. x < 256) ys → All (λ x. x < 256) zs → length xs ≡ length ys → length ys ≡ length zs
    → remainder (xored (xored xs ys) zs) ≡ bit_xor (bit_xor (remainder xs) (remainder ys)) (remainder zs)
remainder-xored xs ys zs all_x all_y all_z same_y same_z =
    let hx : AreBytes xs = are_bytes xs all_x in
    let hy : AreBytes ys = are_bytes ys all_y in
    let hz : AreBytes zs = are_bytes zs all_z in
    let two : List ℕ = xored xs ys in
    let rx : ℕ = register_after all_ones xs in
    let ry : ℕ = register_after all_ones ys in
    let rz : ℕ = register_after all_ones zs in
    let long : length two ≡ length zs = length-xored xs ys same_y ∙ same_y ∙ same_z in
    let split : register_after all_ones (xored two zs) ≡ bit_xor (bit_xor rx ry) rz =
    ap (register_after all_ones) (xored_is two zs)
    ∙ register_after-xor (bit_xor all_ones all_ones) all_ones two zs long
    ∙ ap (λ r. bit_xor r rz) (ap (register_after 0) (xored_is xs ys) ∙ register_after-xor all_ones all_ones xs ys same_y) in
    remainder_is (xored two zs) (xored_bytes two zs (xored_bytes xs ys hx hy) hz)
    ∙ ap (λ r. bit_xor r all_ones) split
    ∙ xor_assoc (bit_xor rx ry) rz all_ones
    ∙ ap (λ r. bit_xor r (bit_xor rz all_ones)) (sym (exchanged rx all_ones ry all_ones ∙ xor_zero_r (bit_xor rx ry)))
    ∙ (λ i. bit_xor (bit_xor (sym (remainder_is xs hx) i) (sym (remainder_is ys hy) i)) (sym (remainder_is zs hz) i))
