-- A number and its bytes: each gives the other back.
use Rattle.std.proofs.Common.{◌≡◌, ℕ, zero, suc, ◌+◌, ◌*◌, ◌/◌, ◌%◌, ◌^◌, ◌<◌, ◌≤◌, List, [], ◌∷◌, ◌++◌, length, get_or, take, drop, refl, sym, ap, ◌∙◌, arith}
use Rattle.std.proofs.Math.Nat.{div-div-eq-div-mul, div-one, pow-suc}
use Rattle.std.proofs.lemmas.Nat.{div_below}
use Rattle.std.proofs.lemmas.List.{append-nil, drop_more}
use Rattle.std.specs.Int.{byte_at, bytes_low_first}
use Rattle.byteorder.specs.Endian.{little_from, little_number, little_bytes}
use Rattle.mcap_wire.specs.Layout.{le, number}

-- each item is a byte
abbrev pub AreBytes : List ℕ → Type 0
AreBytes bytes = (i : ℕ) → get_or bytes i 0 < 256

pub length-le : (n v : ℕ) → length (le n v) ≡ n
unfolding le
length-le zero v = refl
length-le (suc n) v = ap suc (length-le n (v / 256))

pub number-le : (n v : ℕ) → v < 256 ^ n → number (le n v) ≡ v
unfolding le number
number-le zero v small = omega arith
number-le (suc n) v small =
    let rest : number (le n (v / 256)) ≡ v / 256 = number-le n (v / 256) (div_below v 256 (256 ^ n) (omega arith) (omega (arith, pow-suc 256 n))) in
    omega (arith, rest)

-- two numbers with the same bytes are equal
pub le_injective : (n v w : ℕ) → v < 256 ^ n → w < 256 ^ n → le n v ≡ le n w → v ≡ w
le_injective n v w v_fits w_fits same = sym (number-le n v v_fits) ∙ ap number same ∙ number-le n w w_fits

pub le-number : (bytes : List ℕ) → AreBytes bytes → le (length bytes) (number bytes) ≡ bytes
unfolding le number
le-number [] fits = refl
le-number (b ∷ bytes) fits =
    let small : b < 256 = fits 0 in
    let low : (b + 256 * number bytes) % 256 ≡ b = omega arith in
    let high : (b + 256 * number bytes) / 256 ≡ number bytes = omega arith in
    let rest : le (length bytes) (number bytes) ≡ bytes = le-number bytes (λ i. fits (suc i)) in
    rw (low, high, rest)

pub number_below : (bytes : List ℕ) → AreBytes bytes → number bytes < 256 ^ length bytes
unfolding number
number_below [] fits = omega arith
number_below (b ∷ bytes) fits =
    omega (arith, fits 0, number_below bytes (λ i. fits (suc i)), pow-suc 256 (length bytes))

byte_at_is : (i n : ℕ) → byte_at i n ≡ n / 256 ^ i % 256
byte_at_is zero n = ap (λ (m : ℕ). m % 256) (sym (div-one n))
byte_at_is (suc i) n = refl

-- the bytes of a number, from byte i upward
pub bytes_low_first-le : (i k n : ℕ) → bytes_low_first i k n ≡ le k (n / 256 ^ i)
unfolding le
bytes_low_first-le i zero n = refl
bytes_low_first-le i (suc k) n =
    let next : n / 256 ^ suc i ≡ n / 256 ^ i / 256 = ap (λ (m : ℕ). n / m) (pow-suc 256 i) ∙ sym (div-div-eq-div-mul n (256 ^ i) 256) in
    let first = byte_at_is i n in
    let rest : bytes_low_first (suc i) k n ≡ le k (n / 256 ^ i / 256) = bytes_low_first-le (suc i) k n ∙ ap (le k) next in
    cc

-- the bytes of a number, from its first on
pub written : (k n : ℕ) → bytes_low_first 0 k n ≡ le k n
written k n = bytes_low_first-le 0 k n ∙ ap (le k) (div-one n)

-- what `LittleEndian` writes into an array of as many bytes
pub written_alone : (k n : ℕ) → little_bytes k n ++ [] ≡ le k n
written_alone k n = append-nil (little_bytes k n) ∙ written k n

-- a byte is itself
pub le_one : (v : ℕ) → v < 256 → le 1 v ≡ v ∷ []
unfolding le
le_one v small = let low : v % 256 ≡ v = omega arith in ap (λ (b : ℕ). b ∷ []) low

-- the number that `LittleEndian` reads in n bytes from place i on
little_from_is : (n i : ℕ) (xs : List ℕ) → i + n ≤ length xs → little_from i n xs ≡ number (take n (drop i xs))
unfolding number
little_from_is zero i xs long = refl
little_from_is (suc n) i xs long =
    let first : drop i xs ≡ get_or xs i 0 ∷ drop (i + 1) xs = drop_more xs i 0 (omega arith) in
    let place : suc i ≡ i + 1 = omega arith in
    let rest : little_from (suc i) n xs ≡ number (take n (drop (i + 1) xs)) =
    little_from_is n (suc i) xs (omega arith) ∙ ap (λ (k : ℕ). number (take n (drop k xs))) place in
    ap (λ (m : ℕ). get_or xs i 0 + 256 * m) rest ∙ sym (ap (λ (l : List ℕ). number (take (suc n) l)) first)

pub number_is : (n : ℕ) (xs : List ℕ) → n ≤ length xs → little_number n xs ≡ number (take n xs)
number_is n xs long = little_from_is n 0 xs (omega arith)
