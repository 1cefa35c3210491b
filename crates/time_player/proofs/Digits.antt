-- The digits of a block, lane by lane.
use Rattle.std.proofs.Common.{◌≡◌, ℕ, zero, suc, ◌+◌, ◌*◌, ◌/◌, ◌%◌, ◌<◌, List, [], ◌∷◌, ◌++◌, length, get_or, map, replicate, bit_and, refl, sym, ap, ◌∙◌, arith, w8}
use Rattle.std.specs.List.{flat_map, range_with_len}
use Rattle.std.proofs.lemmas.List.{get_or-map, length-map, ext_get_or}
use Rattle.std.proofs.lemmas.List.FromFn.{get_or-map-range_with_len}
use Rattle.std.proofs.lemmas.Nat.{and_mask}
use Rattle.std.proofs.lemmas.Simd.{zip2_splat, swz_l, length-swz_l, get_or-swz_l_below}
use lib.Lanes.{zip2, pick_l}
use Rattle.mcap_crc.proofs.Nibbles.{IsBlock, lane_fits, down}
use Rattle.time_player.specs.Text.{hex_digit, hex_byte}
use Rattle.time_player.specs.declared.hex.TheConstants.{DIGITS}

-- the digits are those of the numbers below 16
table_is : DIGITS ≡ map hex_digit (range_with_len 0 16)
table_is = refl

digit_at : (n : ℕ) → n < 16 → get_or DIGITS n 0 ≡ hex_digit n
digit_at n small = ap (λ (l : List ℕ). get_or l n 0) table_is ∙ get_or-map-range_with_len hex_digit 0 16 n n 0 small (omega arith)

-- the digits of numbers g x below 16
looked_up : (g : ℕ → ℕ) (v js : List ℕ) → IsBlock v → js ≡ map g v → ((x : ℕ) → x < 256 → g x < 16) → swz_l w8 16 DIGITS 0 js ≡ map (λ x. hex_digit (g x)) v
looked_up g v js fits e small =
    let long : length js ≡ 16 = ap length e ∙ length-map v g ∙ fits.0 in
    ext_get_or 0 _ _ (length-swz_l w8 16 DIGITS 0 js ∙ long ∙ sym (length-map v (λ x. hex_digit (g x)) ∙ fits.0)) (λ i h.
    let lt : i < 16 = omega (arith, length-swz_l w8 16 DIGITS 0 js) in
    let within : i < length v = omega (arith, fits.0) in
    let is : get_or js i 0 ≡ g (get_or v i 0) = ap (λ l. get_or l i 0) e ∙ get_or-map g v i 0 0 within in
    let below : get_or js i 0 < 16 = omega (arith, small (get_or v i 0) (lane_fits v i fits.1)) in
    let place : 16 * ((0 + i) / 16) + get_or js i 0 ≡ get_or js i 0 = omega arith in
    get_or-swz_l_below w8 16 DIGITS 0 js i (omega arith) below
    ∙ ap (λ k. get_or DIGITS k 0) place
    ∙ digit_at (get_or js i 0) below
    ∙ ap hex_digit is
    ∙ sym (get_or-map (λ x. hex_digit (g x)) v i 0 0 within))

-- what holds of each list of so many elements
AllCells : ℕ → (List ℕ → Type 0) → Type 0
AllCells zero P = P []
AllCells (suc n) P = (x : ℕ) → AllCells n (λ l. P (x ∷ l))

by_cells : (n : ℕ) (P : List ℕ → Type 0) → AllCells n P → (v : List ℕ) → length v ≡ n → P v
unfolding AllCells
by_cells zero P all [] is = all
by_cells zero P all (x ∷ v) is = absurd (omega (arith, is))
by_cells (suc n) P all [] is = absurd (omega (arith, is))
by_cells (suc n) P all (x ∷ v) is = by_cells n (λ l. P (x ∷ l)) (all x) v (omega (arith, is))

abbrev in_turns : List ℕ
in_turns = 0 ∷ 16 ∷ 1 ∷ 17 ∷ 2 ∷ 18 ∷ 3 ∷ 19 ∷ 4 ∷ 20 ∷ 5 ∷ 21 ∷ 6 ∷ 22 ∷ 7 ∷ 23 ∷ 8 ∷ 24 ∷ 9 ∷ 25 ∷ 10 ∷ 26 ∷ 11 ∷ 27 ∷ 12 ∷ 28 ∷ 13 ∷ 29 ∷ 14 ∷ 30 ∷ 15 ∷ 31 ∷ []

abbrev Paired : List ℕ → Type 0
Paired v = pick_l 0 (map (λ x. hex_digit (x / 16)) v ++ map (λ x. hex_digit (x % 16)) v) in_turns ≡ flat_map hex_byte v

all_paired : AllCells 16 Paired
unfolding AllCells
all_paired = λ x0 x1 x2 x3 x4 x5 x6 x7 x8 x9 x10 x11 x12 x13 x14 x15. refl

pub block_digits : (v : List ℕ) → IsBlock v → pick_l 0 (swz_l w8 16 DIGITS 0 (zip2 down v (replicate 16 4)) ++ swz_l w8 16 DIGITS 0 (zip2 bit_and v (replicate 16 15))) in_turns ≡ flat_map hex_byte v
block_digits v fits =
    let high = looked_up (λ x. x / 16) v (zip2 down v (replicate 16 4)) fits (zip2_splat down v 16 4 fits.0) (λ x h. omega arith) in
    let mask : map (λ x. bit_and x 15) v ≡ map (λ x. x % 16) v = ap (λ (f : ℕ → ℕ). map f v) (λ i x. and_mask x 4 i) in
    let low = looked_up (λ x. x % 16) v (zip2 bit_and v (replicate 16 15)) fits (zip2_splat bit_and v 16 15 fits.0 ∙ mask) (λ x h. omega arith) in
    ap (λ (l : List ℕ). pick_l 0 (l ++ swz_l w8 16 DIGITS 0 (zip2 bit_and v (replicate 16 15))) in_turns) high
    ∙ ap (λ (l : List ℕ). pick_l 0 (map (λ x. hex_digit (x / 16)) v ++ l) in_turns) low
    ∙ by_cells 16 Paired all_paired v fits.0
