-- Look-ups in sixteen cells, lane by lane.
use Rattle.std.proofs.Common.{◌≡◌, ℕ, ◌+◌, ◌*◌, ◌/◌, ◌<◌, List, [], length, get_or, map, replicate, bit_and, bit_xor, sym, ap, ◌∙◌, arith, w8}
use Rattle.std.proofs.lemmas.List.{get_or-map, length-map, ext_get_or}
use Rattle.std.proofs.lemmas.Nat.{and_le_r}
use Rattle.std.proofs.lemmas.Simd.{zip2_splat, zip2_of_maps, swz_l, length-swz_l, get_or-swz_l_below}
use lib.Lanes.{zip2}
use Rattle.mcap_crc.proofs.Nibbles.{IsBlock, lane_fits, down}
use Rattle.mcap_crc.specs.Fold.{folded_byte}
use Rattle.mcap_crc.specs.declared.tables.TheConstants.{FOLDS}

-- cells read at places g x below 16
looked_up : (cells : List ℕ) (g : ℕ → ℕ) (v js : List ℕ) → IsBlock v → js ≡ map g v → ((x : ℕ) → x < 256 → g x < 16)
    → swz_l w8 16 cells 0 js ≡ map (λ x. get_or cells (g x) 0) v
looked_up cells g v js fits e small =
    let long : length js ≡ 16 = ap length e ∙ length-map v g ∙ fits.0 in
    ext_get_or 0 _ _ (length-swz_l w8 16 cells 0 js ∙ long ∙ sym (length-map v (λ x. get_or cells (g x) 0) ∙ fits.0)) (λ i h.
    let lt : i < 16 = omega (arith, length-swz_l w8 16 cells 0 js) in
    let within : i < length v = omega (arith, fits.0) in
    let is : get_or js i 0 ≡ g (get_or v i 0) = ap (λ l. get_or l i 0) e ∙ get_or-map g v i 0 0 within in
    let below : get_or js i 0 < 16 = omega (arith, small (get_or v i 0) (lane_fits v i fits.1)) in
    let place : 16 * ((0 + i) / 16) + get_or js i 0 ≡ get_or js i 0 = omega arith in
    get_or-swz_l_below w8 16 cells 0 js i (omega arith) below
    ∙ ap (λ k. get_or cells k 0) (place ∙ is) ∙ sym (get_or-map (λ x. get_or cells (g x) 0) v i 0 0 within))

pub block_looked_up : (k : ℕ) (v : List ℕ) → IsBlock v
    → zip2 bit_xor (swz_l w8 16 (get_or FOLDS (2 * k) []) 0 (zip2 bit_and v (replicate 16 15))) (swz_l w8 16 (get_or FOLDS (2 * k + 1) []) 0 (zip2 down v (replicate 16 4)))
    ≡ map (folded_byte k) v
unfolding folded_byte
block_looked_up k v fits =
    zip2_of_maps bit_xor _ _ v
    (looked_up (get_or FOLDS (2 * k) []) (λ x. bit_and x 15) v (zip2 bit_and v (replicate 16 15)) fits (zip2_splat bit_and v 16 15 fits.0) (λ x h. omega (arith, and_le_r x 15)))
    (looked_up (get_or FOLDS (2 * k + 1) []) (λ x. x / 16) v (zip2 down v (replicate 16 4)) fits (zip2_splat down v 16 4 fits.0) (λ x h. omega arith))
