-- A byte taken into a window, the window before the first byte, and the last bytes of a message.
use Rattle.std.proofs.Common.{◌≡◌, ℕ, zero, suc, ◌+◌, ◌-◌, ◌*◌, ◌/◌, ◌%◌, ◌^◌, ◌<◌, ◌≤◌, List, [], ◌∷◌, ◌++◌, length, get_or, set, take, drop, replicate, bit_xor, refl, sym, ap, ◌∙◌, arith, inl, inr, length-append, length-take, length-drop, drop-drop, drop-cons, append_assoc, append-nil, add-one}
use Rattle.std.proofs.lemmas.List.{get_or-append_right, get_or_append_left, get_or-take, get_or-drop, drop-append-le, take_more_set, drop-set-lt, take_all, get_or_past, ext_get_or, length-replicate}
use Rattle.std.proofs.Math.ListN.{drop_of_length-le}
use Rattle.std.proofs.lemmas.Nat.{xor_comm}
use Rattle.std.proofs.lemmas.Bool.{cases_lt}
use Rattle.std.proofs.lemmas.Simd.{get_or-zip2, length-zip2}
use Rattle.std.proofs.Math.Seq.{drop-append-add}
use Rattle.std.specs.Int.{to_le_bytes, w32}
use lib.Lanes.{zip2}
use lib.Bits.{xor_assoc, xor_self, xor_zero_r}
use Rattle.mcap_crc.specs.Register.{shifted_by, register_after}
use Rattle.mcap_crc.specs.Gather.{from_place, pending, WindowLeaves, turned}
use Rattle.mcap_crc.proofs.Register.{exchanged, xor_twice, shifted_by-xor, shifted_by-add, shifted_by_zero, register_after-append, register_after-cut}
use Rattle.mcap_crc.proofs.Blocks.{number, register_number}
use Rattle.mcap_crc.proofs.Folding.{first_byte, shifted_by_nothing, number-bytes_low_first, bytes_low_first-lt, register_after-start, register_after-xor}
use Rattle.mcap_crc.proofs.Sparse.{four, four-xor, four-shifted_by, far_cancels}

-- ---- a byte taken in

one_byte : (r b : ℕ) → register_after r (b ∷ []) ≡ shifted_by 8 (bit_xor r b)
unfolding register_after
one_byte r b = refl

-- the oldest byte x goes and q comes: what stands from a place on moves by one byte
from_place_next : (n place x q : ℕ) (rest : List ℕ) → length rest + 1 ≡ n → place < n
    → from_place place (rest ++ q ∷ [])
    ≡ bit_xor (bit_xor (shifted_by 8 (from_place place (x ∷ rest))) (shifted_by (8 * n) (shifted_by 8 (get_or (x ∷ rest) place 0)))) (shifted_by (8 * place) (shifted_by 8 q))
from_place_next n place x q rest long within =
    let old : List ℕ = x ∷ rest in
    let y : ℕ = get_or old place 0 in
    let behind : List ℕ = drop place rest in
    let bits : ℕ = 8 * place in
    let m : ℕ = 8 * length behind in
    let after : ℕ = register_after 0 behind in
    let here : place < length old = omega arith in
    let le : place ≤ length rest = omega arith in
    let gone : ℕ = shifted_by (8 * n) (shifted_by 8 y) in
    let stays : ℕ = shifted_by 8 (shifted_by bits after) in
    let whole : m + bits + 8 ≡ 8 * n = omega (arith, length-drop place rest) in
    let turned_about : (v : ℕ) → shifted_by bits (shifted_by 8 v) ≡ shifted_by 8 (shifted_by bits v) =
    λ v. sym (shifted_by-add 8 bits v) ∙ ap (λ k. shifted_by k v) (let e : 8 + bits ≡ bits + 8 = omega arith in e) ∙ shifted_by-add bits 8 v in
    let before : shifted_by 8 (from_place place old) ≡ bit_xor gone stays =
    ap (λ l. shifted_by 8 (shifted_by bits (register_after 0 l))) (drop-cons old place 0 here)
    ∙ ap (λ v. shifted_by 8 (shifted_by bits v)) (first_byte y behind)
    ∙ ap (shifted_by 8) (shifted_by-xor bits (shifted_by m (shifted_by 8 y)) after)
    ∙ shifted_by-xor 8 (shifted_by bits (shifted_by m (shifted_by 8 y))) (shifted_by bits after)
    ∙ ap (λ v. bit_xor v stays)
    (ap (shifted_by 8) (sym (shifted_by-add m bits (shifted_by 8 y))) ∙ sym (shifted_by-add (m + bits) 8 (shifted_by 8 y)) ∙ ap (λ k. shifted_by k (shifted_by 8 y)) whole) in
    let next : from_place place (rest ++ q ∷ []) ≡ bit_xor stays (shifted_by bits (shifted_by 8 q)) =
    ap (λ l. shifted_by bits (register_after 0 l)) (drop-append-le place rest (q ∷ []) le)
    ∙ ap (shifted_by bits) (register_after-append 0 behind (q ∷ []) ∙ one_byte after q ∙ shifted_by-xor 8 after q)
    ∙ shifted_by-xor bits (shifted_by 8 after) (shifted_by 8 q)
    ∙ ap (λ v. bit_xor v (shifted_by bits (shifted_by 8 q))) (turned_about after) in
    next
    ∙ ap (λ v. bit_xor v (shifted_by bits (shifted_by 8 q)))
    (sym (ap (λ v. bit_xor v gone) (before ∙ xor_comm gone stays) ∙ xor_twice stays gone))

mixed : (x b y1 y2 y3 : ℕ) → bit_xor (bit_xor (bit_xor (bit_xor x b) y1) y2) y3 ≡ bit_xor b (four x y1 y2 y3)
mixed x b y1 y2 y3 =
    ap (λ v. bit_xor (bit_xor v y2) y3) (ap (λ v. bit_xor v y1) (xor_comm x b) ∙ xor_assoc b x y1)
    ∙ xor_assoc (bit_xor b (bit_xor x y1)) y2 y3
    ∙ xor_assoc b (bit_xor x y1) (bit_xor y2 y3)

taken : (r b q x : ℕ) (rest : List ℕ) → length rest ≡ 2399 → q < 256
    → q ≡ bit_xor (bit_xor (bit_xor (bit_xor x b) (get_or (x ∷ rest) 712 0)) (get_or (x ∷ rest) 936 0)) (get_or (x ∷ rest) 1240 0)
    → WindowLeaves r (x ∷ rest) → WindowLeaves (shifted_by 8 (bit_xor r b)) (rest ++ q ∷ [])
unfolding pending
taken r b q x rest long small is stands =
    let old : List ℕ = x ∷ rest in
    let all : length rest + 1 ≡ 2400 = omega arith in
    let far : ℕ → ℕ = λ v. shifted_by 19200 (shifted_by 8 v) in
    let was : ℕ → ℕ = λ place. shifted_by 8 (from_place place old) in
    let gone : ℕ → ℕ = λ place. far (get_or old place 0) in
    let come : ℕ → ℕ = λ place. shifted_by (8 * place) (shifted_by 8 q) in
    let sum : ℕ = four x (get_or old 712 0) (get_or old 936 0) (get_or old 1240 0) in
    let next : (place : ℕ) → place < 2400 → from_place place (rest ++ q ∷ []) ≡ bit_xor (bit_xor (was place) (gone place)) (come place) =
    λ place h. from_place_next 2400 place x q rest all h in
    let four_was : four (was 0) (was 712) (was 936) (was 1240) ≡ far r =
    sym (four-shifted_by 8 (from_place 0 old) (from_place 712 old) (from_place 936 old) (from_place 1240 old))
    ∙ ap (shifted_by 8) stands
    ∙ sym (shifted_by-add 19200 8 r) ∙ shifted_by-add 8 19200 r in
    let far-xor : (u v : ℕ) → far (bit_xor u v) ≡ bit_xor (far u) (far v) =
    λ u v. ap (shifted_by 19200) (shifted_by-xor 8 u v) ∙ shifted_by-xor 19200 (shifted_by 8 u) (shifted_by 8 v) in
    let four_gone : four (gone 0) (gone 712) (gone 936) (gone 1240) ≡ far sum =
    sym (ap (shifted_by 19200) (four-shifted_by 8 x (get_or old 712 0) (get_or old 936 0) (get_or old 1240 0))
    ∙ four-shifted_by 19200 (shifted_by 8 x) (shifted_by 8 (get_or old 712 0)) (shifted_by 8 (get_or old 936 0)) (shifted_by 8 (get_or old 1240 0))) in
    let four_come : four (come 0) (come 712) (come 936) (come 1240) ≡ far q =
    ap (λ v. four v (come 712) (come 936) (come 1240)) (shifted_by_zero (shifted_by 8 q)) ∙ far_cancels q small in
    (λ i. four (next 0 (omega arith) i) (next 712 (omega arith) i) (next 936 (omega arith) i) (next 1240 (omega arith) i))
    ∙ four-xor (bit_xor (was 0) (gone 0)) (bit_xor (was 712) (gone 712)) (bit_xor (was 936) (gone 936)) (bit_xor (was 1240) (gone 1240)) (come 0) (come 712) (come 936) (come 1240)
    ∙ ap (λ v. bit_xor v (four (come 0) (come 712) (come 936) (come 1240)))
    (four-xor (was 0) (was 712) (was 936) (was 1240) (gone 0) (gone 712) (gone 936) (gone 1240))
    ∙ (λ i. bit_xor (bit_xor (four_was i) (four_gone i)) (four_come i))
    ∙ ap (λ v. bit_xor v (far q)) (sym (far-xor r sum))
    ∙ sym (far-xor (bit_xor r sum) q)
    ∙ ap far
    (ap (bit_xor (bit_xor r sum)) (is ∙ mixed x b (get_or old 712 0) (get_or old 936 0) (get_or old 1240 0))
    ∙ exchanged r sum b sum ∙ ap (bit_xor (bit_xor r b)) (xor_self sum) ∙ xor_zero_r (bit_xor r b))

-- ---- a window that turns

turned_at : (w : List ℕ) (at place k : ℕ) → length w ≡ 2400 → at < 2400 → place < 2400 → k ≡ (at + place) % 2400 → get_or (turned at w) place 0 ≡ get_or w k 0
turned_at w at place k long here within is =
    let front : length (drop at w) ≡ 2400 - at = omega (arith, length-drop at w) in
    elim (cases_lt place (2400 - at)) [
      | inl before ↦
          let lt : place < length (drop at w) = omega arith in
          let sum : at + place ≡ k = omega arith in
          get_or_append_left (drop at w) (take at w) 0 place lt ∙ get_or-drop at w place 0 ∙ ap (λ j. get_or w j 0) sum
      | inr past ↦
          let same : place - (2400 - at) ≡ k = omega arith in
          let lt : k < at = omega arith in
          get_or-append_right (drop at w) (take at w) (2400 - at) place 0 front past
          ∙ ap (λ j. get_or (take at w) j 0) same
          ∙ get_or-take at w k 0 lt
    ]

-- one step of the loop
pub taken_in : (r b at near middle far q : ℕ) (w : List ℕ) → length w ≡ 2400 → at < 2400 → q < 256
    → near ≡ (at + 712) % 2400 → middle ≡ (at + 936) % 2400 → far ≡ (at + 1240) % 2400
    → q ≡ bit_xor (bit_xor (bit_xor (bit_xor (get_or w at 0) b) (get_or w near 0)) (get_or w middle 0)) (get_or w far 0)
    → WindowLeaves r (turned at w) → WindowLeaves (shifted_by 8 (bit_xor r b)) (turned (at + 1) (set w at q))
taken_in r b at near middle far q w long here small near_is middle_is far_is is stands =
    let x : ℕ = get_or w at 0 in
    let rest : List ℕ = drop (suc at) w ++ take at w in
    let within : at < length w = omega arith in
    let past : at < at + 1 = omega arith in
    let short : length rest ≡ 2399 = omega (arith, length-append (drop (suc at) w) (take at w), length-drop (suc at) w, length-take at w) in
    let now : turned at w ≡ x ∷ rest = ap (λ l. l ++ take at w) (drop-cons w at 0 within) in
    let next : turned (at + 1) (set w at q) ≡ rest ++ q ∷ [] =
    (λ i. drop-set-lt (at + 1) w at q past i ++ take_more_set w at q within i)
    ∙ ap (λ k. drop k w ++ (take at w ++ q ∷ [])) (add-one at)
    ∙ sym (append_assoc (drop (suc at) w) (take at w) (q ∷ [])) in
    let place : (d k : ℕ) → d < 2400 → k ≡ (at + d) % 2400 → get_or w k 0 ≡ get_or (x ∷ rest) d 0 =
    λ d k h e. sym (turned_at w at d k long here h e) ∙ ap (λ l. get_or l d 0) now in
    let parts : q ≡ bit_xor (bit_xor (bit_xor (bit_xor x b) (get_or (x ∷ rest) 712 0)) (get_or (x ∷ rest) 936 0)) (get_or (x ∷ rest) 1240 0) =
    is ∙ (λ i. bit_xor (bit_xor (bit_xor (bit_xor x b) (place 712 near (omega arith) near_is i)) (place 936 middle (omega arith) middle_is i)) (place 1240 far (omega arith) far_is i)) in
    ap pending next ∙ taken r b q x rest short small parts (ap pending (sym now) ∙ stands)

pub turned_none : (w : List ℕ) → turned 0 w ≡ w
turned_none w = append-nil w

pub turned_whole : (w : List ℕ) → length w ≡ 2400 → turned 2400 w ≡ w
turned_whole w long =
    let le : length w ≤ 2400 = omega arith in
    (λ i. drop_of_length-le w le i ++ take_all 2400 w le i)

-- a block in the four pieces in which it is taken in
pub four_pieces : (r : ℕ) (xs : List ℕ) → length xs ≡ 2400
    → register_after (register_after (register_after (register_after r (take 1160 xs)) (take 304 (drop 1160 xs))) (take 224 (drop 1464 xs))) (take 712 (drop 1688 xs)) ≡ register_after r xs
four_pieces r xs long =
    let le : length (drop 1688 xs) ≤ 712 = omega (arith, length-drop 1688 xs) in
    let step : (q k n : ℕ) → register_after (register_after q (take n (drop k xs))) (drop (k + n) xs) ≡ register_after q (drop k xs) =
    λ q k n. ap (register_after (register_after q (take n (drop k xs)))) (sym (drop-drop n k xs)) ∙ register_after-cut q n (drop k xs) in
    let r1 : ℕ = register_after r (take 1160 xs) in
    let r2 : ℕ = register_after r1 (take 304 (drop 1160 xs)) in
    let r3 : ℕ = register_after r2 (take 224 (drop 1464 xs)) in
    ap (register_after r3) (take_all 712 (drop 1688 xs) le)
    ∙ step r2 1464 224 ∙ step r1 1160 304 ∙ register_after-cut r 1160 xs

-- ---- the window before the first byte

register_zeros : (r n : ℕ) → register_after r (replicate n 0) ≡ shifted_by (8 * n) r
unfolding register_after
register_zeros r zero = sym (shifted_by_zero r)
register_zeros r (suc n) =
    let longer : 8 + 8 * n ≡ 8 * suc n = omega arith in
    register_zeros (shifted_by 8 (bit_xor r 0)) n
    ∙ ap (λ x. shifted_by (8 * n) (shifted_by 8 x)) (xor_zero_r r)
    ∙ sym (shifted_by-add 8 (8 * n) r) ∙ ap (λ k. shifted_by k r) longer

drop_zeros : (k n : ℕ) → drop {A = ℕ} k (replicate n 0) ≡ replicate (n - k) 0
drop_zeros zero n = ap (λ m. replicate m 0) (let e : n ≡ n - 0 = omega arith in e)
drop_zeros (suc k) zero = ap (λ m. replicate m 0) (let e : 0 ≡ 0 - suc k = omega arith in e)
drop_zeros (suc k) (suc n) = drop_zeros k n ∙ ap (λ m. replicate m 0) (let e : n - k ≡ suc n - suc k = omega arith in e)

-- four bytes and zeros: only the whole of them leaves anything
first_place : (place n : ℕ) (own : List ℕ) → length own ≡ 4 → 4 ≤ place → from_place place (own ++ replicate n 0) ≡ 0
first_place place n own long past =
    let k : ℕ = place - 4 in
    let whole : place ≡ length own + k = omega arith in
    ap (λ j. shifted_by (8 * place) (register_after 0 (drop j (own ++ replicate n 0)))) whole
    ∙ ap (λ l. shifted_by (8 * place) (register_after 0 l)) (drop-append-add own (replicate n 0) k ∙ drop_zeros k n)
    ∙ ap (shifted_by (8 * place)) (register_zeros 0 (n - k) ∙ shifted_by_nothing (8 * (n - k)))
    ∙ shifted_by_nothing (8 * place)

first_window : (r : ℕ) (own : List ℕ) → r < 2 ^ 32 → own ≡ to_le_bytes w32 r → pending (own ++ replicate 2396 0) ≡ shifted_by 19200 r
unfolding pending
first_window r own small is =
    let bytes : List ℕ = to_le_bytes w32 r in
    let long : length own ≡ 4 = ap length is in
    let value : number bytes ≡ r = number-bytes_low_first 0 4 r ∙ (let e : r / 2 ^ 0 % 2 ^ 32 ≡ r = omega arith in e) in
    let front : register_after 0 own ≡ shifted_by 32 r =
    ap (register_after 0) is ∙ register_number 0 bytes (bytes_low_first-lt 0 4 r)
    ∙ ap (λ x. shifted_by 32 (bit_xor 0 x)) value ∙ ap (shifted_by 32) (xor_comm 0 r ∙ xor_zero_r r) in
    let all : from_place 0 (own ++ replicate 2396 0) ≡ shifted_by 19200 r =
    shifted_by_zero (register_after 0 (own ++ replicate 2396 0))
    ∙ register_after-append 0 own (replicate 2396 0)
    ∙ ap (λ x. register_after x (replicate 2396 0)) front
    ∙ register_zeros (shifted_by 32 r) 2396
    ∙ sym (shifted_by-add 32 19168 r) in
    (λ i. four (all i) (first_place 712 2396 own long (omega arith) i) (first_place 936 2396 own long (omega arith) i) (first_place 1240 2396 own long (omega arith) i))
    ∙ xor_zero_r (bit_xor (shifted_by 19200 r) 0) ∙ xor_zero_r (shifted_by 19200 r)

pub first_stands : (r : ℕ) (own : List ℕ) → r < 2 ^ 32 → own ≡ to_le_bytes w32 r → WindowLeaves r (own ++ drop 4 (replicate 2400 0))
first_stands r own small is = ap (λ l. pending (own ++ l)) (drop_zeros 4 2400) ∙ first_window r own small is

-- ---- the last bytes of a message

zero_anywhere : (n k : ℕ) → get_or {A = ℕ} (replicate n 0) k 0 ≡ 0
zero_anywhere zero k = refl
zero_anywhere (suc n) zero = refl
zero_anywhere (suc n) (suc k) = zero_anywhere n k

-- zeros behind some numbers read as what is past their end
pub zeros_behind : (xs : List ℕ) (n m k : ℕ) → get_or (xs ++ drop n (replicate m 0)) k 0 ≡ get_or xs k 0
zeros_behind xs n m k = elim (cases_lt k (length xs)) [
  | inl within ↦ get_or_append_left xs (drop n (replicate m 0)) 0 k within
  | inr past ↦
      get_or-append_right xs (drop n (replicate m 0)) (length xs) k 0 refl past
      ∙ get_or-drop n (replicate m 0) (k - length xs) 0 ∙ zero_anywhere m (n + (k - length xs))
      ∙ sym (get_or_past xs k 0 past)
]

-- the window from a place on, with zeros behind it as long as it was
reaching : ℕ → List ℕ → List ℕ
reaching place w = drop place w ++ replicate place 0

length-reaching : (place : ℕ) (w : List ℕ) → place ≤ length w → length (reaching place w) ≡ length w
unfolding reaching
length-reaching place w h = omega (arith, length-append (drop place w) (replicate place 0), length-drop place w, length-replicate {A = ℕ} place 0)

reaching_at : (place k : ℕ) (w : List ℕ) → get_or (reaching place w) k 0 ≡ get_or w (k + place) 0
unfolding reaching
reaching_at place k w =
    let turned_about : place + k ≡ k + place = omega arith in
    zeros_behind (drop place w) 0 place k ∙ get_or-drop place w k 0 ∙ ap (λ j. get_or w j 0) turned_about

register_reaching : (place : ℕ) (w : List ℕ) → register_after 0 (reaching place w) ≡ from_place place w
unfolding reaching
register_reaching place w = register_after-append 0 (drop place w) (replicate place 0) ∙ register_zeros (register_after 0 (drop place w)) place

pub xored_on : (r : ℕ) (w m last : List ℕ) → length w ≡ 2400 → length m ≡ 2400 → length last ≡ 2400
    → ((k : ℕ) → k < 2400 → get_or last k 0 ≡ bit_xor (bit_xor (bit_xor (bit_xor (get_or w k 0) (get_or m k 0)) (get_or w (k + 712) 0)) (get_or w (k + 936) 0)) (get_or w (k + 1240) 0))
    → WindowLeaves r w → register_after 0 last ≡ register_after r m
unfolding pending
xored_on r w m last long_w long_m long_last each stands =
    let long : (place : ℕ) → place ≤ 2400 → length (reaching place w) ≡ 2400 = λ place h. length-reaching place w (omega arith) ∙ long_w in
    let a : List ℕ = reaching 0 w in
    let b : List ℕ = reaching 712 w in
    let c : List ℕ = reaching 936 w in
    let d : List ℕ = reaching 1240 w in
    let la : length a ≡ 2400 = long 0 (omega arith) in
    let lb : length b ≡ 2400 = long 712 (omega arith) in
    let lc : length c ≡ 2400 = long 936 (omega arith) in
    let ld : length d ≡ 2400 = long 1240 (omega arith) in
    let ab : List ℕ = zip2 bit_xor a b in
    let cd : List ℕ = zip2 bit_xor c d in
    let lab : length ab ≡ 2400 = length-zip2 bit_xor a b (la ∙ sym lb) ∙ la in
    let lcd : length cd ≡ 2400 = length-zip2 bit_xor c d (lc ∙ sym ld) ∙ lc in
    let lall : length (zip2 bit_xor ab cd) ≡ 2400 = length-zip2 bit_xor ab cd (lab ∙ sym lcd) ∙ lab in
    let is : last ≡ zip2 bit_xor m (zip2 bit_xor ab cd) =
    ext_get_or 0 last (zip2 bit_xor m (zip2 bit_xor ab cd)) (long_last ∙ sym (length-zip2 bit_xor m (zip2 bit_xor ab cd) (long_m ∙ sym lall) ∙ long_m)) (λ k h.
    let lt : k < 2400 = omega arith in
    let at : (xs ys : List ℕ) → length xs ≡ 2400 → length ys ≡ 2400 → get_or (zip2 bit_xor xs ys) k 0 ≡ bit_xor (get_or xs k 0) (get_or ys k 0) =
    λ xs ys lx ly. get_or-zip2 bit_xor xs ys k 0 0 0 (omega arith) (omega arith) in
    let none : k + 0 ≡ k = omega arith in
    each k lt
    ∙ mixed (get_or w k 0) (get_or m k 0) (get_or w (k + 712) 0) (get_or w (k + 936) 0) (get_or w (k + 1240) 0)
    ∙ sym (at m (zip2 bit_xor ab cd) long_m lall
    ∙ ap (bit_xor (get_or m k 0)) (at ab cd lab lcd ∙ (λ i. bit_xor (at a b la lb i) (at c d lc ld i))
    ∙ (λ i. four ((reaching_at 0 k w ∙ ap (λ j. get_or w j 0) none) i) (reaching_at 712 k w i) (reaching_at 936 k w i) (reaching_at 1240 k w i))))) in
    let pair : (xs ys : List ℕ) → length xs ≡ 2400 → length ys ≡ 2400 → register_after 0 (zip2 bit_xor xs ys) ≡ bit_xor (register_after 0 xs) (register_after 0 ys) =
    λ xs ys lx ly. register_after-xor 0 0 xs ys (lx ∙ sym ly) in
    let bits : 8 * length m ≡ 19200 = omega arith in
    ap (register_after 0) is ∙ pair m (zip2 bit_xor ab cd) long_m lall
    ∙ ap (bit_xor (register_after 0 m))
    (pair ab cd lab lcd ∙ (λ i. bit_xor (pair a b la lb i) (pair c d lc ld i))
    ∙ (λ i. four (register_reaching 0 w i) (register_reaching 712 w i) (register_reaching 936 w i) (register_reaching 1240 w i))
    ∙ stands ∙ ap (λ k. shifted_by k r) (sym bits))
    ∙ xor_comm (register_after 0 m) (shifted_by (8 * length m) r)
    ∙ sym (register_after-start r m)
