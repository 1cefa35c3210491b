-- A multiple of the divisor that has five terms: of 300, 155, 117, 89 and 0 shifts of a register,
-- the first are the xor of the others. So are 64 times as many, since squaring doubles each term.
use Rattle.std.proofs.Common.{◌≡◌, ℕ, ◌+◌, ◌<◌, Bool, true, ◌==◌, bit_xor, refl, sym, ap, ◌∙◌, arith, eqb-true}
use lib.Bits.{xor_assoc}
use Rattle.mcap_crc.specs.Register.{shifted, shifted_by}
use Rattle.mcap_crc.proofs.Below.{all_below, each_below}
use Rattle.mcap_crc.proofs.Register.{exchanged, xor_twice, shifted_by-xor, shifted_by-add}

abbrev pub four : ℕ → ℕ → ℕ → ℕ → ℕ
four a b c d = bit_xor (bit_xor a b) (bit_xor c d)

pub four-xor : (a b c d a' b' c' d' : ℕ) → four (bit_xor a a') (bit_xor b b') (bit_xor c c') (bit_xor d d') ≡ bit_xor (four a b c d) (four a' b' c' d')
four-xor a b c d a' b' c' d' =
    ap (λ x. bit_xor x (bit_xor (bit_xor c c') (bit_xor d d'))) (exchanged a a' b b')
    ∙ ap (bit_xor (bit_xor (bit_xor a b) (bit_xor a' b'))) (exchanged c c' d d')
    ∙ exchanged (bit_xor a b) (bit_xor a' b') (bit_xor c d) (bit_xor c' d')

pub four-shifted_by : (n a b c d : ℕ) → shifted_by n (four a b c d) ≡ four (shifted_by n a) (shifted_by n b) (shifted_by n c) (shifted_by n d)
four-shifted_by n a b c d =
    shifted_by-xor n (bit_xor a b) (bit_xor c d)
    ∙ (λ i. bit_xor (shifted_by-xor n a b i) (shifted_by-xor n c d i))

-- what stands in both goes
cancelled : (a b c : ℕ) → bit_xor (bit_xor a b) (bit_xor b c) ≡ bit_xor a c
cancelled a b c = sym (xor_assoc (bit_xor a b) b c) ∙ ap (λ x. bit_xor x c) (xor_twice a b)

-- the square of a sum of four has only the four squares
squared : (q a b c aa bb cc ab ac bc : ℕ) → four (four q a b c) (four a aa ab ac) (four b ab bb bc) (four c ac bc cc) ≡ four q aa bb cc
squared q a b c aa bb cc ab ac bc =
    let others : ℕ = bit_xor (bit_xor b c) (bit_xor ab ac) in
    let upper : bit_xor (four q a b c) (four a aa ab ac) ≡ bit_xor (bit_xor q aa) others =
    exchanged (bit_xor q a) (bit_xor b c) (bit_xor a aa) (bit_xor ab ac) ∙ ap (λ x. bit_xor x others) (cancelled q a aa) in
    let lower : bit_xor (four b ab bb bc) (four c ac bc cc) ≡ bit_xor others (bit_xor bb cc) =
    exchanged (bit_xor b ab) (bit_xor bb bc) (bit_xor c ac) (bit_xor bc cc)
    ∙ (λ i. bit_xor (exchanged b ab c ac i) (cancelled bb bc cc i)) in
    (λ i. bit_xor (upper i) (lower i)) ∙ cancelled (bit_xor q aa) others (bit_xor bb cc)

-- so many shifts are the xor of fewer
abbrev CancelsAt : ℕ → ℕ → ℕ → ℕ → ℕ → Type 0
CancelsAt n a b c q = four q (shifted_by a q) (shifted_by b q) (shifted_by c q) ≡ shifted_by n q

turned_about : (m n q : ℕ) → shifted_by m (shifted_by n q) ≡ shifted_by (m + n) q
turned_about m n q =
    let turned : n + m ≡ m + n = omega arith in
    sym (shifted_by-add n m q) ∙ ap (λ k. shifted_by k q) turned

doubled : (n a b c q : ℕ) → CancelsAt n a b c q → CancelsAt (n + n) (a + a) (b + b) (c + c) q
doubled n a b c q cancels =
    let by : ℕ → ℕ = λ k. shifted_by k q in
    let row : (k : ℕ) → four (by k) (by (k + a)) (by (k + b)) (by (k + c)) ≡ shifted_by n (by k) =
    λ k. (λ i. four (by k) (sym (turned_about k a q) i) (sym (turned_about k b q) i) (sym (turned_about k c q) i))
    ∙ sym (four-shifted_by k q (by a) (by b) (by c))
    ∙ ap (shifted_by k) cancels
    ∙ sym (shifted_by-add n k q) ∙ ap by (let e : n + k ≡ k + n = omega arith in e) ∙ shifted_by-add k n q in
    let ba : a + b ≡ b + a = omega arith in
    let ca : a + c ≡ c + a = omega arith in
    let cb : b + c ≡ c + b = omega arith in
    sym (squared q (by a) (by b) (by c) (by (a + a)) (by (b + b)) (by (c + c)) (by (a + b)) (by (a + c)) (by (b + c)))
    ∙ (λ i. four (cancels i) (row a i) (four (by b) (by (ba i)) (by (b + b)) (by (b + c))) (four (by c) (by (ca i)) (by (cb i)) (by (c + c))))
    ∙ (λ i. four (shifted_by n q) (shifted_by n (by a)) (row b i) (row c i))
    ∙ sym (four-shifted_by n q (by a) (by b) (by c))
    ∙ ap (shifted_by n) cancels
    ∙ sym (shifted_by-add n n q)

byte_ok : ℕ → Bool
byte_ok x = four (shifted_by 8 x) (shifted_by 97 x) (shifted_by 125 x) (shifted_by 163 x) == shifted_by 308 x

bytes_ok : all_below byte_ok 256 ≡ true
unfolding all_below byte_ok shifted shifted_by
bytes_ok = refl

byte_cancels : (x : ℕ) → x < 256 → CancelsAt 300 89 117 155 (shifted_by 8 x)
unfolding byte_ok
byte_cancels x small =
    let at : (n : ℕ) → shifted_by (8 + n) x ≡ shifted_by n (shifted_by 8 x) = λ n. shifted_by-add 8 n x in
    (λ i. four (shifted_by 8 x) (sym (at 89) i) (sym (at 117) i) (sym (at 155) i))
    ∙ eqb-true _ _ (each_below byte_ok 256 x bytes_ok small)
    ∙ at 300

-- the register after a byte that joins an empty one, and after 2400, 1240, 936 and 712 bytes of 0 more
pub far_cancels : (x : ℕ) → x < 256 → CancelsAt 19200 5696 7488 9920 (shifted_by 8 x)
far_cancels x small =
    let q : ℕ = shifted_by 8 x in
    doubled 9600 2848 3744 4960 q
    (doubled 4800 1424 1872 2480 q
    (doubled 2400 712 936 1240 q
    (doubled 1200 356 468 620 q
    (doubled 600 178 234 310 q
    (doubled 300 89 117 155 q (byte_cancels x small))))))
