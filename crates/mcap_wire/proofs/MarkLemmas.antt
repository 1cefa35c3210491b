-- A bit of a table is set alone, and a table marks the keys of some counts.
use Rattle.std.proofs.Common.{◌≡◌, ◌≢◌, ℕ, ◌*◌, ◌/◌, ◌%◌, ◌^◌, ◌<◌, true, false, not, eqb, List, [], ◌∷◌, ◌++◌, length, replicate, get_or, set, sym, ap, subst, inl, inr, ◌∙◌, arith, get_or-set_same, get_or-set_other, eq-eqb, ne_eqb, w64, true≢false}
use Rattle.std.specs.Prelude.{bit_and, bit_or}
use Rattle.std.specs.Int.{bit_at}
use Rattle.std.proofs.lemmas.Bool.{cases_eq, not-true, not-false}
use Rattle.std.proofs.lemmas.List.{get_or-replicate, get_or_append_left, length_push}
use Rattle.std.proofs.lemmas.List.Elements.{All-nil, All-push}
use Rattle.std.proofs.lemmas.List.Quantifiers.{Any-push}
use Rattle.std.proofs.lemmas.Nat.{one_shl, pow_pos}
use Rattle.std.proofs.lemmas.Nat.Bits.{bit_at_set_same, bit_at_set_other, bit_at-zero, and_pow}
use Rattle.mcap_wire.specs.MapReading.{HasKey, LacksKey}
use Rattle.mcap_wire.specs.ArrayBytes.{entries_in}
use Rattle.mcap_wire.specs.Marks.{is_marked}
use Rattle.mcap_wire.proofs.ArrayLemmas.{Entry}

-- ---- one bit

-- a bit of a word as `1 << k` makes it
abbrev pub bit : ℕ → ℕ
bit k = 1 * 2 ^ k % 2 ^ 64

-- the test `word & bit == 0`
pub bit_is_clear : (word k : ℕ) → k < 64 → eqb (bit_and word (bit k)) 0 ≡ not (eqb (bit_at word k) 1)
bit_is_clear word k within =
    let e : bit_and word (bit k) ≡ bit_at word k * 2 ^ k = ap (bit_and word) (one_shl k 64 within) ∙ and_pow word k in
    elim (cases_eq (bit_at word k) 1) [
      | inl one ↦
          let some : 0 < bit_and word (bit k) = rw (e, one) (omega (arith, pow_pos k)) in
          ne_eqb _ 0 (omega arith) ∙ sym (ap not (eq-eqb (bit_at word k) 1 one))
      | inr other ↦
          let none : bit_at word k ≡ 0 = omega arith in
          eq-eqb _ 0 (rw (e, none) (omega arith)) ∙ sym (ap not (ne_eqb (bit_at word k) 1 other))
    ]

-- the words after a key's bit is set
abbrev pub with_mark : List ℕ → ℕ → List ℕ
with_mark words key = set words (key / 64) (bit_or (get_or words (key / 64) 0) (bit (key % 64)))

pub marked_there : (words : List ℕ) (key : ℕ) → key / 64 < length words → is_marked (with_mark words key) key ≡ true
marked_there words key within =
    let word = get_or words (key / 64) 0 in
    ap (λ (w : ℕ). eqb (bit_at w (key % 64)) 1) (get_or-set_same words (key / 64) (bit_or word (bit (key % 64))) 0 within)
    ∙ eq-eqb _ 1 (bit_at_set_same w64 word (key % 64) (omega arith))

pub marked_elsewhere : (words : List ℕ) (key : ℕ) → key / 64 < length words → (other : ℕ) → other ≢ key → is_marked (with_mark words key) other ≡ is_marked words other
marked_elsewhere words key within other apart =
    let word = get_or words (key / 64) 0 in
    let now = bit_or word (bit (key % 64)) in
    elim (cases_eq (other / 64) (key / 64)) [
      | inl same ↦
          let low : other % 64 ≢ key % 64 = λ e. apart (omega (arith, same, e)) in
          let read : get_or (with_mark words key) (other / 64) 0 ≡ now = ap (λ (i : ℕ). get_or (with_mark words key) i 0) same ∙ get_or-set_same words (key / 64) now 0 within in
          let kept : bit_at now (other % 64) ≡ bit_at word (other % 64) = bit_at_set_other w64 word (key % 64) (omega arith) (other % 64) low in
          ap (λ (w : ℕ). eqb (bit_at w (other % 64)) 1) read
          ∙ ap (λ (b : ℕ). eqb b 1) kept
          ∙ ap (λ (i : ℕ). eqb (bit_at (get_or words i 0) (other % 64)) 1) (sym same)
      | inr elsewhere ↦
          ap (λ (w : ℕ). eqb (bit_at w (other % 64)) 1) (get_or-set_other words (key / 64) (other / 64) now 0 elsewhere)
    ]

-- ---- the keys of some counts

-- marked are exactly the keys of these counts
pub record MarksKeys (words : List ℕ) (counts : List Entry) : Type 0 where
  pub marked : (key : ℕ) → key < 65536 → is_marked words key ≡ true → HasKey counts key
  pub unmarked : (key : ℕ) → key < 65536 → is_marked words key ≡ false → LacksKey counts key

-- no bit is set at the start
pub none_marked : (key : ℕ) → key < 65536 → is_marked (replicate 1024 0) key ≡ false
none_marked key within =
    ap (λ (w : ℕ). eqb (bit_at w (key % 64)) 1) (get_or-replicate 1024 (key / 64) 0 0 (omega arith))
    ∙ ap (λ (b : ℕ). eqb b 1) (bit_at-zero (key % 64))

pub marks_no_keys : MarksKeys (replicate 1024 0) (entries_in 2 0 [])
unfolding entries_in
marks_no_keys = record {
  marked = λ key within is. absurd (true≢false (sym is ∙ none_marked key within));
  unmarked = λ key within is. All-nil (λ (p : Entry). p.0 ≢ key);
}

-- the key of one more count is marked, and no other
pub marks_one_more : (words now : List ℕ) (counts after : List Entry) (key number : ℕ) → MarksKeys words counts → is_marked now key ≡ true → ((other : ℕ) → other ≢ key → is_marked now other ≡ is_marked words other) → after ≡ counts ++ (key, number) ∷ [] → MarksKeys now after
marks_one_more words now counts after key number marks there elsewhere is =
    subst (MarksKeys now) (sym is) (record { marked = marked_more; unmarked = unmarked_more })
  where
    more : List Entry
    more = counts ++ (key, number) ∷ []

    marked_more : (k : ℕ) → k < 65536 → is_marked now k ≡ true → HasKey more k
    marked_more k within set_there = elim (cases_eq k key) [
      | inl same ↦ Any-push (λ (p : Entry). p.0 ≡ k) counts (key, number) (sym same)
      | inr apart ↦
          let has : HasKey counts k = marks.marked k within (sym (elsewhere k apart) ∙ set_there) in
          (has.0, has.1, omega (arith, has.2, length_push counts (key, number)), get_or_append_left counts ((key, number) ∷ []) has.1 has.0 has.2 ∙ has.3, has.4)
    ]

    unmarked_more : (k : ℕ) → k < 65536 → is_marked now k ≡ false → LacksKey more k
    unmarked_more k within clear = elim (cases_eq k key) [
      | inl same ↦ absurd (true≢false (sym there ∙ ap (is_marked now) (sym same) ∙ clear))
      | inr apart ↦
          All-push (λ (p : Entry). p.0 ≢ k) counts (key, number) (marks.unmarked k within (sym (elsewhere k apart) ∙ clear)) (λ e. apart (sym e))
    ]

-- a key that was marked already stands before, and one that is new doesn't
pub marked_stands : (words : List ℕ) (counts : List Entry) (key : ℕ) → key < 65536 → MarksKeys words counts → false ≡ not (is_marked words key) → HasKey counts key
marked_stands words counts key within marks old = marks.marked key within (not-false (is_marked words key) (sym old))

pub unmarked_lacks : (words : List ℕ) (counts : List Entry) (key : ℕ) → key < 65536 → MarksKeys words counts → true ≡ not (is_marked words key) → LacksKey counts key
unmarked_lacks words counts key within marks new = marks.unmarked key within (not-true (is_marked words key) (sym new))
