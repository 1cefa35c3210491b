-- The record that stands at a place among others.
use Rattle.std.proofs.Common.{◌≡◌, ℕ, zero, suc, ◌+◌, ◌≤◌, Bool, true, false, not, eqb, List, [], ◌∷◌, ◌++◌, length, drop, refl, sym, ap, subst, inl, inr, ◌∙◌, arith}
use Rattle.std.specs.Prelude.{if◌then◌else◌, ◌&&◌}
use Rattle.std.proofs.lemmas.Bool.{leb-true}
use Rattle.std.proofs.lemmas.Bool.Decides.{leb_tells}
use Rattle.std.proofs.Math.ListN.{drop_of_length-le}
use Rattle.std.proofs.lemmas.List.{drop-drop, length-append, length-drop, length-take}
use Rattle.mcap_model.specs.Places.{Has}
use Rattle.mcap_model.specs.Tops.{Top, top_bytes, spelled, opcode, declared_length, has_head, is_whole, first_top, behind_first, begins_record, first_records, records_in}
use Rattle.mcap_model.proofs.Places.{heads, tails}
use Rattle.mcap_model.proofs.Readings.{length-top}
use Rattle.mcap_model.proofs.NamedTopics.{unmapped}
use Rattle.mcap_model.proofs.Unpacking.{none_begins}
use Rattle.merge_walk.specs.Parts.{loaded_part, IsPartLoaded}
use Rattle.merge_walk.specs.Windows.{loaded_in}
use Rattle.merge_walk.specs.declared.turns.Turn.{Turn}
use Rattle.merge_walk.specs.declared.walk.Walk.{Walk}
use Rattle.mcap_scan.specs.Heads.{heads_in}
use Rattle.merge_walk.specs.Cursors.{turn_of}
use Rattle.merge_walk.specs.Walks.{Text, turns_in, HoldsText, IsMessageAt}
use Rattle.merge_walk.proofs.Listed.{head_found}

nothing_begins : (bytes : List ℕ) → length bytes ≤ 0 → begins_record bytes ≡ false
nothing_begins [] few = refl
nothing_begins (b ∷ bs) few = absurd (omega (arith, few))

-- more steps than bytes find nothing more
enough : (n m : ℕ) (bytes : List ℕ) → length bytes ≤ n → length bytes ≤ m → first_records n bytes ≡ first_records m bytes
enough zero m bytes few other = sym (none_begins m bytes (nothing_begins bytes few))
enough (suc n) zero bytes few other = none_begins (suc n) bytes (nothing_begins bytes other)
enough (suc n) (suc m) bytes few other =
    let size = length-drop (9 + declared_length bytes) bytes in
    ap (λ (l : List Top). if begins_record bytes then first_top bytes ∷ l else []) (enough n m (behind_first bytes) (omega (arith, size, few)) (omega (arith, size, other)))

not_none : (t : Top) (ts : List Top) → [] ≡ t ∷ ts → ⊥
not_none t ts e = cc

first_is : (b : Bool) (n : ℕ) (bytes : List ℕ) (t : Top) (ts : List Top) → begins_record bytes ≡ b → (if b then first_top bytes ∷ first_records n (behind_first bytes) else []) ≡ t ∷ ts
    → (begins_record bytes ≡ true) × (first_top bytes ≡ t) × (first_records n (behind_first bytes) ≡ ts)
first_is true n bytes t ts is same = (
  is,
  heads (first_top bytes) t (first_records n (behind_first bytes)) ts same,
  tails (first_top bytes) t (first_records n (behind_first bytes)) ts same,
)
first_is false n bytes t ts is same = absurd (not_none t ts same)

last_of : (a b c : Bool) → (a && (b && c)) ≡ true → c ≡ true
last_of true true c is = is
last_of true false c is = absurd (never is)
  where
    never : false ≡ true → ⊥
    never e = cc
last_of false b c is = absurd (never is)
  where
    never : false ≡ true → ⊥
    never e = cc

-- how many bytes the first record has
first_size : (bytes : List ℕ) → begins_record bytes ≡ true → length (top_bytes (first_top bytes)) ≡ 9 + declared_length bytes
first_size bytes begins =
    let whole = leb-true (9 + declared_length bytes) (length bytes) (last_of (has_head bytes) (not (eqb (opcode bytes) 0)) (is_whole bytes) begins) in
    omega (arith, whole, length-top (first_top bytes), length-take (declared_length bytes) (drop 9 bytes), length-drop 9 bytes)

reached_in : (front : List Top) (r : Top) (back : List Top) (n : ℕ) (bytes : List ℕ) → length bytes ≤ n → first_records n bytes ≡ front ++ r ∷ back
    → first_records (length (drop (length (spelled front)) bytes)) (drop (length (spelled front)) bytes) ≡ r ∷ back
reached_in [] r back n bytes few is = enough (length bytes) n bytes (omega arith) few ∙ is
reached_in (t ∷ ts) r back zero bytes few is = absurd (not_none t (ts ++ r ∷ back) is)
reached_in (t ∷ ts) r back (suc n) bytes few is =
    let one = first_is (begins_record bytes) n bytes t (ts ++ r ∷ back) refl is in
    let first : length (top_bytes t) ≡ length (top_bytes (first_top bytes)) = sym (ap (λ (x : Top). length (top_bytes x)) one.1) in
    let size = first_size bytes one.0 in
    let all : length (spelled (t ∷ ts)) ≡ 9 + declared_length bytes + length (spelled ts) = omega (arith, first, size, length-append (top_bytes t) (spelled ts)) in
    let rest : drop (length (spelled (t ∷ ts))) bytes ≡ drop (length (spelled ts)) (behind_first bytes) = ap (λ (k : ℕ). drop k bytes) all ∙ sym (drop-drop (length (spelled ts)) (9 + declared_length bytes) bytes) in
    ap (λ (l : List ℕ). first_records (length l) l) rest
    ∙ reached_in ts r back n (behind_first bytes) (omega (arith, few, length-drop (9 + declared_length bytes) bytes)) one.2

pub reached : (bytes : List ℕ) (front : List Top) (r : Top) (back : List Top) → records_in bytes ≡ front ++ r ∷ back → records_in (drop (length (spelled front)) bytes) ≡ r ∷ back
unfolding records_in
reached bytes front r back is = reached_in front r back (length bytes) bytes (omega arith) is

-- ---- the record of a turn

pub message_there : (x : Text) (t : Turn) → Has (turns_in x) t → (r : Top) × IsMessageAt x t r × (back : List Top) × (records_in (drop t.inner x.bytes) ≡ r ∷ back)
message_there x t has =
    let (e, at, is) = unmapped (turn_of x.piece) (heads_in x.bytes) has.0 t has.1 in
    let f = head_found 0 (records_in x.bytes) has.0 e at in
    let place = f.place in
    let inner : t.inner ≡ e.offset = sym (ap (λ (u : Turn). u.inner) is) in
    let there : t.inner ≡ length (spelled f.front) = omega (arith, place, inner) in (
      f.found,
      record {
        front = f.front;
        back = f.back;
        stands = f.split;
        place = there;
        kind = f.kind;
        time = sym (ap (λ (u : Turn). u.log_time) is) ∙ f.time;
      },
      f.back,
      ap (λ (n : ℕ). records_in (drop n x.bytes)) there ∙ reached x.bytes f.front f.found f.back f.split,
    )

none_in : (bytes : List ℕ) → bytes ≡ [] → records_in bytes ≡ []
unfolding records_in
none_in bytes none = ap (λ (l : List ℕ). first_records (length l) l) none

-- it stands among the bytes
pub place_within : (bytes : List ℕ) (n : ℕ) (r : Top) (back : List Top) → records_in (drop n bytes) ≡ r ∷ back → n ≤ length bytes
place_within bytes n r back is = elim (leb_tells n (length bytes)) [
  | inl within ↦ within.1
  | inr past ↦ absurd (not_none r back (sym (none_in (drop n bytes) (drop_of_length-le bytes (let more = past.1 in omega (arith, more)))) ∙ is))
]

pub turn_begins : (x : Text) (t : Turn) → Has (turns_in x) t → (x.piece.input ≡ t.input) × (x.piece.span.at ≡ t.at)
turn_begins x t has =
    let (e, at, is) = unmapped (turn_of x.piece) (heads_in x.bytes) has.0 t has.1 in
    (ap (λ (u : Turn). u.input) is, ap (λ (u : Turn). u.at) is)

-- the text's bytes are those that the window gives
pub held_bytes : (w : Walk) (x : Text) (t : Turn) (bytes : List ℕ) → HoldsText w x → Has (turns_in x) t → Has (loaded_in w.window) (loaded_part t.input t.at bytes) → bytes ≡ x.bytes
held_bytes w x t bytes holds has there =
    let begins = turn_begins x t has in
    holds.1 there.0 (loaded_part t.input t.at bytes) there.1 (sym begins.0, sym begins.1)

-- the record that stands in front there is that of the turn
pub message_is : (w : Walk) (x : Text) (t : Turn) (bytes : List ℕ) (found : Top) (behind : List Top) → HoldsText w x → Has (turns_in x) t → Has (loaded_in w.window) (loaded_part t.input t.at bytes) → records_in (drop t.inner bytes) ≡ found ∷ behind → IsMessageAt x t found
message_is w x t bytes found behind holds has there first =
    let (r, is, back, next) = message_there x t has in
    let same : bytes ≡ x.bytes = held_bytes w x t bytes holds has there in
    let one : found ∷ behind ≡ r ∷ back = sym first ∙ ap (λ (l : List ℕ). records_in (drop t.inner l)) same ∙ next in
    subst (IsMessageAt x t) (sym (heads found r behind back one)) is

-- there is one
pub message_begins : (w : Walk) (x : Text) (t : Turn) (bytes : List ℕ) → HoldsText w x → Has (turns_in x) t → Has (loaded_in w.window) (loaded_part t.input t.at bytes) → (r : Top) × (back : List Top) × (records_in (drop t.inner bytes) ≡ r ∷ back)
message_begins w x t bytes holds has there =
    let (r, is, back, next) = message_there x t has in
    let same : bytes ≡ x.bytes = held_bytes w x t bytes holds has there in
    (r, back, ap (λ (l : List ℕ). records_in (drop t.inner l)) same ∙ next)

-- ---- what the reading of a turn needs

abbrev pub IsReadable : Walk → Turn → Type 0
IsReadable w t = (x : Text) × HoldsText w x × Has (turns_in x) t

pub text_loaded : (w : Walk) (t : Turn) → IsReadable w t → IsPartLoaded (loaded_in w.window) t.input t.at
text_loaded w t (x, held, has) =
    let (l, there, begins) = held.0 in
    let same = turn_begins x t has in
    (l, there, (begins.0 ∙ same.0, begins.1 ∙ same.1))

pub inner_within : (w : Walk) (t : Turn) (bytes : List ℕ) → IsReadable w t → Has (loaded_in w.window) (loaded_part t.input t.at bytes) → t.inner ≤ length bytes
inner_within w t bytes (x, held, has) there =
    let (r, back, first) = message_begins w x t bytes held has there in
    place_within bytes t.inner r back first

pub never_none : (w : Walk) (t : Turn) (bytes rest : List ℕ) → IsReadable w t → Has (loaded_in w.window) (loaded_part t.input t.at bytes) → rest ≡ drop t.inner bytes → records_in rest ≡ [] → ⊥
never_none w t bytes rest (x, held, has) there is none =
    let (r, back, first) = message_begins w x t bytes held has there in
    not_none r back (sym none ∙ ap records_in is ∙ first)
