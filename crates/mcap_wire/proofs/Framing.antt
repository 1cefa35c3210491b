-- No field begins another, and a field that stands at an offset is the only one there.
use Rattle.std.proofs.Common.{◌≡◌, ◌≢◌, ℕ, ◌+◌, ◌-◌, ◌^◌, ◌<◌, ◌≤◌, List, ◌∷◌, ◌++◌, length, get_or, take, drop, refl, sym, ap, subst, inl, inr, ◌∙◌, append_assoc, arith}
use Rattle.std.specs.Prelude.{IsUtf8, All, slice_index}
use Rattle.std.proofs.lemmas.Bool.{cases_lt}
use Rattle.std.proofs.lemmas.List.{take_at, drop_at, length-append, length-take, length-drop, drop-drop, get_or-drop, get_or_past}
use Rattle.mcap_wire.specs.declared.faults.Why.{Why}
use Rattle.mcap_wire.specs.declared.faults.Why.TheVariants.{Short, BadText, BadLength, DoubleKey}
use Rattle.mcap_wire.specs.declared.faults.Cut.{Cut}
use Rattle.mcap_wire.specs.declared.faults.CutFault.{CutFault}
use Rattle.mcap_wire.specs.declared.faults.CutFault.TheVariants as cut_faults
use Rattle.mcap_wire.specs.Layout.{le, number, string, prefixed, framed, part, content_limit, NumberAt, text_length, text_bytes, bytes_length}
use Rattle.mcap_wire.specs.Reading.{NumberFails, TextAt, TextFails, BytesFail, content_length, CutFails, IsCut}
use Rattle.mcap_wire.specs.Laws.{NumbersReadBack, TextsAreApart, RecordsAreApart}
use Rattle.mcap_wire.proofs.Numbers.{AreBytes, length-le, number-le, le-number, le_injective}

-- ---- fields from the front of a list

-- fronts of one length are equal, and so is what follows them
pub split_front : (a b rest behind : List ℕ) → length a ≡ length b → a ++ rest ≡ b ++ behind → (a ≡ b) × (rest ≡ behind)
split_front a b rest behind size same =
    let front : a ≡ b = sym (take_at a rest (length a) refl) ∙ ap (take (length a)) same ∙ take_at b behind (length a) (sym size) in
    let back : rest ≡ behind = sym (drop_at a rest (length a) refl) ∙ ap (drop (length a)) same ∙ drop_at b behind (length a) (sym size) in
    (front, back)

pub split_number : (n v w : ℕ) (rest behind : List ℕ) → v < 256 ^ n → w < 256 ^ n → le n v ++ rest ≡ le n w ++ behind → (v ≡ w) × (rest ≡ behind)
split_number n v w rest behind v_fits w_fits same =
    let parts = split_front (le n v) (le n w) rest behind (length-le n v ∙ sym (length-le n w)) same in
    (le_injective n v w v_fits w_fits parts.0, parts.1)

pub texts_apart : TextsAreApart
texts_apart text other rest behind fits other_fits same =
    let bytes : le 4 (length text) ++ (text ++ rest) ≡ le 4 (length other) ++ (other ++ behind) =
    sym (append_assoc (le 4 (length text)) text rest) ∙ same ∙ append_assoc (le 4 (length other)) other behind in
    let parts = split_number 4 (length text) (length other) (text ++ rest) (other ++ behind) fits other_fits bytes in
    split_front text other rest behind parts.0 parts.1

pub bytes_apart : (n : ℕ) (bytes other rest behind : List ℕ) → length bytes < 256 ^ n → length other < 256 ^ n → prefixed n bytes ++ rest ≡ prefixed n other ++ behind → (bytes ≡ other) × (rest ≡ behind)
bytes_apart n bytes other rest behind fits other_fits same =
    let parts_same : le n (length bytes) ++ (bytes ++ rest) ≡ le n (length other) ++ (other ++ behind) =
    sym (append_assoc (le n (length bytes)) bytes rest) ∙ same ∙ append_assoc (le n (length other)) other behind in
    let parts = split_number n (length bytes) (length other) (bytes ++ rest) (other ++ behind) fits other_fits parts_same in
    split_front bytes other rest behind parts.0 parts.1

-- the head and the content of a record
record_parts : (op : ℕ) (content rest : List ℕ) → framed op content ++ rest ≡ op ∷ (le 8 (length content) ++ (content ++ rest))
record_parts op content rest = ap (λ (l : List ℕ). op ∷ l) (append_assoc (le 8 (length content)) content rest)

pub records_apart : RecordsAreApart
records_apart op code content other rest behind fits other_fits same =
    let bytes : op ∷ (le 8 (length content) ++ (content ++ rest)) ≡ code ∷ (le 8 (length other) ++ (other ++ behind)) =
    sym (record_parts op content rest) ∙ same ∙ record_parts code other behind in
    let first : op ≡ code = ap (λ (l : List ℕ). get_or l 0 0) bytes in
    let parts = split_number 8 (length content) (length other) (content ++ rest) (other ++ behind) fits other_fits (ap (drop 1) bytes) in
    let inner = split_front content other rest behind parts.0 parts.1 in
    (first, inner.0, inner.1)

-- ---- lengths

pub length-string : (text : List ℕ) → length (string text) ≡ 4 + length text
length-string text = length-append (le 4 (length text)) text ∙ ap (λ (n : ℕ). n + length text) (length-le 4 (length text))

-- a list is at least as long as what stands in it
pub stands_within : (content : List ℕ) (at : ℕ) (front rest : List ℕ) → drop at content ≡ front ++ rest → 0 < length front → at + length front ≤ length content
stands_within content at front rest is some =
    omega (arith, length-drop at content, ap length is, length-append front rest, some)

pub length-prefixed : (n : ℕ) (bytes : List ℕ) → length (prefixed n bytes) ≡ n + length bytes
length-prefixed n bytes = length-append (le n (length bytes)) bytes ∙ ap (λ (k : ℕ). k + length bytes) (length-le n (length bytes))

-- what stands at an offset within a list ends within it
pub ends_within : (content : List ℕ) (at : ℕ) (front rest : List ℕ) → at ≤ length content → drop at content ≡ front ++ rest → at + length front ≤ length content
ends_within content at front rest within is = omega (arith, length-drop at content, ap length is, length-append front rest)

-- ---- numbers at an offset

-- a number is refused only where it is cut short
pub number_is_short : (n : ℕ) (content : List ℕ) (at : ℕ) (why : Why) → NumberFails n content at why → length content < at + n
number_is_short n content at Short fails = fails
number_is_short n content at BadText fails = absurd fails
number_is_short n content at BadLength fails = absurd fails
number_is_short n content at DoubleKey fails = absurd fails

-- a number that stands there is read
pub number_not_refused : (n : ℕ) (content : List ℕ) (at v : ℕ) (rest : List ℕ) (why : Why) → 0 < n → drop at content ≡ le n v ++ rest → NumberFails n content at why → ⊥
number_not_refused n content at v rest why some is fails =
    let within = stands_within content at (le n v) rest is (omega (arith, length-le n v)) in
    absurd (omega (arith, within, length-le n v, number_is_short n content at why fails))

-- and it is the only one there
pub number_decided : (n : ℕ) (content : List ℕ) (at value end other : ℕ) (rest : List ℕ) → NumberAt n content at value end → other < 256 ^ n → drop at content ≡ le n other ++ rest → (value ≡ other) × (drop end content ≡ rest)
number_decided n content at value end other rest there fits is =
    split_number n value other (drop end content) rest there.fits fits (sym there.field.spelled_there ∙ is)

-- ---- texts at an offset

text_at_front : (content : List ℕ) (at : ℕ) (text rest : List ℕ) → drop at content ≡ string text ++ rest → drop at content ≡ le 4 (length text) ++ (text ++ rest)
text_at_front content at text rest is = is ∙ append_assoc (le 4 (length text)) text rest

pub length_found : (content : List ℕ) (at : ℕ) (text rest : List ℕ) → length text < 2 ^ 32 → drop at content ≡ string text ++ rest → text_length content at ≡ length text
length_found content at text rest fits is =
    ap (λ (l : List ℕ). number (take 4 l)) (text_at_front content at text rest is)
    ∙ ap number (take_at (le 4 (length text)) (text ++ rest) 4 (length-le 4 (length text)))
    ∙ number-le 4 (length text) fits

pub bytes_found : (content : List ℕ) (at : ℕ) (text rest : List ℕ) → length text < 2 ^ 32 → drop at content ≡ string text ++ rest → text_bytes content at ≡ text
bytes_found content at text rest fits is =
    let behind : drop (at + 4) content ≡ text ++ rest =
    sym (drop-drop 4 at content) ∙ ap (drop 4) (text_at_front content at text rest is) ∙ drop_at (le 4 (length text)) (text ++ rest) 4 (length-le 4 (length text)) in
    ap (λ (n : ℕ). take n (drop (at + 4) content)) (length_found content at text rest fits is)
    ∙ ap (take (length text)) behind
    ∙ take_at text rest (length text) refl

-- a text that stands there is read
pub text_not_refused : (content : List ℕ) (at : ℕ) (text rest : List ℕ) (why : Why) → length text < 2 ^ 32 → IsUtf8 text → drop at content ≡ string text ++ rest → TextFails content at why → ⊥
text_not_refused content at text rest why fits utf8 is fails = by_cause why fails
  where
    size : text_length content at ≡ length text
    size = length_found content at text rest fits is

    within : at + 4 + length text ≤ length content
    within = omega (arith, stands_within content at (string text) rest is (omega (arith, length-string text)), length-string text)

    by_cause : (why : Why) → TextFails content at why → ⊥
    by_cause Short (inl short) = absurd (omega (arith, within, short))
    by_cause Short (inr short) = absurd (omega (arith, within, size, short.1))
    by_cause BadText bad = bad.1 (subst IsUtf8 (sym (bytes_found content at text rest fits is)) utf8)
    by_cause BadLength none = none
    by_cause DoubleKey none = none

-- and it is the only one there
pub text_decided : (content : List ℕ) (at : ℕ) (text : List ℕ) (end : ℕ) (other rest : List ℕ) → TextAt content at text end → length other < 2 ^ 32 → drop at content ≡ string other ++ rest → (text ≡ other) × (drop end content ≡ rest)
text_decided content at text end other rest there fits is =
    texts_apart text other (drop end content) rest there.fits fits (sym there.field.spelled_there ∙ is)

-- ---- bytes at an offset

-- bytes that stand there are read
pub bytes_not_refused : (n : ℕ) (content : List ℕ) (at : ℕ) (bytes rest : List ℕ) (why : Why) → at ≤ length content → length bytes < 256 ^ n → drop at content ≡ prefixed n bytes ++ rest → BytesFail n content at why → ⊥
bytes_not_refused n content at bytes rest why inside fits is fails = by_cause why fails
  where
    size : bytes_length n content at ≡ length bytes
    size = ap (λ (l : List ℕ). number (take n l)) (is ∙ append_assoc (le n (length bytes)) bytes rest)
        ∙ ap number (take_at (le n (length bytes)) (bytes ++ rest) n (length-le n (length bytes)))
        ∙ number-le n (length bytes) fits

    within : at + n + length bytes ≤ length content
    within = omega (arith, ends_within content at (prefixed n bytes) rest inside is, length-prefixed n bytes)

    by_cause : (why : Why) → BytesFail n content at why → ⊥
    by_cause Short (inl short) = absurd (omega (arith, within, short))
    by_cause Short (inr short) = absurd (omega (arith, within, size, short.1))
    by_cause BadText none = none
    by_cause BadLength none = none
    by_cause DoubleKey none = none

-- ---- records at an offset

pub length-framed : (op : ℕ) (content : List ℕ) → length (framed op content) ≡ 9 + length content
length-framed op content =
    omega (arith, length-append (le 8 (length content)) content, length-le 8 (length content))

opcode_found : (bytes : List ℕ) (at op : ℕ) (content rest : List ℕ) → drop at bytes ≡ framed op content ++ rest → slice_index bytes at ≡ op
opcode_found bytes at op content rest is =
    let here : at ≡ at + 0 = omega arith in
    ap (λ (n : ℕ). get_or bytes n 0) here ∙ sym (get_or-drop at bytes 0 0) ∙ ap (λ (l : List ℕ). get_or l 0 0) is

content_length_found : (bytes : List ℕ) (at op : ℕ) (content rest : List ℕ) → length content < 2 ^ 64 → drop at bytes ≡ framed op content ++ rest → content_length bytes at ≡ length content
content_length_found bytes at op content rest fits is =
    let behind : drop (at + 1) bytes ≡ le 8 (length content) ++ (content ++ rest) =
    sym (drop-drop 1 at bytes) ∙ ap (drop 1) (is ∙ record_parts op content rest) in
    ap (λ (l : List ℕ). number (take 8 l)) behind
    ∙ ap number (take_at (le 8 (length content)) (content ++ rest) 8 (length-le 8 (length content)))
    ∙ number-le 8 (length content) fits

-- a record that stands there is cut
pub record_not_refused : (bytes : List ℕ) (at op : ℕ) (content rest : List ℕ) (fault : CutFault) → op ≢ 0 → length content ≤ content_limit → drop at bytes ≡ framed op content ++ rest → CutFails bytes at fault → ⊥
record_not_refused bytes at op content rest fault valid within is fails = by_cause fault fails
  where
    size : content_length bytes at ≡ length content
    size = content_length_found bytes at op content rest (omega (arith, within)) is

    whole : at + 9 + length content ≤ length bytes
    whole = omega (arith, stands_within bytes at (framed op content) rest is (omega (arith, length-framed op content)), length-framed op content)

    by_cause : (fault : CutFault) → CutFails bytes at fault → ⊥
    by_cause cut_faults.Short (inl short) = absurd (omega (arith, whole, short))
    by_cause cut_faults.Short (inr short) = absurd (omega (arith, whole, size, short.2))
    by_cause cut_faults.ZeroOp zero_op = valid (sym (opcode_found bytes at op content rest is) ∙ zero_op.1)
    by_cause (cut_faults.TooLong len) long = absurd (omega (arith, size, within, long.1, long.2))

-- and it is the only one there
pub record_decided : (bytes : List ℕ) (at : ℕ) (c : Cut) (op : ℕ) (content rest : List ℕ) → IsCut bytes at c → length content < 2 ^ 64 → drop at bytes ≡ framed op content ++ rest → (c.op ≡ op) × (part c.from c.to bytes ≡ content) × (drop c.to bytes ≡ rest)
record_decided bytes at c op content rest there fits is =
    let size : length (part c.from c.to bytes) ≤ c.to - c.from = omega (arith, length-take (c.to - c.from) (drop c.from bytes)) in
    records_apart c.op op (part c.from c.to bytes) content (drop c.to bytes) rest (omega (arith, size, there.within)) fits (sym there.stands.framed_there ∙ is)

-- ---- writing

-- what a head and a content that is behind it make
pub head_and_content : (old content : List ℕ) (op len : ℕ) → len ≡ length content → (old ++ op ∷ le 8 len) ++ content ≡ old ++ framed op content
head_and_content old content op len size =
    append_assoc old (op ∷ le 8 len) content ∙ ap (λ (n : ℕ). old ++ op ∷ (le 8 n ++ content)) size

-- ---- the laws

pub are_bytes : (bytes : List ℕ) → All (λ b. b < 256) bytes → AreBytes bytes
are_bytes bytes each i =
    elim (cases_lt i (length bytes)) [
      | inl lt ↦ each i 0 lt
      | inr le ↦ rw (get_or_past bytes i 0 le) (omega arith)
    ]

pub numbers_back : NumbersReadBack
numbers_back = record {
  number_back = number-le;
  size = length-le;
  bytes_back = λ bytes each. le-number bytes (are_bytes bytes each);
}
