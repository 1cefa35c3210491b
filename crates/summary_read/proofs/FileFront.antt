-- The magic and the Header with which a file begins.
use Rattle.std.proofs.Common.{◌≡◌, ℕ, zero, suc, ◌+◌, ◌-◌, ◌^◌, ◌<◌, ◌≤◌, false, List, [], ◌∷◌, ◌++◌, length, get_or, take, drop, refl, sym, ap, subst, inr, ◌∙◌, append_assoc, append-nil, arith}
use Rattle.std.specs.Prelude.{slice_index}
use Rattle.std.proofs.lemmas.Bool.{lt-leb, le-leb}
use Rattle.std.proofs.lemmas.List.{length-append, length-drop, length-take, take_at, take-append-drop, drop-append-le, take-append-le}
use Rattle.mcap_wire.specs.declared.faults.HeadFault.{HeadFault}
use Rattle.mcap_wire.specs.declared.faults.HeadFault.TheVariants as head_faults
use Rattle.mcap_wire.specs.Layout.{le, number, content_limit}
use Rattle.mcap_wire.specs.Reading.{HeadAt, HeadFails}
use Rattle.mcap_wire.proofs.Numbers.{length-le, number-le}
use Rattle.mcap_model.specs.Tops.{top_bytes, opcode, declared_length, is_whole}
use Rattle.mcap_model.specs.Fields.{IsHeader}
use Rattle.mcap_model.specs.Made.{top}
use Rattle.mcap_model.specs.Rules.{V1}
use Rattle.mcap_model.proofs.Readings.{begun, length-top}
use Rattle.mcap_model.specs.declared.rules.Rule.TheVariants as rules
use Rattle.summary_read.specs.Reached.{FailsLoading, at_ends, first_magic, no_header, header_cut, Passes, header_passes}
use Rattle.summary_read.specs.Steps.{HasHead, HasHeader}

-- ---- the magic

pub front_magic : (file front : List ℕ) → take 17 file ≡ front → V1 file → V1 front
front_magic file front is v1 = (take 9 v1.0, sym is ∙ ap (take 17) v1.1)

-- the first bytes of a file begin with the magic where the file does
pub magic_begins : (n : ℕ) (file front : List ℕ) → take n file ≡ front → V1 front → V1 file
magic_begins n file front is v1 =
    (v1.0 ++ drop n file, sym (take-append-drop n file) ∙ ap (λ (l : List ℕ). l ++ drop n file) (is ∙ v1.1))

pub begins_magic : (file front : List ℕ) → take 8 file ≡ front → V1 file → V1 front
begins_magic file front is v1 = ([], sym is ∙ ap (take 8) v1.1)

pub magic_front : (file front : List ℕ) → take 17 file ≡ front → V1 front → V1 file
magic_front = magic_begins 17

pub magic_missing : (file front : List ℕ) → take 17 file ≡ front → (V1 front → ⊥) → FailsLoading file rules.V1 0
magic_missing file front is none = at_ends rules.V1 0 (first_magic (λ v1. none (front_magic file front is v1)))

-- ---- the head of the Header

drop_one : (n : ℕ) (l : List ℕ) → n < length l → drop n l ≡ get_or l n 0 ∷ drop (suc n) l
drop_one n [] inside = absurd (omega (arith, inside))
drop_one zero (x ∷ xs) inside = refl
drop_one (suc n) (x ∷ xs) inside = drop_one n xs (omega (arith, inside))

-- what stands behind the magic
pub behind_magic : (file front : List ℕ) → take 17 file ≡ front → length front ≡ 17 → drop 8 file ≡ slice_index front 8 ∷ (drop 9 front ++ drop 17 file)
behind_magic file front is size =
    let split : file ≡ front ++ drop 17 file = sym (take-append-drop 17 file) ∙ ap (λ (l : List ℕ). l ++ drop 17 file) is in
    ap (drop 8) split
    ∙ drop-append-le 8 front (drop 17 file) (omega (arith, size))
    ∙ ap (λ (l : List ℕ). l ++ drop 17 file) (drop_one 8 front (omega (arith, size)))

pub other_header : (file front : List ℕ) → take 17 file ≡ front → length front ≡ 17 → (slice_index front 8 ≡ 1 → ⊥) → V1 front → FailsLoading file rules.V3 8
other_header file front is size other v1 =
    at_ends rules.V3 8 (no_header (magic_front file front is v1) (λ starts.
    let op_is : slice_index front 8 ≡ starts.0.op = ap opcode (sym (behind_magic file front is size) ∙ starts.1.there) in
    other (op_is ∙ starts.2.kind)))

head_is : (file front : List ℕ) (op len : ℕ) → take 17 file ≡ front → length front ≡ 17 → HeadAt front 8 op len → op ≡ 1 → drop 8 file ≡ 1 ∷ (le 8 len ++ drop 17 file)
head_is file front op len is size head kind =
    let none : length (drop 17 front) ≤ 0 = omega (arith, size, length-drop 17 front) in
    let op_is : slice_index front 8 ≡ 1 = sym head.opcode ∙ kind in
    behind_magic file front is size
    ∙ ap (λ (o : ℕ). o ∷ (drop 9 front ++ drop 17 file)) op_is
    ∙ ap (λ (l : List ℕ). 1 ∷ (l ++ drop 17 file)) (head.len_there.field.spelled_there ∙ nothing_behind (le 8 len) (drop 17 front) none)
  where
    nothing_behind : (xs ys : List ℕ) → length ys ≤ 0 → xs ++ ys ≡ xs
    nothing_behind xs [] few = append-nil xs
    nothing_behind xs (y ∷ ys) few = absurd (omega (arith, few))

-- where no head can be read, no Header stands
pub head_fails : (front : List ℕ) (fault : HeadFault) → length front ≡ 17 → HeadFails front 8 fault → slice_index front 8 ≡ 1 → ⊥
head_fails front head_faults.Short size short kind = absurd (omega (arith, size, short))
head_fails front head_faults.ZeroOp size zero_op kind = absurd (omega (arith, zero_op.1, kind))

declared_is : (file : List ℕ) (len : ℕ) → len < 2 ^ 64 → drop 8 file ≡ 1 ∷ (le 8 len ++ drop 17 file) → declared_length (drop 8 file) ≡ len
declared_is file len fits is =
    ap declared_length is ∙ ap number (take_at (le 8 len) (drop 17 file) 8 (length-le 8 len)) ∙ number-le 8 len fits

pub declares_past : (file front : List ℕ) (op len : ℕ) → take 17 file ≡ front → length front ≡ 17 → 37 ≤ length file → HeadAt front 8 op len → op ≡ 1 → len < 2 ^ 64 → content_limit < len → Passes file 8
declares_past file front op len is size whole head kind fits past = header_passes (record {
  head = le-leb 9 (length (drop 8 file)) (omega (arith, length-drop 8 file, whole));
  past = omega (arith, declared_is file len fits (head_is file front op len is size head kind), past);
})

pub has_head_of : (file front : List ℕ) (op len : ℕ) → take 17 file ≡ front → length front ≡ 17 → HeadAt front 8 op len → op ≡ 1 → V1 front → len ≤ content_limit → 25 + len ≤ length file → HasHead file len
has_head_of file front op len is size head kind v1 within whole = record {
  v1 = magic_front file front is v1;
  spelled_there = head_is file front op len is size head kind;
  within = within;
  whole = whole;
}

declared_front : (front more : List ℕ) → 9 ≤ length front → declared_length (front ++ more) ≡ declared_length front
declared_front front more long =
    ap (λ (l : List ℕ). number (take 8 l)) (drop-append-le 1 front more (omega (arith, long)))
    ∙ ap number (take-append-le 8 (drop 1 front) more (omega (arith, long, length-drop 1 front)))

pub header_falls_short : (file front : List ℕ) (op len : ℕ) → take 17 file ≡ front → length front ≡ 17 → 37 ≤ length file → HeadAt front 8 op len → op ≡ 1 → len < 2 ^ 64 → V1 front → length file < 25 + len → FailsLoading file rules.V4 8
header_falls_short file front op len is size whole head kind fits v1 past =
    let rest = drop 8 file in
    let inner = take (length rest - 8) rest in
    let there : length rest ≡ length file - 8 = length-drop 8 file in
    let long : length inner ≡ length file - 16 = omega (arith, there, length-take (length rest - 8) rest) in
    let same : declared_length rest ≡ declared_length inner =
    ap declared_length (sym (take-append-drop (length rest - 8) rest)) ∙ declared_front inner (drop (length rest - 8) rest) (omega (arith, long, whole)) in
    let declares = declared_is file len fits (head_is file front op len is size head kind) in
    let size_is : length rest - 8 ≡ length file - 8 - 8 = omega (arith, there) in
    at_ends rules.V4 8 (header_cut (record {
      v1 = magic_front file front is v1;
      some = omega (arith, whole);
      cut = inr (subst (λ (n : ℕ). is_whole (take n rest) ≡ false) size_is (lt-leb (9 + declared_length inner) (length inner) (omega (arith, long, same, declares, past, whole))));
    }))

-- ---- the Header

pub header_stands : (file content : List ℕ) (len : ℕ) → HasHead file len → content ≡ take len (drop 17 file) → HasHeader file content
header_stands file content len head is =
    let size : length content ≡ len = omega (arith, ap length is, length-take len (drop 17 file), length-drop 17 file, head.whole) in
    let split : drop 17 file ≡ content ++ drop len (drop 17 file) =
    sym (take-append-drop len (drop 17 file)) ∙ ap (λ (l : List ℕ). l ++ drop len (drop 17 file)) (sym is) in
    record {
      v1 = head.v1;
      stands = record {
        rest = drop len (drop 17 file);
        there = head.spelled_there
            ∙ ap (λ (n : ℕ). 1 ∷ (le 8 n ++ drop 17 file)) (sym size)
            ∙ ap (λ (l : List ℕ). 1 ∷ (le 8 (length content) ++ l)) split
            ∙ ap (λ (l : List ℕ). 1 ∷ l) (sym (append_assoc (le 8 (length content)) content (drop len (drop 17 file))));
      };
    }

-- a content that is no Header's
pub header_fails : (file content : List ℕ) (len : ℕ) → HasHead file len → content ≡ take len (drop 17 file) → length file < 2 ^ 64 → (IsHeader (top 1 content) → ⊥) → FailsLoading file rules.V3 8
header_fails file content len head is fits none =
    let has = header_stands file content len head is in
    let size : length content ≡ len = omega (arith, ap length is, length-take len (drop 17 file), length-drop 17 file, head.whole) in
    at_ends rules.V3 8 (no_header head.v1 (λ starts.
    let t = starts.0 in
    let long : length t.content < 2 ^ 64 = omega (arith, fits, length-drop 8 file, ap length starts.1.there, length-append (top_bytes t) starts.1.rest, length-top t) in
    let one = begun (drop 8 file) (top 1 content) has.stands.rest has.stands.there (omega (arith, size, head.within)) in
    let other = begun (drop 8 file) t starts.1.rest starts.1.there long in
    none (subst IsHeader (sym other.first ∙ one.first) starts.2)))

pub declared_of : (file : List ℕ) (len : ℕ) → HasHead file len → declared_length (drop 8 file) ≡ len
declared_of file len head = declared_is file len (omega (arith, head.within)) head.spelled_there
