-- What stands at an offset is what its bytes say.
use Rattle.std.proofs.Common.{◌≡◌, ℕ, ◌+◌, ◌-◌, ◌^◌, ◌<◌, ◌≤◌, List, [], ◌∷◌, ◌++◌, length, get_or, take, drop, refl, sym, ap, subst, inl, inr, ◌∙◌, append_assoc, arith}
use Rattle.std.specs.Prelude.{IsUtf8}
use Rattle.std.proofs.lemmas.List.{take_at, take-append-drop, length-take, length-take-le, length-drop, drop-drop, drop_more, get_or-drop, get_or-take, get_or_past}
use Rattle.std.proofs.lemmas.Bool.{cases_lt}
use Rattle.byteorder.specs.Endian.{little_number}
use Rattle.mcap_wire.specs.Layout.{le, number, part, NumberAt}
use Rattle.mcap_wire.specs.Reading.{TextAt, BytesAt, BytesAreShort, HeadAt, HasOpcodeAt, RecordStands}
use Rattle.mcap_wire.proofs.Numbers.{AreBytes, number_is, length-le, number-le, le-number, number_below, le_one}

-- the bytes from an offset on are n of them, and the bytes n later
pub cut_off : (bytes : List ℕ) (at n : ℕ) → drop at bytes ≡ take n (drop at bytes) ++ drop (at + n) bytes
cut_off bytes at n = sym (take-append-drop n (drop at bytes)) ∙ ap (λ (rest : List ℕ). take n (drop at bytes) ++ rest) (drop-drop n at bytes)

-- a number that was read stands there
pub number_read : (n : ℕ) (content : List ℕ) (at value : ℕ) → at + n ≤ length content → le n value ≡ take n (drop at content) → value < 256 ^ n → NumberAt n content at value (at + n)
number_read n content at value whole is fits = record {
  field = record {
    spelled_there = cut_off content at n ∙ ap (λ (front : List ℕ). front ++ drop (at + n) content) (sym is);
    begins = omega arith;
    ends = whole;
  };
  size = refl;
  fits = fits;
}

pub AreBytes-drop : (n : ℕ) (bytes : List ℕ) → AreBytes bytes → AreBytes (drop n bytes)
AreBytes-drop n bytes fits i = rw get_or-drop (fits (n + i))

pub AreBytes-take : (n : ℕ) (bytes : List ℕ) → AreBytes bytes → AreBytes (take n bytes)
AreBytes-take n bytes fits i =
    elim (cases_lt i n) [
      | inl lt ↦ rw (get_or-take n bytes i 0 lt) (fits i)
      | inr le ↦ rw (get_or_past (take n bytes) i 0 (omega (arith, length-take n bytes))) (omega arith)
    ]

-- the same, of the first byte that is left
pub byte_read : (content : List ℕ) (at : ℕ) (rest : List ℕ) → AreBytes content → at ≤ length content → rest ≡ drop at content → 1 ≤ length rest → NumberAt 1 content at (get_or rest 0 0) (at + 1)
byte_read content at [] bytes within rest_is long = absurd (omega arith)
byte_read content at (b ∷ rest) bytes within rest_is long =
    let size : length (b ∷ rest) ≡ length content - at = ap length rest_is ∙ length-drop at content in
    let small : b < 256 = subst AreBytes (sym rest_is) (AreBytes-drop at content bytes) 0 in
    number_read 1 content at b (omega arith) (le_one b small ∙ ap (take 1) rest_is) small

-- enough bytes are a number
pub number_spelled : (n : ℕ) (content : List ℕ) (at : ℕ) → AreBytes content → at + n ≤ length content → NumberAt n content at (number (take n (drop at content))) (at + n)
number_spelled n content at bytes whole =
    let front = take n (drop at content) in
    let size : length front ≡ n = length-take-le n (drop at content) (omega (arith, length-drop at content)) in
    let small : AreBytes front = AreBytes-take n (drop at content) (AreBytes-drop at content bytes) in
    let spelled : le n (number front) ≡ front = ap (λ (k : ℕ). le k (number front)) (sym size) ∙ le-number front small in
    number_read n content at (number front) whole spelled (subst (λ (k : ℕ). number front < 256 ^ k) size (number_below front small))

-- the same, of what `LittleEndian` read
pub number_from : (n : ℕ) (content : List ℕ) (at : ℕ) (rest : List ℕ) (value : ℕ) → AreBytes content → at ≤ length content → rest ≡ drop at content → n ≤ length rest → value ≡ little_number n rest → NumberAt n content at value (at + n)
number_from n content at rest value bytes within rest_is long is =
    let size : length rest ≡ length content - at = ap length rest_is ∙ length-drop at content in
    let there : number (take n (drop at content)) ≡ value = ap (λ (l : List ℕ). number (take n l)) (sym rest_is) ∙ sym (number_is n rest long) ∙ sym is in
    subst (λ (v : ℕ). NumberAt n content at v (at + n)) there (number_spelled n content at bytes (omega (arith, size)))

-- the bytes of a number that stands there
pub number_bytes : (n : ℕ) (content : List ℕ) (at value end : ℕ) → NumberAt n content at value end → take n (drop at content) ≡ le n value
number_bytes n content at value end there =
    ap (take n) there.field.spelled_there ∙ take_at (le n value) (drop end content) n (length-le n value)

-- and the number that they spell
pub number_there : (n : ℕ) (content : List ℕ) (at value end : ℕ) → NumberAt n content at value end → number (take n (drop at content)) ≡ value
number_there n content at value end there = ap number (number_bytes n content at value end there) ∙ number-le n value there.fits

-- a text that was read stands there
pub text_read : (content : List ℕ) (at len from : ℕ) (text : List ℕ) → NumberAt 4 content at len from → from + len ≤ length content → text ≡ take len (drop from content) → IsUtf8 text → TextAt content at text (from + len)
text_read content at len from text prefix whole is utf8 =
    let size : length text ≡ len = ap length is ∙ length-take-le len (drop from content) (omega (arith, length-drop from content)) in
    let bytes : drop from content ≡ text ++ drop (from + len) content = cut_off content from len ∙ ap (λ (front : List ℕ). front ++ drop (from + len) content) (sym is) in
    record {
      field = record {
        spelled_there = prefix.field.spelled_there
            ∙ ap (λ (rest : List ℕ). le 4 len ++ rest) bytes
            ∙ sym (append_assoc (le 4 len) text (drop (from + len) content))
            ∙ ap (λ (n : ℕ). (le 4 n ++ text) ++ drop (from + len) content) (sym size);
        begins = omega (arith, prefix.size);
        ends = whole;
      };
      size = omega (arith, prefix.size);
      fits = omega (arith, prefix.fits);
      utf8 = utf8;
    }

-- bytes that were read stand there
pub bytes_read : (n : ℕ) (content : List ℕ) (at len from : ℕ) (bytes : List ℕ) (end : ℕ) → NumberAt n content at len from → bytes ≡ take len (drop from content) → end ≡ from + len → end ≤ length content → BytesAt n content at bytes end
bytes_read n content at len from bytes end prefix is end_is whole =
    let size : length bytes ≡ len = ap length is ∙ length-take-le len (drop from content) (omega (arith, length-drop from content)) in
    let behind : drop from content ≡ bytes ++ drop end content =
    cut_off content from len ∙ ap (λ (front : List ℕ). front ++ drop (from + len) content) (sym is) ∙ ap (λ (k : ℕ). bytes ++ drop k content) (sym end_is) in
    record {
      field = record {
        spelled_there = prefix.field.spelled_there
            ∙ ap (λ (rest : List ℕ). le n len ++ rest) behind
            ∙ sym (append_assoc (le n len) bytes (drop end content))
            ∙ ap (λ (k : ℕ). (le n k ++ bytes) ++ drop end content) (sym size);
        begins = omega (arith, prefix.size);
        ends = whole;
      };
      size = omega (arith, prefix.size);
      fits = subst (λ (k : ℕ). k < 256 ^ n) (sym size) prefix.fits;
    }

-- bytes of which some are lacking behind a whole length
pub bytes_short : (n : ℕ) (content : List ℕ) (at len from : ℕ) → NumberAt n content at len from → length content < from + len → BytesAreShort n content at
bytes_short n content at len from prefix short =
    inr (omega (arith, prefix.size, prefix.field.ends), omega (arith, prefix.size, number_there n content at len from prefix))

-- a head that was read is whole, and its opcode valid
pub has_opcode : (bytes : List ℕ) (at op len : ℕ) → HeadAt bytes at op len → HasOpcodeAt bytes at
has_opcode bytes at op len head =
    let valid = head.valid in
    (head.len_there.field.ends, λ none. valid (head.opcode ∙ none))

-- a record that was cut stands there
pub record_cut : (bytes : List ℕ) (at op len from : ℕ) → at < length bytes → op ≡ get_or bytes at 0 → NumberAt 8 bytes (at + 1) len from → from + len ≤ length bytes → RecordStands bytes at op from (from + len)
record_cut bytes at op len from there op_is prefix whole =
    let content = part from (from + len) bytes in
    let width : from + len - from ≡ len = omega arith in
    let content_is : content ≡ take len (drop from bytes) = ap (λ (n : ℕ). take n (drop from bytes)) width in
    let size : length content ≡ len = ap length content_is ∙ length-take-le len (drop from bytes) (omega (arith, length-drop from bytes)) in
    let rest : drop from bytes ≡ content ++ drop (from + len) bytes = cut_off bytes from len ∙ ap (λ (front : List ℕ). front ++ drop (from + len) bytes) (sym content_is) in
    record {
      framed_there = drop_more bytes at 0 there
          ∙ ap (λ (b : ℕ). b ∷ drop (at + 1) bytes) (sym op_is)
          ∙ ap (λ (l : List ℕ). op ∷ l) (
          prefix.field.spelled_there
          ∙ ap (λ (l : List ℕ). le 8 len ++ l) rest
          ∙ sym (append_assoc (le 8 len) content (drop (from + len) bytes))
          ∙ ap (λ (n : ℕ). (le 8 n ++ content) ++ drop (from + len) bytes) (sym size)
          );
      head = omega (arith, prefix.size);
      begins = omega arith;
      ends = whole;
    }
