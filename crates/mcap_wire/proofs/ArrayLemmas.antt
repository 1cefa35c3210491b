-- An array spells one list of entries, and is refused only where it spells none.
use Rattle.std.proofs.Common.{◌≡◌, ℕ, zero, suc, ◌+◌, ◌*◌, ◌/◌, ◌^◌, ◌<◌, ◌≤◌, List, [], ◌∷◌, ◌++◌, length, get_or, take, drop, refl, sym, ap, subst, inl, inr, ◌∙◌, append_assoc, arith}
use Rattle.std.specs.Prelude.{All, slice_get, Some}
use Rattle.std.proofs.lemmas.Grind.{flat_map-append}
use Rattle.std.proofs.lemmas.List.{append-nil, take_at, drop_at, length-append, length-take-le, length-drop, drop-drop, drop_more, take-append-drop, flat_map_more, nil_from_length}
use Rattle.std.proofs.lemmas.List.Elements.{All-nil, All-cons, All-head, All-tail, All-push}
use Rattle.std.proofs.Math.Nat.{mul-div_cancel_left, mul-le-mul_left}
use Rattle.std.proofs.lemmas.Option.{slice_get-get_or}
use Rattle.mcap_wire.specs.declared.faults.Why.{Why}
use Rattle.mcap_wire.specs.declared.faults.Why.TheVariants.{Short, BadText, BadLength, DoubleKey}
use Rattle.mcap_wire.specs.Layout.{le, number, prefixed, FieldAt, NumberAt, text_length, text_bytes}
use Rattle.mcap_wire.specs.Reading.{NumberFails, BytesAt}
use Rattle.mcap_wire.specs.Maps.{KeysDiffer}
use Rattle.mcap_wire.specs.MapReading.{a_uint, ItemFits, LacksKey, ItemFails, MapStops}
use Rattle.mcap_wire.specs.Arrays.{EntryFits, entry_text, entry_texts, array_text}
use Rattle.mcap_wire.specs.ArrayReading.{ArrayAt, EntriesFail}
use Rattle.mcap_wire.specs.ArrayBytes.{entries_in, HoldsArray, HoldsCounts}
use Rattle.mcap_wire.proofs.Numbers.{AreBytes, length-le, number-le, le-number, number_below}
use Rattle.mcap_wire.proofs.Fields.{AreBytes-take, AreBytes-drop}
use Rattle.mcap_wire.proofs.Framing.{texts_apart, length-string, length_found, bytes_found, stands_within, number_not_refused, number_decided}
use Rattle.mcap_wire.proofs.TextMaps.{KeysDiffer-push}
use Rattle.mcap_wire.proofs.PairWalks.{taken_more}

abbrev pub Entry : Type 0
Entry = ℕ × ℕ

-- ---- how entries lie

pub length-entry_text : (n : ℕ) (e : Entry) → length (entry_text n e) ≡ n + 8
length-entry_text n e = omega (arith, length-append (le n e.0) (le 8 e.1), length-le n e.0, length-le 8 e.1)

pub length-entry_texts : (n : ℕ) (entries : List Entry) → length (entry_texts n entries) ≡ (n + 8) * length entries
length-entry_texts n [] = omega arith
length-entry_texts n (e ∷ entries) =
    omega (arith, length-append (entry_text n e) (entry_texts n entries), length-entry_text n e, length-entry_texts n entries)

pub entry_texts-push : (n : ℕ) (entries : List Entry) (entry : Entry) → entry_texts n (entries ++ entry ∷ []) ≡ entry_texts n entries ++ entry_text n entry
entry_texts-push n entries entry = sym (flat_map_more (entry_text n) [] entries entry)

pub entry_parts : (n : ℕ) (e : Entry) (rest behind : List ℕ) → (entry_text n e ++ rest) ++ behind ≡ le n e.0 ++ (le 8 e.1 ++ (rest ++ behind))
entry_parts n e rest behind =
    append_assoc (entry_text n e) rest behind ∙ append_assoc (le n e.0) (le 8 e.1) (rest ++ behind)

-- ---- the entries that some bytes are

pub length-entries_in : (n count : ℕ) (bytes : List ℕ) → length (entries_in n count bytes) ≡ count
unfolding entries_in
length-entries_in n zero bytes = refl
length-entries_in n (suc count) bytes = ap suc (length-entries_in n count (drop (n + 8) bytes))

front_number : (n v : ℕ) (rest bytes : List ℕ) → v < 256 ^ n → bytes ≡ le n v ++ rest → number (take n bytes) ≡ v
front_number n v rest bytes fits is =
    ap (λ (l : List ℕ). number (take n l)) is ∙ ap number (take_at (le n v) rest n (length-le n v)) ∙ number-le n v fits

pub entries_found : (n : ℕ) (entries : List Entry) (rest : List ℕ) → All (EntryFits n) entries → entries_in n (length entries) (entry_texts n entries ++ rest) ≡ entries
unfolding entries_in
entries_found n [] rest fit = refl
entries_found n (e ∷ entries) rest fit =
    let is_entry : EntryFits n e = All-head (EntryFits n) e entries fit in
    let bytes = entry_texts n (e ∷ entries) ++ rest in
    let more = entry_texts n entries ++ rest in
    let parts : bytes ≡ le n e.0 ++ (le 8 e.1 ++ more) = entry_parts n e (entry_texts n entries) rest in
    let first : number (take n bytes) ≡ e.0 = front_number n e.0 (le 8 e.1 ++ more) bytes is_entry.first_fits parts in
    let behind : drop n bytes ≡ le 8 e.1 ++ more = ap (drop n) parts ∙ drop_at (le n e.0) (le 8 e.1 ++ more) n (length-le n e.0) in
    let second : number (take 8 (drop n bytes)) ≡ e.1 = front_number 8 e.1 more (drop n bytes) is_entry.second_fits behind in
    let last : drop (n + 8) bytes ≡ more = ap (drop (n + 8)) (append_assoc (entry_text n e) (entry_texts n entries) rest) ∙ drop_at (entry_text n e) more (n + 8) (length-entry_text n e) in
    let others : entries_in n (length entries) (drop (n + 8) bytes) ≡ entries = ap (entries_in n (length entries)) last ∙ entries_found n entries rest (All-tail (EntryFits n) e entries fit) in
    ap (λ (k : ℕ). (k, number (take 8 (drop n bytes))) ∷ entries_in n (length entries) (drop (n + 8) bytes)) first
    ∙ ap (λ (v : ℕ). (e.0, v) ∷ entries_in n (length entries) (drop (n + 8) bytes)) second
    ∙ ap (λ (l : List Entry). e ∷ l) others

pub entries_are : (n : ℕ) (bytes : List ℕ) (entries : List Entry) (count : ℕ) → bytes ≡ entry_texts n entries → All (EntryFits n) entries → count ≡ length entries → entries_in n count bytes ≡ entries
entries_are n bytes entries count is fit size =
    ap (λ (m : ℕ). entries_in n m bytes) size
    ∙ ap (entries_in n (length entries)) (is ∙ sym (append-nil (entry_texts n entries)))
    ∙ entries_found n entries [] fit

pub array_is_held : (n : ℕ) (bytes : List ℕ) (entries : List Entry) (count : ℕ) → bytes ≡ entry_texts n entries → All (EntryFits n) entries → count ≡ length entries → HoldsArray n bytes count
array_is_held n bytes entries count is fit size =
    let same = entries_are n bytes entries count is fit size in
    record { spelled = is ∙ ap (entry_texts n) (sym same); entries_fit = subst (All (EntryFits n)) (sym same) fit }

-- two lists of entries that spell the same are equal
pub entries_same : (n : ℕ) (entries others : List Entry) → All (EntryFits n) entries → All (EntryFits n) others → entry_texts n entries ≡ entry_texts n others → entries ≡ others
entries_same n entries others fit others_fit same =
    let size : length entries ≡ length others = sizes (length entries) (length others) (sym (length-entry_texts n entries) ∙ ap length same ∙ length-entry_texts n others) in
    sym (entries_are n (entry_texts n entries) entries (length entries) refl fit refl) ∙ entries_are n (entry_texts n entries) others (length entries) same others_fit size
  where
    sizes : (a b : ℕ) → (n + 8) * a ≡ (n + 8) * b → a ≡ b
    sizes a b equal =
        let some : 0 < n + 8 = omega arith in
        sym (mul-div_cancel_left a some) ∙ ap (λ (x : ℕ). x / (n + 8)) equal ∙ mul-div_cancel_left b some

le_back : (n : ℕ) (bytes : List ℕ) → AreBytes bytes → length bytes ≡ n → le n (number bytes) ≡ bytes
le_back n bytes fit size = ap (λ (m : ℕ). le m (number bytes)) (sym size) ∙ le-number bytes fit

below_back : (n : ℕ) (bytes : List ℕ) → AreBytes bytes → length bytes ≡ n → number bytes < 256 ^ n
below_back n bytes fit size = subst (λ (m : ℕ). number bytes < 256 ^ m) size (number_below bytes fit)

-- bytes of the length of so many entries are as many
pub whole_entries : (n count : ℕ) (bytes : List ℕ) → AreBytes bytes → length bytes ≡ (n + 8) * count → HoldsArray n bytes count
unfolding entries_in
whole_entries n zero bytes fit size = record {
  spelled = nil_from_length bytes (omega (arith, size));
  entries_fit = All-nil (EntryFits n);
}
whole_entries n (suc count) bytes fit size =
    let first = take n bytes in
    let second = take 8 (drop n bytes) in
    let rest = drop (n + 8) bytes in
    let long : n + 8 ≤ length bytes = omega (arith, size) in
    let first_size : length first ≡ n = length-take-le n bytes (omega arith) in
    let second_size : length second ≡ 8 = length-take-le 8 (drop n bytes) (omega (arith, length-drop n bytes)) in
    let first_fit : AreBytes first = AreBytes-take n bytes fit in
    let second_fit : AreBytes second = AreBytes-take 8 (drop n bytes) (AreBytes-drop n bytes fit) in
    let more : HoldsArray n rest count = whole_entries n count rest (AreBytes-drop (n + 8) bytes fit) (omega (arith, size, length-drop (n + 8) bytes)) in
    let behind : drop n bytes ≡ second ++ rest = sym (take-append-drop 8 (drop n bytes)) ∙ ap (λ (l : List ℕ). second ++ l) (drop-drop 8 n bytes) in
    let parts : bytes ≡ first ++ (second ++ rest) = sym (take-append-drop n bytes) ∙ ap (λ (l : List ℕ). first ++ l) behind in
    record {
      spelled = parts
          ∙ ap (λ (l : List ℕ). l ++ (second ++ rest)) (sym (le_back n first first_fit first_size))
          ∙ ap (λ (l : List ℕ). le n (number first) ++ (l ++ rest)) (sym (le_back 8 second second_fit second_size))
          ∙ ap (λ (l : List ℕ). le n (number first) ++ (le 8 (number second) ++ l)) more.spelled
          ∙ sym (append_assoc (le n (number first)) (le 8 (number second)) (entry_texts n (entries_in n count rest)));
      entries_fit = All-cons (EntryFits n) (number first, number second) (entries_in n count rest)
          (record { first_fits = below_back n first first_fit first_size; second_fits = below_back 8 second second_fit second_size })
          more.entries_fit;
    }

-- ---- an entry at an index

abbrev pub entry : List Entry → ℕ → Entry
entry entries i = get_or entries i (0, 0)

-- the i-th entry stands behind those before it
pub entry_stands : (n : ℕ) (bytes : List ℕ) (count i at : ℕ) → HoldsArray n bytes count → i < count → at ≡ (n + 8) * i → drop at bytes ≡ le n (entry (entries_in n count bytes) i).0 ++ (le 8 (entry (entries_in n count bytes) i).1 ++ entry_texts n (drop (i + 1) (entries_in n count bytes)))
entry_stands n bytes count i at held lt at_is =
    let entries = entries_in n count bytes in
    let size : length entries ≡ count = length-entries_in n count bytes in
    let front : length (entry_texts n (take i entries)) ≡ at = length-entry_texts n (take i entries) ∙ ap (λ (m : ℕ). (n + 8) * m) (length-take-le i entries (omega arith)) ∙ sym at_is in
    let split : bytes ≡ entry_texts n (take i entries) ++ entry_texts n (drop i entries) =
    held.spelled ∙ ap (entry_texts n) (sym (take-append-drop i entries)) ∙ flat_map-append (entry_text n) (take i entries) (drop i entries) in
    ap (drop at) split
    ∙ drop_at (entry_texts n (take i entries)) (entry_texts n (drop i entries)) at front
    ∙ ap (entry_texts n) (drop_more entries i (0, 0) (omega arith))
    ∙ append_assoc (le n (entry entries i).0) (le 8 (entry entries i).1) (entry_texts n (drop (i + 1) entries))

pub array_size : (n : ℕ) (bytes : List ℕ) (count : ℕ) → HoldsArray n bytes count → length bytes ≡ (n + 8) * count
array_size n bytes count held =
    ap length held.spelled ∙ length-entry_texts n (entries_in n count bytes) ∙ ap (λ (m : ℕ). (n + 8) * m) (length-entries_in n count bytes)

fits_at : (n : ℕ) (bytes : List ℕ) (count i : ℕ) → HoldsArray n bytes count → i < count → EntryFits n (entry (entries_in n count bytes) i)
fits_at n bytes count i held lt = held.entries_fit i (0, 0) (omega (arith, length-entries_in n count bytes))

pub first_not_refused : (n : ℕ) (bytes : List ℕ) (count i at : ℕ) (why : Why) → 0 < n → HoldsArray n bytes count → i < count → at ≡ (n + 8) * i → NumberFails n bytes at why → ⊥
first_not_refused n bytes count i at why some held lt at_is =
    let entries = entries_in n count bytes in
    number_not_refused n bytes at (entry entries i).0 (le 8 (entry entries i).1 ++ entry_texts n (drop (i + 1) entries)) why some (entry_stands n bytes count i at held lt at_is)

-- the first number that was read, and what stands behind it
first_decided : (n : ℕ) (bytes : List ℕ) (count i at first middle : ℕ) → HoldsArray n bytes count → i < count → at ≡ (n + 8) * i → NumberAt n bytes at first middle → (first ≡ (entry (entries_in n count bytes) i).0) × (drop middle bytes ≡ le 8 (entry (entries_in n count bytes) i).1 ++ entry_texts n (drop (i + 1) (entries_in n count bytes)))
first_decided n bytes count i at first middle held lt at_is there =
    let entries = entries_in n count bytes in
    number_decided n bytes at first middle (entry entries i).0 (le 8 (entry entries i).1 ++ entry_texts n (drop (i + 1) entries)) there (fits_at n bytes count i held lt).first_fits (entry_stands n bytes count i at held lt at_is)

pub second_not_refused : (n : ℕ) (bytes : List ℕ) (count i at first middle : ℕ) (why : Why) → HoldsArray n bytes count → i < count → at ≡ (n + 8) * i → NumberAt n bytes at first middle → NumberFails 8 bytes middle why → ⊥
second_not_refused n bytes count i at first middle why held lt at_is there =
    let entries = entries_in n count bytes in
    number_not_refused 8 bytes middle (entry entries i).1 (entry_texts n (drop (i + 1) entries)) why (omega arith) (first_decided n bytes count i at first middle held lt at_is there).1

pub entry_read : (n : ℕ) (bytes : List ℕ) (count i at first middle second end : ℕ) → HoldsArray n bytes count → i < count → at ≡ (n + 8) * i → NumberAt n bytes at first middle → NumberAt 8 bytes middle second end → slice_get (entries_in n count bytes) i ≡ Some (first, second)
entry_read n bytes count i at first middle second end held lt at_is there behind =
    let entries = entries_in n count bytes in
    let one = first_decided n bytes count i at first middle held lt at_is there in
    let two = number_decided 8 bytes middle second end (entry entries i).1 (entry_texts n (drop (i + 1) entries)) behind (fits_at n bytes count i held lt).second_fits one.1 in
    slice_get-get_or entries i (0, 0) (omega (arith, length-entries_in n count bytes))
    ∙ ap (λ (x : ℕ). Some (x, (entry entries i).1)) (sym one.0)
    ∙ ap (λ (x : ℕ). Some (first, x)) (sym two.0)

-- ---- arrays that were read

pub array_read : (n : ℕ) (content : List ℕ) (at : ℕ) (bytes : List ℕ) (end count : ℕ) → BytesAt 4 content at bytes end → HoldsArray n bytes count → ArrayAt n content at (entries_in n count bytes) end
array_read n content at bytes end count there held =
    let size : length bytes ≡ length (entry_texts n (entries_in n count bytes)) = ap length held.spelled in
    record {
      field = subst (λ (l : List ℕ). FieldAt content at end (prefixed 4 l)) held.spelled there.field;
      size = omega (arith, there.size, size);
      fits = omega (arith, there.fits, size);
      entries_fit = held.entries_fit;
    }

-- the length of bytes that stand there
pub length_there : (content : List ℕ) (at : ℕ) (bytes : List ℕ) (end : ℕ) → BytesAt 4 content at bytes end → text_length content at ≡ length bytes
length_there content at bytes end there = length_found content at bytes (drop end content) there.fits there.field.spelled_there

pub bytes_there : (content : List ℕ) (at : ℕ) (bytes : List ℕ) (end : ℕ) → BytesAt 4 content at bytes end → text_bytes content at ≡ bytes
bytes_there content at bytes end there = bytes_found content at bytes (drop end content) there.fits there.field.spelled_there

pub bytes_fit : (content : List ℕ) (at : ℕ) (bytes : List ℕ) (end : ℕ) → AreBytes content → BytesAt 4 content at bytes end → AreBytes bytes
bytes_fit content at bytes end fit there =
    subst AreBytes (bytes_there content at bytes end there) (AreBytes-take (text_length content at) (drop (at + 4) content) (AreBytes-drop (at + 4) content fit))

pub whole_there : (content : List ℕ) (at : ℕ) (bytes : List ℕ) (end : ℕ) → BytesAt 4 content at bytes end → at + 4 + text_length content at ≤ length content
whole_there content at bytes end there =
    omega (arith, length_there content at bytes end there, there.size, there.field.ends)

-- the entries up to the next one of a list fit in what all take
pub record EntryStep (n : ℕ) (entries : List Entry) (i : ℕ) : Type 0 where
  pub size : length (entry_texts n (take i entries)) ≡ (n + 8) * i
  pub within : length (entry_texts n (take i entries)) + (n + 8) ≤ length (entry_texts n entries)

pub entry_step : (n : ℕ) (entries : List Entry) (i : ℕ) → i < length entries → EntryStep n entries i
entry_step n entries i lt =
    let front : length (entry_texts n (take i entries)) ≡ (n + 8) * i = length-entry_texts n (take i entries) ∙ ap (λ (m : ℕ). (n + 8) * m) (length-take-le i entries (omega arith)) in
    let up : (n + 8) * (i + 1) ≤ (n + 8) * length entries = mul-le-mul_left (n + 8) (omega arith) in
    record { size = front; within = omega (arith, front, up, length-entry_texts n entries) }

-- ---- one more count

pub one_more_count : (bytes : List ℕ) (count at key middle number end : ℕ) → HoldsCounts (take at bytes) count → NumberAt 2 bytes at key middle → NumberAt 8 bytes middle number end → LacksKey (entries_in 2 count (take at bytes)) key → HoldsCounts (take end bytes) (count + 1) × (entries_in 2 (count + 1) (take end bytes) ≡ entries_in 2 count (take at bytes) ++ (key, number) ∷ [])
one_more_count bytes count at key middle number end held key_there number_there new =
    let before = entries_in 2 count (take at bytes) in
    let after = before ++ (key, number) ∷ [] in
    let spelled : take end bytes ≡ entry_texts 2 after =
    taken_more bytes middle end (le 8 number) number_there.field (omega (arith, number_there.size, length-le 8 number))
    ∙ ap (λ (l : List ℕ). l ++ le 8 number) (taken_more bytes at middle (le 2 key) key_there.field (omega (arith, key_there.size, length-le 2 key)))
    ∙ append_assoc (take at bytes) (le 2 key) (le 8 number)
    ∙ ap (λ (l : List ℕ). l ++ entry_text 2 (key, number)) held.array.spelled
    ∙ sym (entry_texts-push 2 before (key, number)) in
    let fit : All (EntryFits 2) after = All-push (EntryFits 2) before (key, number) held.array.entries_fit (record { first_fits = key_there.fits; second_fits = number_there.fits }) in
    let size : count + 1 ≡ length after = omega (arith, length-append before ((key, number) ∷ []), length-entries_in 2 count (take at bytes)) in
    let same = entries_are 2 (take end bytes) after (count + 1) spelled fit size in (
      record {
        array = array_is_held 2 (take end bytes) after (count + 1) spelled fit size;
        keys_differ = subst KeysDiffer (sym same) (KeysDiffer-push before (key, number) held.keys_differ new);
      },
      same,
    )

-- a key that isn't below the bound of all others is new
pub beyond_is_new : (counts : List Entry) (bound key : ℕ) → All (λ p. p.0 < bound) counts → bound ≤ key → LacksKey counts key
beyond_is_new counts bound key below beyond k d lt same = absurd (omega (arith, below k d lt, same, beyond))

-- one bound for all keys and one more
pub bound_more : (counts after : List Entry) (key number bound larger : ℕ) → after ≡ counts ++ (key, number) ∷ [] → All (λ p. p.0 < bound) counts → bound ≤ larger → key < larger → All (λ p. p.0 < larger) after
bound_more counts after key number bound larger is below up next =
    subst (All (λ (p : Entry). p.0 < larger)) (sym is)
    (All-push (λ (p : Entry). p.0 < larger) counts (key, number) (λ k d lt. omega (arith, below k d lt, up)) next)

pub no_counts : (bytes : List ℕ) → HoldsCounts (take 0 bytes) 0
no_counts bytes = record {
  array = array_is_held 2 [] [] 0 refl (All-nil (EntryFits 2)) refl;
  keys_differ = λ i j d below within. absurd (omega (arith, length-entries_in 2 0 []));
}

counts_before : (bytes : List ℕ) (count at : ℕ) → at ≤ length bytes → HoldsCounts (take at bytes) count → FieldAt bytes 0 at (entry_texts 2 (entries_in 2 count (take at bytes)))
counts_before bytes count at within held = record {
  spelled_there = sym (take-append-drop at bytes) ∙ ap (λ (l : List ℕ). l ++ drop at bytes) held.array.spelled;
  begins = omega arith;
  ends = within;
}

pub counts_fit : (counts : List Entry) → All (EntryFits 2) counts → All (ItemFits (a_uint 2) (a_uint 8)) counts
counts_fit counts fit = λ i d lt. ((fit i d lt).first_fits, (fit i d lt).second_fits)

-- behind the counts up to an offset another begins, and fails
pub counts_stop : (bytes : List ℕ) (count at : ℕ) (why : Why) → at < length bytes → HoldsCounts (take at bytes) count → ItemFails (a_uint 2) (a_uint 8) (entries_in 2 count (take at bytes)) bytes at why → MapStops (a_uint 2) (a_uint 8) bytes why
counts_stop bytes count at why begins held fails = record {
  before = entries_in 2 count (take at bytes);
  at = at;
  field = counts_before bytes count at (omega (arith, begins)) held;
  items_fit = counts_fit (entries_in 2 count (take at bytes)) held.array.entries_fit;
  keys_differ = held.keys_differ;
  begins = begins;
  fails = fails;
}

-- ---- refusals

-- no array begins another
pub arrays_apart : (n : ℕ) (entries others : List Entry) (rest behind : List ℕ) → length (entry_texts n entries) < 2 ^ 32 → length (entry_texts n others) < 2 ^ 32 → All (EntryFits n) entries → All (EntryFits n) others → array_text n entries ++ rest ≡ array_text n others ++ behind → (entries ≡ others) × (rest ≡ behind)
arrays_apart n entries others rest behind fits other_fits fit others_fit same =
    let decided = texts_apart (entry_texts n entries) (entry_texts n others) rest behind fits other_fits same in
    (entries_same n entries others fit others_fit decided.0, decided.1)

array_within : (n : ℕ) (content : List ℕ) (at : ℕ) (entries : List Entry) (rest : List ℕ) → drop at content ≡ array_text n entries ++ rest → at + 4 + length (entry_texts n entries) ≤ length content
array_within n content at entries rest is =
    omega (arith, stands_within content at (array_text n entries) rest is (omega (arith, length-string (entry_texts n entries))), length-string (entry_texts n entries))

pub entries_not_refused : (content : List ℕ) (at : ℕ) (entries : List Entry) (rest : List ℕ) (why : Why) → length (entry_texts 8 entries) < 2 ^ 32 → drop at content ≡ array_text 8 entries ++ rest → EntriesFail content at why → ⊥
entries_not_refused content at entries rest why fits is fails = by_cause why fails
  where
    size : text_length content at ≡ length (entry_texts 8 entries)
    size = length_found content at (entry_texts 8 entries) rest fits is

    by_cause : (cause : Why) → EntriesFail content at cause → ⊥
    by_cause Short (inl short) = absurd (omega (arith, array_within 8 content at entries rest is, short))
    by_cause Short (inr short) = absurd (omega (arith, array_within 8 content at entries rest is, size, short.1))
    by_cause BadText none = none
    by_cause BadLength bad = bad.1 (omega (arith, size, length-entry_texts 8 entries))
    by_cause DoubleKey none = none
