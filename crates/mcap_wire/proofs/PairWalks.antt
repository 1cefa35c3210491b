-- Pairs that are read from their bytes, one behind the other.
use Rattle.std.proofs.Common.{◌≡◌, ℕ, zero, suc, ◌+◌, ◌^◌, ◌<◌, ◌≤◌, List, [], ◌∷◌, ◌++◌, length, get_or, take, drop, refl, sym, ap, subst, inr, ◌∙◌, append_assoc, inl, arith}
use Rattle.std.specs.Prelude.{All, Bool, true, false, Some, slice_get}
use Rattle.std.proofs.lemmas.Option.{slice_get-get_or}
use Rattle.std.specs.Ordering.{nat_cmp, is_gt, is_some_and, ordering_reverse, ordering_then, MatchOrdering}
use Rattle.std.specs.declared.cmp.Ordering.{Ordering}
use Rattle.std.specs.declared.cmp.Ordering.TheVariants.{Less, Equal, Greater}
use Rattle.std.specs.Cmp.Lexicographic.{slice_cmp, slice_partial_cmp}
use Rattle.std.proofs.lemmas.Cmp.{nat_list_cmp_total, same_from_slice_cmp_tested, tied_itself, upto}
use Rattle.std.proofs.lemmas.List.{append-nil, take_at, drop_at, length-append, drop-drop, drop_more, take_more, take-append-drop}
use Rattle.std.proofs.lemmas.List.Elements.{All-head, All-tail, All-push}
use Rattle.std.proofs.Math.Seq.{take-add}
use Rattle.mcap_wire.specs.declared.faults.Why.{Why}
use Rattle.mcap_wire.specs.declared.faults.Why.TheVariants.{Short, BadText, BadLength, DoubleKey}
use Rattle.mcap_wire.specs.Layout.{string, FieldAt, text_length, text_bytes}
use Rattle.mcap_wire.specs.Reading.{TextAt}
use Rattle.mcap_wire.specs.Maps.{IsText, IsTextPair, KeysDiffer, IsTextMap, pair_text, pair_texts}
use Rattle.mcap_wire.specs.MapReading.{a_string, LacksKey, ItemFails, MapStops}
use Rattle.mcap_wire.specs.PairBytes.{behind_text, pairs_in, SpellsPairs, HoldsMap, NoneAbove, PartFails, TextStands}
use Rattle.mcap_wire.proofs.Framing.{length-string, length_found, bytes_found, stands_within, text_decided}
use Rattle.mcap_wire.proofs.TextMaps.{Pair, IsTextMap-nil, IsTextMap-push, pair_texts-push, pair_parts, texts_fit}

-- ---- the pairs that some bytes are

-- what stands behind a text
behind_found : (bytes text rest : List ℕ) → length text < 2 ^ 32 → bytes ≡ string text ++ rest → behind_text bytes ≡ rest
behind_found bytes text rest fits is =
    ap (λ (n : ℕ). drop (4 + n) bytes) (length_found bytes 0 text rest fits is)
    ∙ ap (drop (4 + length text)) is
    ∙ drop_at (string text) rest (4 + length text) (length-string text)

pairs_found : (pairs : List Pair) (rest : List ℕ) → All IsTextPair pairs → pairs_in (length pairs) (pair_texts pairs ++ rest) ≡ pairs
unfolding pairs_in
pairs_found [] rest texts = refl
pairs_found (p ∷ pairs) rest texts =
    let is_pair : IsTextPair p = All-head IsTextPair p pairs texts in
    let bytes = pair_texts (p ∷ pairs) ++ rest in
    let more = pair_texts pairs ++ rest in
    let parts : bytes ≡ string p.0 ++ (string p.1 ++ more) = pair_parts p (pair_texts pairs) rest in
    let key : text_bytes bytes 0 ≡ p.0 = bytes_found bytes 0 p.0 (string p.1 ++ more) is_pair.key.fits parts in
    let behind : behind_text bytes ≡ string p.1 ++ more = behind_found bytes p.0 (string p.1 ++ more) is_pair.key.fits parts in
    let value : text_bytes (behind_text bytes) 0 ≡ p.1 = bytes_found (behind_text bytes) 0 p.1 more is_pair.value.fits behind in
    let last : behind_text (behind_text bytes) ≡ more = behind_found (behind_text bytes) p.1 more is_pair.value.fits behind in
    let others : pairs_in (length pairs) (behind_text (behind_text bytes)) ≡ pairs = ap (pairs_in (length pairs)) last ∙ pairs_found pairs rest (All-tail IsTextPair p pairs texts) in
    ap (λ (k : List ℕ). (k, text_bytes (behind_text bytes) 0) ∷ pairs_in (length pairs) (behind_text (behind_text bytes))) key
    ∙ ap (λ (v : List ℕ). (p.0, v) ∷ pairs_in (length pairs) (behind_text (behind_text bytes))) value
    ∙ ap (λ (l : List Pair). p ∷ l) others

pub length-pairs_in : (n : ℕ) (bytes : List ℕ) → length (pairs_in n bytes) ≡ n
unfolding pairs_in
length-pairs_in zero bytes = refl
length-pairs_in (suc n) bytes = ap suc (length-pairs_in n (behind_text (behind_text bytes)))

-- bytes that spell some pairs are those pairs
pub pairs_are : (bytes : List ℕ) (pairs : List Pair) (n : ℕ) → bytes ≡ pair_texts pairs → All IsTextPair pairs → n ≡ length pairs → pairs_in n bytes ≡ pairs
pairs_are bytes pairs n is texts size =
    ap (λ (m : ℕ). pairs_in m bytes) size
    ∙ ap (pairs_in (length pairs)) (is ∙ sym (append-nil (pair_texts pairs)))
    ∙ pairs_found pairs [] texts

pub map_is_held : (bytes : List ℕ) (pairs : List Pair) (n : ℕ) → bytes ≡ pair_texts pairs → IsTextMap pairs → n ≡ length pairs → HoldsMap bytes n
map_is_held bytes pairs n is is_map size =
    let same = pairs_are bytes pairs n is is_map.texts size in
    record { spelled = is ∙ ap pair_texts (sym same); is_map = subst IsTextMap (sym same) is_map }

pub empty_is_held : (bytes : List ℕ) → HoldsMap (take 0 bytes) 0
empty_is_held bytes = map_is_held [] [] 0 refl IsTextMap-nil refl

-- ---- one more pair

-- what stands up to the end of a field
pub taken_more : (content : List ℕ) (at end : ℕ) (spelled : List ℕ) → FieldAt content at end spelled → end ≡ at + length spelled → take end content ≡ take at content ++ spelled
taken_more content at end spelled field size =
    ap (λ (n : ℕ). take n content) size
    ∙ take-add at (length spelled) content
    ∙ ap (λ (l : List ℕ). take at content ++ take (length spelled) l) field.spelled_there
    ∙ ap (λ (l : List ℕ). take at content ++ l) (take_at spelled (drop end content) (length spelled) refl)

-- a key and a value that were read behind the pairs that stand before them
pub pair_spelled : (bytes : List ℕ) (at middle end : ℕ) (key value before : List ℕ) → take at bytes ≡ before → TextAt bytes at key middle → TextAt bytes middle value end → take end bytes ≡ before ++ pair_text (key, value)
pair_spelled bytes at middle end key value before is key_there value_there =
    taken_more bytes middle end (string value) value_there.field (omega (arith, value_there.size, length-string value))
    ∙ ap (λ (l : List ℕ). l ++ string value) (taken_more bytes at middle (string key) key_there.field (omega (arith, key_there.size, length-string key)))
    ∙ append_assoc (take at bytes) (string key) (string value)
    ∙ ap (λ (l : List ℕ). l ++ pair_text (key, value)) is

pub pair_of_texts : (bytes : List ℕ) (at middle end : ℕ) (key value : List ℕ) → TextAt bytes at key middle → TextAt bytes middle value end → IsTextPair (key, value)
pair_of_texts bytes at middle end key value key_there value_there = record {
  key = record { fits = key_there.fits; utf8 = key_there.utf8 };
  value = record { fits = value_there.fits; utf8 = value_there.utf8 };
}

-- the pairs up to an offset, and one that was read there
pub one_more : (bytes : List ℕ) (count at middle end : ℕ) (key value : List ℕ) → HoldsMap (take at bytes) count → TextAt bytes at key middle → TextAt bytes middle value end → LacksKey (pairs_in count (take at bytes)) key → HoldsMap (take end bytes) (count + 1) × (pairs_in (count + 1) (take end bytes) ≡ pairs_in count (take at bytes) ++ (key, value) ∷ [])
one_more bytes count at middle end key value held key_there value_there new =
    let before = pairs_in count (take at bytes) in
    let spelled : take end bytes ≡ pair_texts (before ++ (key, value) ∷ []) =
    pair_spelled bytes at middle end key value (pair_texts before) held.spelled key_there value_there ∙ sym (pair_texts-push before (key, value)) in
    let is_map : IsTextMap (before ++ (key, value) ∷ []) = IsTextMap-push before (key, value) held.is_map (pair_of_texts bytes at middle end key value key_there value_there) new in
    let size : count + 1 ≡ length (before ++ (key, value) ∷ []) = omega (arith, length-append before ((key, value) ∷ []), length-pairs_in count (take at bytes)) in
    (map_is_held (take end bytes) (before ++ (key, value) ∷ []) (count + 1) spelled is_map size, pairs_are (take end bytes) (before ++ (key, value) ∷ []) (count + 1) spelled is_map.texts size)

-- the same where keys may be equal
pub one_more_spelled : (bytes : List ℕ) (count at middle end : ℕ) (key value : List ℕ) → SpellsPairs (take at bytes) count → TextAt bytes at key middle → TextAt bytes middle value end → SpellsPairs (take end bytes) (count + 1)
one_more_spelled bytes count at middle end key value spells key_there value_there =
    let before = pairs_in count (take at bytes) in
    let spelled : take end bytes ≡ pair_texts (before ++ (key, value) ∷ []) =
    pair_spelled bytes at middle end key value (pair_texts before) spells.spelled key_there value_there ∙ sym (pair_texts-push before (key, value)) in
    let texts : All IsTextPair (before ++ (key, value) ∷ []) = All-push IsTextPair before (key, value) spells.texts (pair_of_texts bytes at middle end key value key_there value_there) in
    let size : count + 1 ≡ length (before ++ (key, value) ∷ []) = omega (arith, length-append before ((key, value) ∷ []), length-pairs_in count (take at bytes)) in
    let same = pairs_are (take end bytes) (before ++ (key, value) ∷ []) (count + 1) spelled texts size in
    record { spelled = spelled ∙ ap pair_texts (sym same); texts = subst (All IsTextPair) (sym same) texts }

pub empty_is_spelled : (bytes : List ℕ) → SpellsPairs (take 0 bytes) 0
empty_is_spelled bytes = let held = empty_is_held bytes in record { spelled = held.spelled; texts = held.is_map.texts }

-- pairs whose keys differ are a map
pub spelled_is_held : (bytes : List ℕ) (count : ℕ) → SpellsPairs bytes count → KeysDiffer (pairs_in count bytes) → HoldsMap bytes count
spelled_is_held bytes count spells differ = record { spelled = spells.spelled; is_map = record { texts = spells.texts; keys_differ = differ } }

-- the pairs that were read so far stand from the front up to an offset
pub stands_before : (bytes : List ℕ) (count at : ℕ) → at ≤ length bytes → HoldsMap (take at bytes) count → FieldAt bytes 0 at (pair_texts (pairs_in count (take at bytes)))
stands_before bytes count at within held = record {
  spelled_there = sym (take-append-drop at bytes) ∙ ap (λ (l : List ℕ). l ++ drop at bytes) held.spelled;
  begins = omega arith;
  ends = within;
}

-- behind the pairs up to an offset another begins, and fails
pub pairs_stop : (bytes : List ℕ) (count at : ℕ) (why : Why) → at < length bytes → HoldsMap (take at bytes) count → ItemFails a_string a_string (pairs_in count (take at bytes)) bytes at why → MapStops a_string a_string bytes why
pairs_stop bytes count at why begins held fails = record {
  before = pairs_in count (take at bytes);
  at = at;
  field = stands_before bytes count at (omega (arith, begins)) held;
  items_fit = texts_fit (pairs_in count (take at bytes)) held.is_map.texts;
  keys_differ = held.is_map.keys_differ;
  begins = begins;
  fails = fails;
}

-- a key that can't be read
pub key_fails : (before : List Pair) (bytes : List ℕ) (at : ℕ) (why : Why) → PartFails bytes at why → ItemFails a_string a_string before bytes at why
key_fails before bytes at Short fails = fails
key_fails before bytes at BadText fails = inl fails
key_fails before bytes at BadLength fails = inl fails
key_fails before bytes at DoubleKey fails = absurd fails

-- a value that can't be read behind a new key
pub value_fails : (before : List Pair) (bytes : List ℕ) (at : ℕ) (key : List ℕ) (middle : ℕ) (why : Why) → TextAt bytes at key middle → LacksKey before key → PartFails bytes middle why → ItemFails a_string a_string before bytes at why
value_fails before bytes at key middle Short there new fails = fails
value_fails before bytes at key middle BadText there new fails = inr (key, middle, there, new, fails)
value_fails before bytes at key middle BadLength there new fails = inr (key, middle, there, new, fails)
value_fails before bytes at key middle DoubleKey there new fails = absurd fails

-- ---- a walk along the pairs

-- from an offset on stand the pairs from the i-th on
pub record WalkedTo (bytes : List ℕ) (pairs : List Pair) (i at : ℕ) : Type 0 where
  pub rest : drop at bytes ≡ pair_texts (drop i pairs)
  pub within : at ≤ length bytes

-- a text is whole there, and this follows it
pub record TextHere (bytes : List ℕ) (at : ℕ) (text rest : List ℕ) : Type 0 where
  pub head : at + 4 ≤ length bytes
  pub whole : at + 4 + text_length bytes at ≤ length bytes
  pub text_is : text_bytes bytes at ≡ text
  pub rest_is : drop (at + 4 + text_length bytes at) bytes ≡ rest

pub text_here : (bytes : List ℕ) (at : ℕ) (text rest : List ℕ) → length text < 2 ^ 32 → drop at bytes ≡ string text ++ rest → TextHere bytes at text rest
text_here bytes at text rest fits is =
    let size : text_length bytes at ≡ length text = length_found bytes at text rest fits is in
    let within : at + (4 + length text) ≤ length bytes = omega (arith, stands_within bytes at (string text) rest is (omega (arith, length-string text)), length-string text) in
    let end : at + 4 + text_length bytes at ≡ at + (4 + length text) = omega (arith, size) in
    record {
      head = omega (arith, within);
      whole = omega (arith, end, within);
      text_is = bytes_found bytes at text rest fits is;
      rest_is = ap (λ (n : ℕ). drop n bytes) end
          ∙ sym (drop-drop (4 + length text) at bytes)
          ∙ ap (drop (4 + length text)) is
          ∙ drop_at (string text) rest (4 + length text) (length-string text);
    }

-- the i-th pair
abbrev pub nth : List Pair → ℕ → Pair
nth pairs i = get_or pairs i ([], [])

pub key_stands : (bytes : List ℕ) (pairs : List Pair) (i at : ℕ) → i < length pairs → WalkedTo bytes pairs i at → drop at bytes ≡ string (nth pairs i).0 ++ (string (nth pairs i).1 ++ pair_texts (drop (i + 1) pairs))
key_stands bytes pairs i at lt walked =
    walked.rest ∙ ap pair_texts (drop_more pairs i ([], []) lt) ∙ append_assoc (string (nth pairs i).0) (string (nth pairs i).1) (pair_texts (drop (i + 1) pairs))

pub key_here : (bytes : List ℕ) (pairs : List Pair) (i at : ℕ) → All IsTextPair pairs → i < length pairs → WalkedTo bytes pairs i at → TextHere bytes at (nth pairs i).0 (string (nth pairs i).1 ++ pair_texts (drop (i + 1) pairs))
key_here bytes pairs i at texts lt walked =
    text_here bytes at (nth pairs i).0 (string (nth pairs i).1 ++ pair_texts (drop (i + 1) pairs)) (texts i ([], []) lt).key.fits (key_stands bytes pairs i at lt walked)

pub value_here : (bytes : List ℕ) (pairs : List Pair) (i at middle : ℕ) → All IsTextPair pairs → i < length pairs → WalkedTo bytes pairs i at → middle ≡ at + 4 + text_length bytes at → TextHere bytes middle (nth pairs i).1 (pair_texts (drop (i + 1) pairs))
value_here bytes pairs i at middle texts lt walked middle_is =
    text_here bytes middle (nth pairs i).1 (pair_texts (drop (i + 1) pairs)) (texts i ([], []) lt).value.fits
    (ap (λ (n : ℕ). drop n bytes) middle_is ∙ (key_here bytes pairs i at texts lt walked).rest_is)

pub walked_on : (bytes : List ℕ) (pairs : List Pair) (i at middle end : ℕ) → All IsTextPair pairs → i < length pairs → WalkedTo bytes pairs i at → middle ≡ at + 4 + text_length bytes at → end ≡ middle + 4 + text_length bytes middle → WalkedTo bytes pairs (i + 1) end
walked_on bytes pairs i at middle end texts lt walked middle_is end_is =
    let value = value_here bytes pairs i at middle texts lt walked middle_is in
    record {
      rest = ap (λ (n : ℕ). drop n bytes) end_is ∙ value.rest_is;
      within = omega (arith, end_is, value.whole);
    }

-- a text that is spelled there stands there
pub text_stands : (bytes : List ℕ) (at : ℕ) (text rest : List ℕ) → IsText text → drop at bytes ≡ string text ++ rest → TextAt bytes at text (at + 4 + length text)
text_stands bytes at text rest is_text is =
    let within : at + (4 + length text) ≤ length bytes = omega (arith, stands_within bytes at (string text) rest is (omega (arith, length-string text)), length-string text) in
    let end : at + 4 + length text ≡ at + (4 + length text) = omega arith in
    let behind : drop (at + 4 + length text) bytes ≡ rest =
    ap (λ (n : ℕ). drop n bytes) end ∙ sym (drop-drop (4 + length text) at bytes) ∙ ap (drop (4 + length text)) is ∙ drop_at (string text) rest (4 + length text) (length-string text) in
    record {
      field = record {
        spelled_there = is ∙ ap (λ (l : List ℕ). string text ++ l) (sym behind);
        begins = omega arith;
        ends = omega (arith, within);
      };
      size = refl;
      fits = is_text.fits;
      utf8 = is_text.utf8;
    }

pub key_is_text : (bytes : List ℕ) (pairs : List Pair) (i at : ℕ) → All IsTextPair pairs → i < length pairs → WalkedTo bytes pairs i at → TextStands bytes at
key_is_text bytes pairs i at texts lt walked =
    ((nth pairs i).0, at + 4 + length (nth pairs i).0, text_stands bytes at (nth pairs i).0 (string (nth pairs i).1 ++ pair_texts (drop (i + 1) pairs)) (texts i ([], []) lt).key (key_stands bytes pairs i at lt walked))

-- what a key that was read is, and what stands behind it
pub key_decided : (bytes : List ℕ) (pairs : List Pair) (i at : ℕ) (key : List ℕ) (middle : ℕ) → All IsTextPair pairs → i < length pairs → WalkedTo bytes pairs i at → TextAt bytes at key middle → (key ≡ (nth pairs i).0) × (drop middle bytes ≡ string (nth pairs i).1 ++ pair_texts (drop (i + 1) pairs))
key_decided bytes pairs i at key middle texts lt walked there =
    text_decided bytes at key middle (nth pairs i).0 (string (nth pairs i).1 ++ pair_texts (drop (i + 1) pairs)) there (texts i ([], []) lt).key.fits (key_stands bytes pairs i at lt walked)

pub value_is_text : (bytes : List ℕ) (pairs : List Pair) (i at : ℕ) (key : List ℕ) (middle : ℕ) → All IsTextPair pairs → i < length pairs → WalkedTo bytes pairs i at → TextAt bytes at key middle → TextStands bytes middle
value_is_text bytes pairs i at key middle texts lt walked there =
    let behind = (key_decided bytes pairs i at key middle texts lt walked there).1 in
    ((nth pairs i).1, middle + 4 + length (nth pairs i).1, text_stands bytes middle (nth pairs i).1 (pair_texts (drop (i + 1) pairs)) (texts i ([], []) lt).value behind)

-- a key and a value that were read are the i-th pair, and the walk goes on behind them
pub pair_decided : (bytes : List ℕ) (pairs : List Pair) (i at : ℕ) (key : List ℕ) (middle : ℕ) (value : List ℕ) (end : ℕ) → All IsTextPair pairs → i < length pairs → WalkedTo bytes pairs i at → TextAt bytes at key middle → TextAt bytes middle value end → (nth pairs i ≡ (key, value)) × WalkedTo bytes pairs (i + 1) end
pair_decided bytes pairs i at key middle value end texts lt walked key_there value_there =
    let keys = key_decided bytes pairs i at key middle texts lt walked key_there in
    let values = text_decided bytes middle value end (nth pairs i).1 (pair_texts (drop (i + 1) pairs)) value_there (texts i ([], []) lt).value.fits keys.1 in (
      ap (λ (k : List ℕ). (k, (nth pairs i).1)) (sym keys.0) ∙ ap (λ (v : List ℕ). (key, v)) (sym values.0),
      record { rest = values.1; within = value_there.field.ends },
    )

pub pair_read : (bytes : List ℕ) (pairs : List Pair) (i at : ℕ) (key : List ℕ) (middle : ℕ) (value : List ℕ) (end : ℕ) → All IsTextPair pairs → i < length pairs → WalkedTo bytes pairs i at → TextAt bytes at key middle → TextAt bytes middle value end → slice_get pairs i ≡ Some (key, value)
pair_read bytes pairs i at key middle value end texts lt walked key_there value_there =
    slice_get-get_or pairs i ([], []) lt
    ∙ ap (λ (p : Pair). Some p) (pair_decided bytes pairs i at key middle value end texts lt walked key_there value_there).0

pub pair_copied : (bytes : List ℕ) (pairs copy : List Pair) (i at : ℕ) (key : List ℕ) (middle : ℕ) (value : List ℕ) (end : ℕ) → All IsTextPair pairs → i < length pairs → WalkedTo bytes pairs i at → TextAt bytes at key middle → TextAt bytes middle value end → copy ≡ take i pairs → copy ++ (key, value) ∷ [] ≡ take (i + 1) pairs
pair_copied bytes pairs copy i at key middle value end texts lt walked key_there value_there is =
    ap (λ (l : List Pair). l ++ (key, value) ∷ []) is
    ∙ ap (λ (p : Pair). take i pairs ++ p ∷ []) (sym (pair_decided bytes pairs i at key middle value end texts lt walked key_there value_there).0)
    ∙ sym (take_more pairs i ([], []) lt)

pub walk_begins : (bytes : List ℕ) (count : ℕ) → HoldsMap bytes count → WalkedTo bytes (pairs_in count bytes) 0 0
walk_begins bytes count held = record { rest = held.spelled; within = omega arith }

-- ---- keys in order

above_steps : (x y : ℕ) (xs ys : List ℕ) (o : Ordering) → o ≡ nat_cmp x y → MatchOrdering o (is_gt (slice_cmp nat_cmp (x ∷ xs) (y ∷ ys)) ≡ is_gt Less) (is_gt (slice_cmp nat_cmp (x ∷ xs) (y ∷ ys)) ≡ is_gt (slice_cmp nat_cmp xs ys)) (is_gt (slice_cmp nat_cmp (x ∷ xs) (y ∷ ys)) ≡ is_gt Greater)
above_steps x y xs ys Less is = ap (λ (o : Ordering). is_gt (ordering_then o (slice_cmp nat_cmp xs ys))) (sym is)
above_steps x y xs ys Equal is = ap (λ (o : Ordering). is_gt (ordering_then o (slice_cmp nat_cmp xs ys))) (sym is)
above_steps x y xs ys Greater is = ap (λ (o : Ordering). is_gt (ordering_then o (slice_cmp nat_cmp xs ys))) (sym is)

-- what `>` answers of two slices
pub above_answers : (xs ys : List ℕ) (r : Bool) → r ≡ is_some_and is_gt (slice_partial_cmp (λ x y. Some (nat_cmp x y)) xs ys) → is_gt (slice_cmp nat_cmp xs ys) ≡ r
above_answers xs ys r is =
    sym (same_from_slice_cmp_tested nat_cmp is_gt (λ (a b : List ℕ). is_gt (slice_cmp nat_cmp a b)) refl (λ y ys. refl) (λ x xs. refl) above_steps xs ys r is)

-- a key above all that stand before it is new
pub above_is_new : (pairs : List Pair) (largest key : List ℕ) → NoneAbove pairs largest → is_gt (slice_cmp nat_cmp key largest) ≡ true → LacksKey pairs key
above_is_new pairs largest key none above k d lt same =
    let here : is_gt (slice_cmp nat_cmp key largest) ≡ false = subst (λ (x : List ℕ). is_gt (slice_cmp nat_cmp x largest) ≡ false) same (none k d lt) in
    cc

-- no key is above the larger of a bound and one more key
pub none_above_more : (pairs : List Pair) (largest key value larger : List ℕ) → NoneAbove pairs largest → is_gt (slice_cmp nat_cmp largest larger) ≡ false → is_gt (slice_cmp nat_cmp key larger) ≡ false → NoneAbove (pairs ++ (key, value) ∷ []) larger
none_above_more pairs largest key value larger none up below =
    All-push (λ (p : Pair). is_gt (slice_cmp nat_cmp p.0 larger) ≡ false) pairs (key, value)
    (λ k d lt. upto nat_list_cmp_total (get_or pairs k d).0 largest larger (none k d lt) up) below

-- of two texts one isn't above the other
above_reversed : (o p : Ordering) → p ≡ ordering_reverse o → is_gt o ≡ true → is_gt p ≡ false
above_reversed Less p is above = cc
above_reversed Equal p is above = cc
above_reversed Greater p is above = ap is_gt is

pub not_above : (one other : List ℕ) → is_gt (slice_cmp nat_cmp other one) ≡ true → is_gt (slice_cmp nat_cmp one other) ≡ false
not_above one other above =
    above_reversed (slice_cmp nat_cmp other one) (slice_cmp nat_cmp one other) (nat_list_cmp_total.antisymm one other) above

pub not_above_itself : (text : List ℕ) → is_gt (slice_cmp nat_cmp text text) ≡ false
not_above_itself text = ap is_gt (tied_itself nat_list_cmp_total text)
