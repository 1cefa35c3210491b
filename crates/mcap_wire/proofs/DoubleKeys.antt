-- Keys that stand twice: the first of them is where the reading of a map stops.
use Rattle.std.proofs.Common.{◌≡◌, ◌≢◌, ◌⊎◌, ℕ, zero, suc, ◌+◌, ◌<◌, ◌≤◌, List, [], ◌∷◌, ◌++◌, length, take, drop, refl, sym, ap, subst, inl, inr, ◌∙◌, append_assoc, arith}
use Rattle.std.specs.Prelude.{All}
use Rattle.std.specs.Ordering.{nat_cmp}
use Rattle.std.specs.Cmp.Lexicographic.{slice_cmp}
use Rattle.std.specs.declared.cmp.Ordering.{Ordering}
use Rattle.std.specs.declared.cmp.Ordering.TheVariants.{Less, Equal, Greater}
use Rattle.std.proofs.lemmas.Cmp.{nat_list_cmp_total, tied_itself}
use Rattle.std.proofs.lemmas.List.{drop_at, length-append, drop_more, take_more, take_all, take-append-drop}
use Rattle.std.proofs.lemmas.List.Concat.{flat_map-append}
use Rattle.std.proofs.lemmas.List.Elements.{All-cons, All-nil, All-take}
use Rattle.std.proofs.lemmas.Map.Lookups.{exact_bytes}
use Rattle.mcap_wire.specs.declared.faults.Why.{Why}
use Rattle.mcap_wire.specs.declared.faults.Why.TheVariants.{DoubleKey}
use Rattle.mcap_wire.specs.Layout.{string}
use Rattle.mcap_wire.specs.Reading.{TextAt}
use Rattle.mcap_wire.specs.Maps.{KeysDiffer, IsTextPair, pair_text, pair_texts}
use Rattle.mcap_wire.specs.MapReading.{a_string, HasKey, LacksKey, MapStops}
use Rattle.mcap_wire.specs.PairBytes.{pairs_in, SpellsPairs, KeyTwice, IsFirstFault, IsFirstFaultBehind, PartFails}
use Rattle.mcap_wire.proofs.TextMaps.{Pair, KeysDiffer-push, key_stands_before, length-pair_text, texts_fit}
use Rattle.mcap_wire.proofs.PairWalks.{nth, text_stands, pairs_stop, spelled_is_held, key_fails, value_fails}

-- ---- the first double

has_or_lacks : (items : List Pair) (key : List ℕ) → HasKey items key ⊎ LacksKey items key
has_or_lacks [] key = inr (All-nil (λ (p : Pair). p.0 ≢ key))
has_or_lacks (p ∷ items) key = by_order (has_or_lacks items key) (slice_cmp nat_cmp p.0 key) refl
  where
    later : p.0 ≢ key → HasKey items key ⊎ LacksKey items key → HasKey (p ∷ items) key ⊎ LacksKey (p ∷ items) key
    later apart (inl has) = inl (suc has.0, has.1, omega (arith, has.2), has.3, has.4)
    later apart (inr lacks) = inr (All-cons (λ (p : Pair). p.0 ≢ key) p items apart lacks)

    tied : p.0 ≡ key → slice_cmp nat_cmp p.0 key ≡ Equal
    tied same = ap (λ (x : List ℕ). slice_cmp nat_cmp x key) same ∙ tied_itself nat_list_cmp_total key

    by_order : HasKey items key ⊎ LacksKey items key → (o : Ordering) → slice_cmp nat_cmp p.0 key ≡ o → HasKey (p ∷ items) key ⊎ LacksKey (p ∷ items) key
    by_order known Less is = later (λ same. (let no : Less ≡ Equal = sym is ∙ tied same in cc)) known
    by_order known Equal is = inl (0, p, omega arith, refl, exact_bytes p.0 key is)
    by_order known Greater is = later (λ same. (let no : Greater ≡ Equal = sym is ∙ tied same in cc)) known

-- a pair has the key of an earlier one, and the keys before it differ
abbrev FirstTwice : List Pair → Type 0
FirstTwice pairs = (i : ℕ) × (i < length pairs) × KeysDiffer (take i pairs) × HasKey (take i pairs) (nth pairs i).0

differ_or_twice : (pairs : List Pair) (n : ℕ) → n ≤ length pairs → KeysDiffer (take n pairs) ⊎ FirstTwice pairs
differ_or_twice pairs zero le = inl (λ i j d below within. absurd (omega arith))
differ_or_twice pairs (suc n) le = by (differ_or_twice pairs n (omega (arith, le))) (has_or_lacks (take n pairs) (nth pairs n).0)
  where
    by : KeysDiffer (take n pairs) ⊎ FirstTwice pairs → HasKey (take n pairs) (nth pairs n).0 ⊎ LacksKey (take n pairs) (nth pairs n).0 → KeysDiffer (take (suc n) pairs) ⊎ FirstTwice pairs
    by (inr twice) known = inr twice
    by (inl differ) (inl has) = inr (n, le, differ, has)
    by (inl differ) (inr lacks) = inl (subst KeysDiffer (sym (ap (λ (m : ℕ). take m pairs) (let next : suc n ≡ n + 1 = omega arith in next) ∙ take_more pairs n ([], []) le)) (KeysDiffer-push (take n pairs) (nth pairs n) differ lacks))

first_twice : (pairs : List Pair) → KeyTwice pairs → FirstTwice pairs
first_twice pairs twice = by (differ_or_twice pairs (length pairs) (omega arith))
  where
    parts : pairs ≡ take twice.0 pairs ++ nth pairs twice.0 ∷ drop (twice.0 + 1) pairs
    parts = sym (take-append-drop twice.0 pairs) ∙ ap (λ (l : List Pair). take twice.0 pairs ++ l) (drop_more pairs twice.0 ([], []) twice.1)

    by : KeysDiffer (take (length pairs) pairs) ⊎ FirstTwice pairs → FirstTwice pairs
    by (inr first) = first
    by (inl differ) = absurd (key_stands_before (take twice.0 pairs) (drop (twice.0 + 1) pairs) (nth pairs twice.0)
        (subst KeysDiffer (take_all (length pairs) pairs (omega arith) ∙ parts) differ) twice.2)

-- ---- where it stops the reading

-- where the i-th pair has the key of an earlier one
stops_at : (bytes rest : List ℕ) (pairs : List Pair) (i : ℕ) → bytes ≡ pair_texts pairs ++ rest → All IsTextPair pairs → i < length pairs → KeysDiffer (take i pairs) → HasKey (take i pairs) (nth pairs i).0 → MapStops a_string a_string bytes DoubleKey
stops_at bytes rest pairs i is texts lt differ has = record {
  before = take i pairs;
  at = length (pair_texts (take i pairs));
  field = record { spelled_there = whole ∙ ap (λ (l : List ℕ). pair_texts (take i pairs) ++ l) (sym behind); begins = omega arith; ends = omega (arith, size) };
  items_fit = texts_fit (take i pairs) (All-take IsTextPair i pairs texts);
  keys_differ = differ;
  begins = omega (arith, size, length-pair_text (nth pairs i));
  fails = (
    (nth pairs i).0,
    length (pair_texts (take i pairs)) + 4 + length (nth pairs i).0,
    text_stands bytes (length (pair_texts (take i pairs))) (nth pairs i).0 (string (nth pairs i).1 ++ more) (texts i ([], []) lt).key
        (behind ∙ append_assoc (string (nth pairs i).0) (string (nth pairs i).1) more),
    has,
  );
}
  where
    more : List ℕ
    more = pair_texts (drop (i + 1) pairs) ++ rest

    whole : bytes ≡ pair_texts (take i pairs) ++ (pair_text (nth pairs i) ++ more)
    whole = is
        ∙ ap (λ (l : List Pair). pair_texts l ++ rest) (sym (take-append-drop i pairs) ∙ ap (λ (l : List Pair). take i pairs ++ l) (drop_more pairs i ([], []) lt))
        ∙ ap (λ (l : List ℕ). l ++ rest) (flat_map-append pair_text (take i pairs) (nth pairs i ∷ drop (i + 1) pairs))
        ∙ append_assoc (pair_texts (take i pairs)) (pair_texts (nth pairs i ∷ drop (i + 1) pairs)) rest
        ∙ ap (λ (l : List ℕ). pair_texts (take i pairs) ++ l) (append_assoc (pair_text (nth pairs i)) (pair_texts (drop (i + 1) pairs)) rest)

    behind : drop (length (pair_texts (take i pairs))) bytes ≡ pair_text (nth pairs i) ++ more
    behind = ap (drop (length (pair_texts (take i pairs)))) whole ∙ drop_at (pair_texts (take i pairs)) (pair_text (nth pairs i) ++ more) (length (pair_texts (take i pairs))) refl

    size : length bytes ≡ length (pair_texts (take i pairs)) + (length (pair_text (nth pairs i)) + length more)
    size = ap length whole ∙ length-append (pair_texts (take i pairs)) (pair_text (nth pairs i) ++ more) ∙ ap (λ (n : ℕ). length (pair_texts (take i pairs)) + n) (length-append (pair_text (nth pairs i)) more)

pub twice_stops : (bytes front rest : List ℕ) (count : ℕ) → bytes ≡ front ++ rest → SpellsPairs front count → KeyTwice (pairs_in count front) → MapStops a_string a_string bytes DoubleKey
twice_stops bytes front rest count is spells twice =
    let first = first_twice (pairs_in count front) twice in
    stops_at bytes rest (pairs_in count front) first.0 (is ∙ ap (λ (l : List ℕ). l ++ rest) spells.spelled) spells.texts first.1 first.2 first.3

-- why a map is refused behind the pairs up to an offset
pub stops_at_key : (bytes : List ℕ) (count at : ℕ) (why first : Why) → at < length bytes → SpellsPairs (take at bytes) count → PartFails bytes at why → IsFirstFault (pairs_in count (take at bytes)) why first → MapStops a_string a_string bytes first
stops_at_key bytes count at why first lt spells fails (inl twice) =
    subst (MapStops a_string a_string bytes) (sym twice.0) (twice_stops bytes (take at bytes) (drop at bytes) count (sym (take-append-drop at bytes)) spells twice.1)
stops_at_key bytes count at why first lt spells fails (inr differ) =
    subst (MapStops a_string a_string bytes) (sym differ.0)
    (pairs_stop bytes count at why lt (spelled_is_held (take at bytes) count spells differ.1) (key_fails (pairs_in count (take at bytes)) bytes at why fails))

pub stops_at_value : (bytes : List ℕ) (count at : ℕ) (key : List ℕ) (middle : ℕ) (why first : Why) → at < length bytes → SpellsPairs (take at bytes) count → TextAt bytes at key middle → PartFails bytes middle why → IsFirstFaultBehind (pairs_in count (take at bytes)) key why first → MapStops a_string a_string bytes first
stops_at_value bytes count at key middle why first lt spells there fails (inl twice) =
    subst (MapStops a_string a_string bytes) (sym twice.0) (twice_stops bytes (take at bytes) (drop at bytes) count (sym (take-append-drop at bytes)) spells twice.1)
stops_at_value bytes count at key middle why first lt spells there fails (inr differ) = by differ.1
  where
    by : ((first ≡ DoubleKey) × HasKey (pairs_in count (take at bytes)) key) ⊎ ((first ≡ why) × LacksKey (pairs_in count (take at bytes)) key) → MapStops a_string a_string bytes first
    by (inl has) = subst (MapStops a_string a_string bytes) (sym has.0)
        (pairs_stop bytes count at DoubleKey lt (spelled_is_held (take at bytes) count spells differ.0) (key, middle, there, has.1))
    by (inr lacks) = subst (MapStops a_string a_string bytes) (sym lacks.0)
        (pairs_stop bytes count at why lt (spelled_is_held (take at bytes) count spells differ.0) (value_fails (pairs_in count (take at bytes)) bytes at key middle why there lacks.1 fails))
