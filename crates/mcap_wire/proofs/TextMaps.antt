-- A map of texts spells one list of pairs, and is refused only where it spells none.
use Rattle.std.proofs.Common.{◌≡◌, ◌≢◌, ℕ, ◌+◌, ◌^◌, ◌<◌, ◌≤◌, List, [], ◌∷◌, ◌++◌, length, get_or, take, drop, refl, sym, ap, inl, inr, ◌∙◌, append_assoc, arith}
use Rattle.std.specs.Prelude.{AllPairs, All}
use Rattle.std.proofs.lemmas.Bool.{cases_lt}
use Rattle.std.proofs.lemmas.List.{append-nil, length-append, length-take-le, length-drop, take_more, take-append-drop, flat_map_more, get_or_append_left, get_or_push, get_or_at, length_push}
use Rattle.std.proofs.lemmas.Grind.{flat_map-append}
use Rattle.std.proofs.lemmas.List.Elements.{All-nil, All-head, All-tail, All-push}
use Rattle.mcap_wire.specs.Layout.{le, string, NumberAt}
use Rattle.mcap_wire.specs.Maps.{IsTextPair, KeysDiffer, IsTextMap, pair_text, pair_texts, text_map}
use Rattle.mcap_wire.specs.MapReading.{HasKey, LacksKey, PairsAt, a_string, ItemFits}
use Rattle.mcap_wire.proofs.Fields.{cut_off}
use Rattle.mcap_wire.proofs.Framing.{texts_apart, length-string}

abbrev pub Pair : Type 0
Pair = List ℕ × List ℕ

-- ---- keys

pub AllPairs-push : {X : Type 0} (R : X → X → Type 0) (items : List X) (item : X) → AllPairs R items → All (λ x. R x item) items → AllPairs R (items ++ item ∷ [])
AllPairs-push {X = X} R items item pairs each i j d below within =
    let first : get_or (items ++ item ∷ []) i d ≡ get_or items i d = get_or_append_left items (item ∷ []) d i (omega (arith, length_push items item)) in
    elim (cases_lt j (length items)) [
      | inl lt ↦ rw (first, get_or_append_left items (item ∷ []) d j lt) (pairs i j d below lt)
      | inr le ↦ rw (first, get_or_push items item d j (omega (arith, length_push items item))) (each i d (omega (arith, length_push items item)))
    ]

pub KeysDiffer-push : {K V : Type 0} (items : List (K × V)) (item : K × V) → KeysDiffer items → LacksKey items item.0 → KeysDiffer (items ++ item ∷ [])
KeysDiffer-push {K = K} {V = V} items item = AllPairs-push (λ (p q : K × V). p.0 ≢ q.0) items item

-- a key that stands before an item of its own
pub key_stands_before : {K V : Type 0} (before after : List (K × V)) (item : K × V) → KeysDiffer (before ++ item ∷ after) → HasKey before item.0 → ⊥
key_stands_before {K = K} {V = V} before after item differ has =
    let i = has.0 in
    let d = has.1 in
    let earlier : get_or (before ++ item ∷ after) i d ≡ d = get_or_append_left before (item ∷ after) d i has.2 ∙ has.3 in
    let here : get_or (before ++ item ∷ after) (length before) d ≡ item = get_or_at before item after d (length before) refl in
    differ i (length before) d has.2 (omega (arith, length-append before (item ∷ after)))
    (ap (λ (p : K × V). p.0) earlier ∙ has.4 ∙ sym (ap (λ (p : K × V). p.0) here))

-- ---- maps

pub IsTextMap-nil : IsTextMap []
IsTextMap-nil = record { texts = All-nil IsTextPair; keys_differ = λ i j d below within. absurd (omega arith) }

pub IsTextMap-push : (pairs : List Pair) (pair : Pair) → IsTextMap pairs → IsTextPair pair → LacksKey pairs pair.0 → IsTextMap (pairs ++ pair ∷ [])
IsTextMap-push pairs pair is_map is_pair lacks = record {
  texts = All-push IsTextPair pairs pair is_map.texts is_pair;
  keys_differ = KeysDiffer-push pairs pair is_map.keys_differ lacks;
}

-- the pairs of a map fit as items of texts
pub texts_fit : (pairs : List Pair) → All IsTextPair pairs → All (ItemFits a_string a_string) pairs
texts_fit pairs texts = λ i d lt. ((texts i d lt).key, (texts i d lt).value)

-- ---- how pairs lie

pub pair_texts-push : (pairs : List Pair) (pair : Pair) → pair_texts (pairs ++ pair ∷ []) ≡ pair_texts pairs ++ pair_text pair
pair_texts-push pairs pair = sym (flat_map_more pair_text [] pairs pair)

-- the texts of a first pair, and the rest
pub pair_parts : (p : Pair) (rest behind : List ℕ) → (pair_text p ++ rest) ++ behind ≡ string p.0 ++ (string p.1 ++ (rest ++ behind))
pair_parts p rest behind =
    append_assoc (pair_text p) rest behind ∙ append_assoc (string p.0) (string p.1) (rest ++ behind)

pub length-pair_text : (p : Pair) → length (pair_text p) ≡ 8 + length p.0 + length p.1
length-pair_text p = omega (arith, length-append (string p.0) (string p.1), length-string p.0, length-string p.1)

-- what the i-th pair of a list adds, and that it fits
pub record Step (pairs : List Pair) (i : ℕ) (pair : Pair) : Type 0 where
  pub spelled : pair_texts (take (i + 1) pairs) ≡ pair_texts (take i pairs) ++ pair_text pair
  pub size : length (pair_texts (take (i + 1) pairs)) ≡ length (pair_texts (take i pairs)) + (8 + length pair.0 + length pair.1)
  pub within : length (pair_texts (take (i + 1) pairs)) ≤ length (pair_texts pairs)

pub pair_texts-step : (pairs : List Pair) (i : ℕ) (pair : Pair) → i < length pairs → pair ≡ get_or pairs i pair → Step pairs i pair
pair_texts-step pairs i pair lt is =
    let front : pair_texts (take (i + 1) pairs) ≡ pair_texts (take i pairs) ++ pair_text pair =
    ap pair_texts (take_more pairs i pair lt ∙ ap (λ (p : Pair). take i pairs ++ p ∷ []) (sym is)) ∙ pair_texts-push (take i pairs) pair in
    let whole : pair_texts pairs ≡ pair_texts (take (i + 1) pairs) ++ pair_texts (drop (i + 1) pairs) =
    ap pair_texts (sym (take-append-drop (i + 1) pairs)) ∙ flat_map-append pair_text (take (i + 1) pairs) (drop (i + 1) pairs) in
    record {
      spelled = front;
      size = omega (arith, ap length front, length-append (pair_texts (take i pairs)) (pair_text pair), length-pair_text pair);
      within = omega (arith, ap length whole, length-append (pair_texts (take (i + 1) pairs)) (pair_texts (drop (i + 1) pairs)));
    }

-- where one list of pairs and some bytes spell what another list spells, the second goes on from the first
pub pairs_split : (before : List Pair) (rest : List ℕ) (pairs : List Pair) → All IsTextPair before → All IsTextPair pairs → pair_texts before ++ rest ≡ pair_texts pairs → (after : List Pair) × (pairs ≡ before ++ after) × (rest ≡ pair_texts after)
pairs_split [] rest pairs before_texts texts same = (pairs, refl, same)
pairs_split (p ∷ before) rest [] before_texts texts same =
    absurd (omega (arith, ap length same, ap length (pair_parts p (pair_texts before) rest), length-append (string p.0) (string p.1 ++ (pair_texts before ++ rest)), length-string p.0))
pairs_split (p ∷ before) rest (q ∷ pairs) before_texts texts same =
    let p_texts : IsTextPair p = All-head IsTextPair p before before_texts in
    let q_texts : IsTextPair q = All-head IsTextPair q pairs texts in
    let spelled : string p.0 ++ (string p.1 ++ (pair_texts before ++ rest)) ≡ string q.0 ++ (string q.1 ++ pair_texts pairs) =
    sym (pair_parts p (pair_texts before) rest) ∙ same ∙ append_assoc (string q.0) (string q.1) (pair_texts pairs) in
    let keys = texts_apart p.0 q.0 (string p.1 ++ (pair_texts before ++ rest)) (string q.1 ++ pair_texts pairs) p_texts.key.fits q_texts.key.fits spelled in
    let values = texts_apart p.1 q.1 (pair_texts before ++ rest) (pair_texts pairs) p_texts.value.fits q_texts.value.fits keys.1 in
    let more = pairs_split before rest pairs (All-tail IsTextPair p before before_texts) (All-tail IsTextPair q pairs texts) values.1 in
    let first : q ≡ p = sym (ap (λ (k : List ℕ). (k, p.1)) keys.0 ∙ ap (λ (v : List ℕ). (q.0, v)) values.0) in
    (more.0, ap (λ (x : Pair). x ∷ pairs) first ∙ ap (λ (l : List Pair). p ∷ l) more.1, more.2)

-- two lists of pairs that spell the same are equal
pub pairs_same : (pairs others : List Pair) → All IsTextPair pairs → All IsTextPair others → pair_texts pairs ≡ pair_texts others → pairs ≡ others
pairs_same pairs others texts other_texts same =
    let more = pairs_split pairs [] others texts other_texts (append-nil (pair_texts pairs) ∙ same) in
    nothing_left more.0 more.1 more.2
  where
    nothing_left : (after : List Pair) → others ≡ pairs ++ after → [] ≡ pair_texts after → pairs ≡ others
    nothing_left [] is none = sym (append-nil pairs) ∙ sym is
    nothing_left (p ∷ after) is none =
        absurd (omega (arith, ap length none, length-append (pair_text p) (pair_texts after), length-pair_text p))

-- no map begins another
pub maps_apart : (pairs others : List Pair) (rest behind : List ℕ) → length (pair_texts pairs) < 2 ^ 32 → length (pair_texts others) < 2 ^ 32 → IsTextMap pairs → IsTextMap others → text_map pairs ++ rest ≡ text_map others ++ behind → (pairs ≡ others) × (rest ≡ behind)
maps_apart pairs others rest behind fits other_fits is_map other_is_map same =
    let decided = texts_apart (pair_texts pairs) (pair_texts others) rest behind fits other_fits same in
    (pairs_same pairs others is_map.texts other_is_map.texts decided.0, decided.1)

-- ---- maps that were read

-- a map whose bytes are some pairs stands there
pub pairs_read : (content : List ℕ) (at len from : ℕ) (bytes : List ℕ) (pairs : List Pair) → NumberAt 4 content at len from → from + len ≤ length content → bytes ≡ take len (drop from content) → bytes ≡ pair_texts pairs → IsTextMap pairs → PairsAt content at pairs (from + len)
pairs_read content at len from bytes pairs prefix whole is spelled is_map =
    let there : pair_texts pairs ≡ take len (drop from content) = sym spelled ∙ is in
    let size : length (pair_texts pairs) ≡ len = ap length there ∙ length-take-le len (drop from content) (omega (arith, length-drop from content)) in
    let rest : drop from content ≡ pair_texts pairs ++ drop (from + len) content = cut_off content from len ∙ ap (λ (front : List ℕ). front ++ drop (from + len) content) (sym there) in
    record {
      field = record {
        spelled_there = prefix.field.spelled_there
            ∙ ap (λ (l : List ℕ). le 4 len ++ l) rest
            ∙ sym (append_assoc (le 4 len) (pair_texts pairs) (drop (from + len) content))
            ∙ ap (λ (n : ℕ). (le 4 n ++ pair_texts pairs) ++ drop (from + len) content) (sym size);
        begins = omega (arith, prefix.size);
        ends = whole;
      };
      size = omega (arith, prefix.size, size);
      fits = omega (arith, prefix.fits, size);
      is_map = is_map;
    }
