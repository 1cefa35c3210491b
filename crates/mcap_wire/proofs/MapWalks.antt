-- Items that stand one behind the other spell one list, and their reading stops in one way, and only where they spell none.
use Rattle.std.proofs.Common.{◌≡◌, ◌⊎◌, ℕ, ◌+◌, ◌^◌, ◌<◌, ◌≤◌, List, [], ◌∷◌, ◌++◌, length, drop, refl, sym, ap, subst, inl, inr, ◌∙◌, append_assoc, arith}
use Rattle.std.specs.Prelude.{All}
use Rattle.std.specs.List.{flat_map}
use Rattle.std.proofs.lemmas.List.{append-nil, length-append, length-drop, get_or_at}
use Rattle.std.proofs.lemmas.List.Elements.{All-head, All-tail}
use Rattle.mcap_wire.specs.declared.faults.Why.{Why}
use Rattle.mcap_wire.specs.declared.faults.Why.TheVariants.{Short, BadText, BadLength, DoubleKey}
use Rattle.mcap_wire.specs.Layout.{le, string, text_length, text_bytes}
use Rattle.mcap_wire.specs.Reading.{TextIsShort, TextIsBad}
use Rattle.mcap_wire.specs.Maps.{KeysDiffer}
use Rattle.mcap_wire.specs.MapReading.{Plain, a_uint, a_string, PlainValue, plain_text, PlainFits, PlainAt, PlainFails, HasKey, LacksKey, PlainItem, item_text, ItemFits, KeyOrValueFails, KeyIsDouble, ItemFails, MapStops, MapIsWhole, MapFails}
use Rattle.mcap_wire.proofs.Numbers.{length-le}
use Rattle.mcap_wire.proofs.Framing.{texts_apart, split_number, text_not_refused, ends_within, number_is_short, length-string, length_found, bytes_found, stands_within}
use Rattle.mcap_wire.proofs.TextMaps.{key_stands_before}

-- ---- lists of items

-- no item begins another
abbrev ItemsApart : {X : Type 0} → (X → List ℕ) → (X → Type 0) → Type 0
ItemsApart {X} spell P = (x y : X) (rest behind : List ℕ) → P x → P y → spell x ++ rest ≡ spell y ++ behind → (x ≡ y) × (rest ≡ behind)

-- one list goes on where the other ends
abbrev GoesOn : {X : Type 0} → (X → List ℕ) → List X → List ℕ → List X → List ℕ → Type 0
GoesOn {X} spell one rest other behind = (after : List X) × (other ≡ one ++ after) × (rest ≡ flat_map spell after ++ behind)

next_item : {X : Type 0} (spell : X → List ℕ) (x y : X) (one : List X) (rest : List ℕ) (other : List X) (behind : List ℕ) → x ≡ y → GoesOn spell one rest other behind → GoesOn spell (x ∷ one) rest (y ∷ other) behind
next_item {X = X} spell x y one rest other behind same more =
    (more.0, ap (λ (l : List X). y ∷ l) more.1 ∙ ap (λ (z : X). z ∷ (one ++ more.0)) (sym same), more.2)

lists_meet : {X : Type 0} (spell : X → List ℕ) (P : X → Type 0) → ItemsApart spell P → (one : List X) (rest : List ℕ) (other : List X) (behind : List ℕ) → All P one → All P other → flat_map spell one ++ rest ≡ flat_map spell other ++ behind → GoesOn spell one rest other behind ⊎ GoesOn spell other behind one rest
lists_meet spell P apart [] rest other behind one_fit other_fit same = inl (other, refl, same)
lists_meet spell P apart (x ∷ one) rest [] behind one_fit other_fit same = inr (x ∷ one, refl, sym same)
lists_meet {X = X} spell P apart (x ∷ one) rest (y ∷ other) behind one_fit other_fit same =
    let items = apart x y (flat_map spell one ++ rest) (flat_map spell other ++ behind) (All-head P x one one_fit) (All-head P y other other_fit)
    (sym (append_assoc (spell x) (flat_map spell one) rest) ∙ same ∙ append_assoc (spell y) (flat_map spell other) behind) in
    elim (lists_meet spell P apart one rest other behind (All-tail P x one one_fit) (All-tail P y other other_fit) items.1) [
      | inl more ↦ inl (next_item spell x y one rest other behind items.0 more)
      | inr more ↦ inr (next_item spell y x other behind one rest (sym items.0) more)
    ]

-- the item behind some others of a list
item_at : {X : Type 0} (P : X → Type 0) (before after : List X) (next : X) → All P (before ++ next ∷ after) → P next
item_at P before after next all =
    subst P (get_or_at before next after next (length before) refl) (all (length before) next (omega (arith, length-append before (next ∷ after))))

-- where two readings stop in the same bytes: at one place, or one goes on where the other stops
same_place : (bytes : List ℕ) (at other : ℕ) → at ≤ length bytes → other ≤ length bytes → drop at bytes ≡ drop other bytes → at ≡ other
same_place bytes at other within other_within same =
    omega (arith, ap length same, length-drop at bytes, length-drop other bytes)

-- ---- a key or a value

plain_apart : (plain : Plain) (one other : PlainValue plain) (rest behind : List ℕ) → PlainFits plain one → PlainFits plain other → plain_text plain one ++ rest ≡ plain_text plain other ++ behind → (one ≡ other) × (rest ≡ behind)
plain_apart (a_uint n) one other rest behind fits other_fits same = split_number n one other rest behind fits other_fits same
plain_apart a_string one other rest behind fits other_fits same = texts_apart one other rest behind fits.fits other_fits.fits same

plain_fits : (plain : Plain) (bytes : List ℕ) (at : ℕ) (value : PlainValue plain) (end : ℕ) → PlainAt plain bytes at value end → PlainFits plain value
plain_fits (a_uint n) bytes at value end there = there.fits
plain_fits a_string bytes at text end there = record { fits = there.fits; utf8 = there.utf8 }

plain_spelled : (plain : Plain) (bytes : List ℕ) (at : ℕ) (value : PlainValue plain) (end : ℕ) → PlainAt plain bytes at value end → drop at bytes ≡ plain_text plain value ++ drop end bytes
plain_spelled (a_uint n) bytes at value end there = there.field.spelled_there
plain_spelled a_string bytes at text end there = there.field.spelled_there

plain_begins : (plain : Plain) (bytes : List ℕ) (at : ℕ) (value : PlainValue plain) (end : ℕ) → PlainAt plain bytes at value end → at ≤ length bytes
plain_begins (a_uint n) bytes at value end there = omega (arith, there.field.begins, there.field.ends)
plain_begins a_string bytes at text end there = omega (arith, there.field.begins, there.field.ends)

plain_ends : (plain : Plain) (bytes : List ℕ) (at : ℕ) (value : PlainValue plain) (end : ℕ) → PlainAt plain bytes at value end → end ≤ length bytes
plain_ends (a_uint n) bytes at value end there = there.field.ends
plain_ends a_string bytes at text end there = there.field.ends

-- one stands there at most, and ends at one place
plain_decided : (plain : Plain) (bytes : List ℕ) (at : ℕ) (value : PlainValue plain) (end : ℕ) (other : PlainValue plain) (rest : List ℕ) → PlainAt plain bytes at value end → PlainFits plain other → drop at bytes ≡ plain_text plain other ++ rest → (value ≡ other) × (drop end bytes ≡ rest)
plain_decided plain bytes at value end other rest there fits is =
    plain_apart plain value other (drop end bytes) rest (plain_fits plain bytes at value end there) fits (sym (plain_spelled plain bytes at value end there) ∙ is)

plain_same : (plain : Plain) (bytes : List ℕ) (at : ℕ) (value : PlainValue plain) (end : ℕ) (other : PlainValue plain) (other_end : ℕ) → PlainAt plain bytes at value end → PlainAt plain bytes at other other_end → (value ≡ other) × (end ≡ other_end)
plain_same plain bytes at value end other other_end one two =
    let same = plain_decided plain bytes at value end other (drop other_end bytes) one (plain_fits plain bytes at other other_end two) (plain_spelled plain bytes at other other_end two) in
    (same.0, same_place bytes end other_end (plain_ends plain bytes at value end one) (plain_ends plain bytes at other other_end two) same.1)

-- one that stands there is read
plain_not_refused : (plain : Plain) (bytes : List ℕ) (at : ℕ) (value : PlainValue plain) (rest : List ℕ) (why : Why) → at ≤ length bytes → PlainFits plain value → drop at bytes ≡ plain_text plain value ++ rest → PlainFails plain bytes at why → ⊥
plain_not_refused (a_uint n) bytes at value rest why within fits is fails =
    absurd (omega (arith, ends_within bytes at (le n value) rest within is, length-le n value, number_is_short n bytes at why fails))
plain_not_refused a_string bytes at text rest why within fits is fails = text_not_refused bytes at text rest why fits.fits fits.utf8 is fails

plain_stands : (plain : Plain) (bytes : List ℕ) (at : ℕ) (value : PlainValue plain) (end : ℕ) (why : Why) → PlainAt plain bytes at value end → PlainFails plain bytes at why → ⊥
plain_stands plain bytes at value end why there =
    plain_not_refused plain bytes at value (drop end bytes) why (plain_begins plain bytes at value end there) (plain_fits plain bytes at value end there) (plain_spelled plain bytes at value end there)

-- a text that is cut short isn't whole
pub short_not_bad : (content : List ℕ) (at : ℕ) → TextIsShort content at → TextIsBad content at → ⊥
short_not_bad content at (inl short) bad = absurd (omega (arith, short, bad.0))
short_not_bad content at (inr short) bad = absurd (omega (arith, short.1, bad.0))

plain_short_or_bad : (plain : Plain) (bytes : List ℕ) (at : ℕ) → PlainFails plain bytes at Short → PlainFails plain bytes at BadText → ⊥
plain_short_or_bad (a_uint n) bytes at short bad = bad
plain_short_or_bad a_string bytes at short bad = short_not_bad bytes at short bad

-- ---- the next item

items_apart : (key value : Plain) → ItemsApart (item_text key value) (ItemFits key value)
items_apart key value p q rest behind p_fits q_fits same =
    let keys = plain_apart key p.0 q.0 (plain_text value p.1 ++ rest) (plain_text value q.1 ++ behind) p_fits.0 q_fits.0
    (sym (append_assoc (plain_text key p.0) (plain_text value p.1) rest) ∙ same ∙ append_assoc (plain_text key q.0) (plain_text value q.1) behind) in
    let values = plain_apart value p.1 q.1 rest behind p_fits.1 q_fits.1 keys.1 in
    (ap (λ (k : PlainValue key). (k, p.1)) keys.0 ∙ ap (λ (v : PlainValue value). (q.0, v)) values.0, values.1)

-- an item that stands next is read
item_not_refused : (key value : Plain) (before after : List (PlainItem key value)) (next : PlainItem key value) (behind bytes : List ℕ) (at : ℕ) (why : Why) → ItemFits key value next → KeysDiffer (before ++ next ∷ after) → at ≤ length bytes → drop at bytes ≡ flat_map (item_text key value) (next ∷ after) ++ behind → ItemFails key value before bytes at why → ⊥
item_not_refused key value before after next behind bytes at why fits differ within is fails = by_cause why fails
  where
    more : List ℕ
    more = flat_map (item_text key value) after ++ behind

    parts : drop at bytes ≡ plain_text key next.0 ++ (plain_text value next.1 ++ more)
    parts = is ∙ append_assoc (item_text key value next) (flat_map (item_text key value) after) behind ∙ append_assoc (plain_text key next.0) (plain_text value next.1) more

    part_not_refused : (cause : Why) → KeyOrValueFails key value before bytes at cause → ⊥
    part_not_refused cause (inl fails) = plain_not_refused key bytes at next.0 (plain_text value next.1 ++ more) cause within fits.0 parts fails
    part_not_refused cause (inr fails) =
        let decided = plain_decided key bytes at fails.0 fails.1 next.0 (plain_text value next.1 ++ more) fails.2 fits.0 parts in
        plain_not_refused value bytes fails.1 next.1 more cause (plain_ends key bytes at fails.0 fails.1 fails.2) fits.1 decided.1 fails.4

    by_cause : (cause : Why) → ItemFails key value before bytes at cause → ⊥
    by_cause Short none = none
    by_cause BadText bad = part_not_refused BadText bad
    by_cause BadLength short = part_not_refused Short short
    by_cause DoubleKey double =
        let decided = plain_decided key bytes at double.0 double.1 next.0 (plain_text value next.1 ++ more) double.2 fits.0 parts in
        key_stands_before before after next differ (subst (HasKey before) decided.0 double.3)

has_and_lacks : {K V : Type 0} (items : List (K × V)) (key other : K) → HasKey items key → LacksKey items other → other ≡ key → ⊥
has_and_lacks {K = K} {V = V} items key other has lacks same =
    lacks has.0 has.1 has.2 (ap (λ (p : K × V). p.0) has.3 ∙ has.4 ∙ sym same)

-- a key that is whole excludes a key that fails
short_or_bad : (key value : Plain) (before : List (PlainItem key value)) (bytes : List ℕ) (at : ℕ) → KeyOrValueFails key value before bytes at Short → KeyOrValueFails key value before bytes at BadText → ⊥
short_or_bad key value before bytes at (inl short) (inl bad) = plain_short_or_bad key bytes at short bad
short_or_bad key value before bytes at (inl short) (inr bad) = plain_stands key bytes at bad.0 bad.1 Short bad.2 short
short_or_bad key value before bytes at (inr short) (inl bad) = plain_stands key bytes at short.0 short.1 BadText short.2 bad
short_or_bad key value before bytes at (inr short) (inr bad) =
    let same = plain_same key bytes at short.0 short.1 bad.0 bad.1 short.2 bad.2 in
    plain_short_or_bad value bytes bad.1 (subst (λ (end : ℕ). PlainFails value bytes end Short) same.1 short.4) bad.4

part_or_double : (key value : Plain) (before : List (PlainItem key value)) (bytes : List ℕ) (at : ℕ) (why : Why) → KeyOrValueFails key value before bytes at why → KeyIsDouble key value before bytes at → ⊥
part_or_double key value before bytes at why (inl fails) double = plain_stands key bytes at double.0 double.1 why double.2 fails
part_or_double key value before bytes at why (inr fails) double =
    has_and_lacks before double.0 fails.0 double.3 fails.3 (plain_same key bytes at fails.0 fails.1 double.0 double.1 fails.2 double.2).0

item_why : (key value : Plain) (before : List (PlainItem key value)) (bytes : List ℕ) (at : ℕ) (why other : Why) → ItemFails key value before bytes at why → ItemFails key value before bytes at other → why ≡ other
item_why key value before bytes at Short other one two = absurd one
item_why key value before bytes at BadText Short one two = absurd two
item_why key value before bytes at BadText BadText one two = refl
item_why key value before bytes at BadText BadLength one two = absurd (short_or_bad key value before bytes at two one)
item_why key value before bytes at BadText DoubleKey one two = absurd (part_or_double key value before bytes at BadText one two)
item_why key value before bytes at BadLength Short one two = absurd two
item_why key value before bytes at BadLength BadText one two = absurd (short_or_bad key value before bytes at one two)
item_why key value before bytes at BadLength BadLength one two = refl
item_why key value before bytes at BadLength DoubleKey one two = absurd (part_or_double key value before bytes at Short one two)
item_why key value before bytes at DoubleKey Short one two = absurd two
item_why key value before bytes at DoubleKey BadText one two = absurd (part_or_double key value before bytes at BadText two one)
item_why key value before bytes at DoubleKey BadLength one two = absurd (part_or_double key value before bytes at Short two one)
item_why key value before bytes at DoubleKey DoubleKey one two = refl

-- ---- where the items stop

-- a reading that stops where another goes on by a list
stops_once : (key value : Plain) (bytes : List ℕ) (why other_why : Why) (one : MapStops key value bytes why) (other : MapStops key value bytes other_why) → GoesOn (item_text key value) one.before (drop one.at bytes) other.before (drop other.at bytes) → why ≡ other_why
stops_once key value bytes why other_why one other more = by_next more.0 more.1 more.2
  where
    by_next : (after : List (PlainItem key value)) → other.before ≡ one.before ++ after → drop one.at bytes ≡ flat_map (item_text key value) after ++ drop other.at bytes → why ≡ other_why
    by_next [] joined rest_is =
        let place : other.at ≡ one.at = sym (same_place bytes one.at other.at one.field.ends other.field.ends rest_is) in
        let before : other.before ≡ one.before = joined ∙ append-nil one.before in
        let there : ItemFails key value one.before bytes one.at other_why = subst (λ (at : ℕ). ItemFails key value one.before bytes at other_why) place (subst (λ (l : List (PlainItem key value)). ItemFails key value l bytes other.at other_why) before other.fails) in
        item_why key value one.before bytes one.at why other_why one.fails there
    by_next (next ∷ after) joined rest_is =
        let fits : ItemFits key value next = item_at (ItemFits key value) one.before after next (subst (All (ItemFits key value)) joined other.items_fit) in
        absurd (item_not_refused key value one.before after next (drop other.at bytes) bytes one.at why fits (subst KeysDiffer joined other.keys_differ) one.field.ends rest_is one.fails)

stops_why : (key value : Plain) (bytes : List ℕ) (why other_why : Why) → MapStops key value bytes why → MapStops key value bytes other_why → why ≡ other_why
stops_why key value bytes why other_why one other =
    elim (lists_meet (item_text key value) (ItemFits key value) (items_apart key value) one.before (drop one.at bytes) other.before (drop other.at bytes) one.items_fit other.items_fit (sym one.field.spelled_there ∙ other.field.spelled_there)) [
      | inl more ↦ stops_once key value bytes why other_why one other more
      | inr more ↦ sym (stops_once key value bytes other_why why other one more)
    ]

-- the bytes of a whole map don't stop short
items_go_on : (key value : Plain) (bytes : List ℕ) (items : List (PlainItem key value)) (why : Why) → All (ItemFits key value) items → KeysDiffer items → bytes ≡ flat_map (item_text key value) items → MapStops key value bytes why → ⊥
items_go_on key value bytes items why fit differ is stops =
    elim (lists_meet (item_text key value) (ItemFits key value) (items_apart key value) stops.before (drop stops.at bytes) items [] stops.items_fit fit (sym stops.field.spelled_there ∙ is ∙ sym (append-nil (flat_map (item_text key value) items)))) [
      | inl more ↦ by_next more.0 more.1 more.2
      | inr more ↦ nothing_left (flat_map (item_text key value) more.0) more.2
    ]
  where
    nothing_left : (front : List ℕ) → [] ≡ front ++ drop stops.at bytes → ⊥
    nothing_left front none = absurd (omega (arith, ap length none, length-append front (drop stops.at bytes), length-drop stops.at bytes, stops.begins))

    by_next : (after : List (PlainItem key value)) → items ≡ stops.before ++ after → drop stops.at bytes ≡ flat_map (item_text key value) after ++ [] → ⊥
    by_next [] joined rest_is = absurd (omega (arith, ap length rest_is, length-drop stops.at bytes, stops.begins))
    by_next (next ∷ after) joined rest_is =
        let fits : ItemFits key value next = item_at (ItemFits key value) stops.before after next (subst (All (ItemFits key value)) joined fit) in
        item_not_refused key value stops.before after next [] bytes stops.at why fits (subst KeysDiffer joined differ) stops.field.ends rest_is stops.fails

-- ---- maps

-- a whole map whose items stop can't be read
pub map_fails : (key value : Plain) (content : List ℕ) (at : ℕ) (why : Why) → MapIsWhole content at → MapStops key value (text_bytes content at) why → MapFails key value content at why
map_fails key value content at Short whole stops = absurd stops.fails
map_fails key value content at BadText whole stops = (whole, stops)
map_fails key value content at BadLength whole stops = (whole, stops)
map_fails key value content at DoubleKey whole stops = (whole, stops)

-- a map that stands there is read
pub map_not_refused : (key value : Plain) (content : List ℕ) (at : ℕ) (items : List (PlainItem key value)) (rest : List ℕ) (why : Why) → length (flat_map (item_text key value) items) < 2 ^ 32 → All (ItemFits key value) items → KeysDiffer items → drop at content ≡ string (flat_map (item_text key value) items) ++ rest → MapFails key value content at why → ⊥
map_not_refused key value content at items rest why fits fit differ is fails = by_cause why fails
  where
    texts : List ℕ
    texts = flat_map (item_text key value) items

    size : text_length content at ≡ length texts
    size = length_found content at texts rest fits is

    within : at + 4 + length texts ≤ length content
    within = omega (arith, stands_within content at (string texts) rest is (omega (arith, length-string texts)), length-string texts)

    stops : (cause : Why) → MapStops key value (text_bytes content at) cause → ⊥
    stops cause = items_go_on key value (text_bytes content at) items cause fit differ (bytes_found content at texts rest fits is)

    by_cause : (cause : Why) → MapFails key value content at cause → ⊥
    by_cause Short (inl short) = absurd (omega (arith, within, short))
    by_cause Short (inr short) = absurd (omega (arith, within, size, short.1))
    by_cause BadText bad = stops BadText bad.1
    by_cause BadLength bad = stops BadLength bad.1
    by_cause DoubleKey bad = stops DoubleKey bad.1

-- a whole map isn't cut short
pub whole_not_short : (content : List ℕ) (at : ℕ) → TextIsShort content at → MapIsWhole content at → ⊥
whole_not_short content at (inl short) whole = absurd (omega (arith, short, whole))
whole_not_short content at (inr short) whole = absurd (omega (arith, short.1, whole))

-- and it is refused in one way
pub map_why : (key value : Plain) (content : List ℕ) (at : ℕ) (why other : Why) → MapFails key value content at why → MapFails key value content at other → why ≡ other
map_why key value content at Short Short one two = refl
map_why key value content at Short BadText one two = absurd (whole_not_short content at one two.0)
map_why key value content at Short BadLength one two = absurd (whole_not_short content at one two.0)
map_why key value content at Short DoubleKey one two = absurd (whole_not_short content at one two.0)
map_why key value content at BadText Short one two = absurd (whole_not_short content at two one.0)
map_why key value content at BadText BadText one two = refl
map_why key value content at BadText BadLength one two = stops_why key value (text_bytes content at) BadText BadLength one.1 two.1
map_why key value content at BadText DoubleKey one two = stops_why key value (text_bytes content at) BadText DoubleKey one.1 two.1
map_why key value content at BadLength Short one two = absurd (whole_not_short content at two one.0)
map_why key value content at BadLength BadText one two = stops_why key value (text_bytes content at) BadLength BadText one.1 two.1
map_why key value content at BadLength BadLength one two = refl
map_why key value content at BadLength DoubleKey one two = stops_why key value (text_bytes content at) BadLength DoubleKey one.1 two.1
map_why key value content at DoubleKey Short one two = absurd (whole_not_short content at two one.0)
map_why key value content at DoubleKey BadText one two = stops_why key value (text_bytes content at) DoubleKey BadText one.1 two.1
map_why key value content at DoubleKey BadLength one two = stops_why key value (text_bytes content at) DoubleKey BadLength one.1 two.1
map_why key value content at DoubleKey DoubleKey one two = refl
