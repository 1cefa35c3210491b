-- Rows: an entry more, a row more, and how large their Message Indexes are.
use Rattle.std.proofs.Common.{◌≡◌, ◌⊎◌, ℕ, zero, suc, ◌+◌, ◌-◌, ◌/◌, ◌<◌, ◌≤◌, Bool, true, false, cond, eqb, List, [], ◌∷◌, ◌++◌, length, map, get_or, set, take, drop, refl, sym, ap, subst, inl, inr, ◌∙◌, append_assoc, arith}
use Rattle.std.specs.Prelude.{Err, filter, All, if◌then◌else◌}
use Rattle.std.specs.List.{insert}
use Rattle.std.proofs.lemmas.Bool.{cases_eq, cases_order, lt-ltb, le-ltb, eq-eqb, ne_eqb}
use Rattle.std.proofs.lemmas.List.{map-append, length-append, length-set, get_or-set_same, get_or-set_other, get_or_read, take_more, take-append-drop}
use Rattle.std.proofs.lemmas.Grind.{flat_map-append}
use Rattle.std.proofs.lemmas.List.Elements.{filter-append, All-filter, All-map, All-head}
use Rattle.std.proofs.lemmas.List.Edits.{length-insert, get_or-insert_below, get_or-insert_at, get_or-insert_above}
use Rattle.mcap_wire.specs.Layout.{le}
use Rattle.mcap_wire.proofs.Numbers.{length-le}
use Rattle.mcap_wire.proofs.Framing.{length-framed}
use Rattle.mcap_model.specs.declared.block.IndexPart.{IndexPart}
use Rattle.mcap_model.specs.Summary.{has_some}
use Rattle.chunk_build.specs.declared.row.Row.{Row}
use Rattle.chunk_build.specs.Rows.{row_pair, has_entries, rows_in, RowsRise, FoundRow, with_entry, row_bytes, rows_bytes, rows_size, rows_parts}

-- ---- rows with entries and without

pub is_some : (es : List ℕ) → (has_some es ≡ true) ⊎ ((has_some es ≡ false) × (es ≡ []))
is_some [] = inr (refl, refl)
is_some (e ∷ es) = inl refl

pub some_row : (x : Row) (xs : List Row) → has_some x.entries.items ≡ true → rows_in (x ∷ xs) ≡ row_pair x ∷ rows_in xs
some_row x xs some = ap (λ (b : Bool). cond b (row_pair x ∷ rows_in xs) (rows_in xs)) some

pub no_row : (x : Row) (xs : List Row) → has_some x.entries.items ≡ false → rows_in (x ∷ xs) ≡ rows_in xs
no_row x xs none = ap (λ (b : Bool). cond b (row_pair x ∷ rows_in xs) (rows_in xs)) none

pub rows_in-append : (xs ys : List Row) → rows_in (xs ++ ys) ≡ rows_in xs ++ rows_in ys
rows_in-append xs ys = ap (filter has_entries) (map-append row_pair xs ys) ∙ filter-append has_entries (map row_pair xs) (map row_pair ys)

-- ---- in order

pub rise_tail : (x : Row) (xs : List Row) → RowsRise (x ∷ xs) → RowsRise xs
rise_tail x xs rises i j d less within = rises (suc i) (suc j) d (omega arith) (omega arith)

pub rise_all : (x : Row) (xs : List Row) → RowsRise (x ∷ xs) → All (λ (l : Row). x.channel < l.channel) xs
rise_all x xs rises k d within = rises zero (suc k) d (omega arith) (omega arith)

pub above_all : (n : ℕ) (xs : List Row) → All (λ (l : Row). n < l.channel) xs → All (λ (p : ℕ × List ℕ). n < p.0) (rows_in xs)
above_all n xs all = All-filter has_entries (λ (p : ℕ × List ℕ). n < p.0) (map row_pair xs) (All-map (λ (p : ℕ × List ℕ). n < p.0) row_pair xs all)

-- ---- an entry more

pub with_first : (ls : List (ℕ × List ℕ)) (id : ℕ) (e : List ℕ) → All (λ (p : ℕ × List ℕ). id < p.0) ls → with_entry ls id e ≡ (id, e) ∷ ls
with_first [] id e all = refl
with_first (l ∷ ls) id e all =
    let less = All-head (λ (p : ℕ × List ℕ). id < p.0) l ls all in
    let step = λ (b : Bool). if b then (id, e) ∷ l ∷ ls else if eqb id l.0 then (l.0, l.1 ++ e) ∷ ls else l ∷ with_entry ls id e in
    ap step (lt-ltb id l.0 less)

pub with_same : (l : ℕ × List ℕ) (ls : List (ℕ × List ℕ)) (e : List ℕ) → with_entry (l ∷ ls) l.0 e ≡ (l.0, l.1 ++ e) ∷ ls
with_same l ls e =
    let outer = λ (b : Bool). if b then (l.0, e) ∷ l ∷ ls else if eqb l.0 l.0 then (l.0, l.1 ++ e) ∷ ls else l ∷ with_entry ls l.0 e in
    let inner = λ (b : Bool). if b then (l.0, l.1 ++ e) ∷ ls else l ∷ with_entry ls l.0 e in
    ap outer (le-ltb l.0 l.0 (omega arith)) ∙ ap inner (eq-eqb l.0 l.0 refl)

pub with_later : (l : ℕ × List ℕ) (ls : List (ℕ × List ℕ)) (id : ℕ) (e : List ℕ) → l.0 < id → with_entry (l ∷ ls) id e ≡ l ∷ with_entry ls id e
with_later l ls id e less =
    let outer = λ (b : Bool). if b then (id, e) ∷ l ∷ ls else if eqb id l.0 then (l.0, l.1 ++ e) ∷ ls else l ∷ with_entry ls id e in
    let inner = λ (b : Bool). if b then (l.0, l.1 ++ e) ∷ ls else l ∷ with_entry ls id e in
    ap outer (le-ltb id l.0 (omega arith)) ∙ ap inner (ne_eqb id l.0 (λ same. omega (arith, same)))

some_more : (es e : List ℕ) → has_some e ≡ true → has_some (es ++ e) ≡ true
some_more [] e some = some
some_more (x ∷ es) e some = refl

pub entry_set : (xs : List Row) (i id : ℕ) (v : Row) (e : List ℕ) → RowsRise xs → i < length xs → ((d : Row) → (get_or xs i d).channel ≡ id) → v.channel ≡ id
    → ((d : Row) → v.entries.items ≡ (get_or xs i d).entries.items ++ e) → has_some e ≡ true → rows_in (set xs i v) ≡ with_entry (rows_in xs) id e
entry_set [] i id v e rises within there same more some = absurd (omega arith)
entry_set (x ∷ xs) zero id v e rises within there same more some =
    let now : rows_in (v ∷ xs) ≡ row_pair v ∷ rows_in xs = some_row v xs (ap has_some (more v) ∙ some_more x.entries.items e some) in
    let pair : row_pair v ≡ (id, x.entries.items ++ e) = ap (λ (n : ℕ). (n, v.entries.items)) same ∙ ap (λ (es : List ℕ). (id, es)) (more v) in
    let own : x.channel ≡ id = there v in
    now ∙ ap (λ (p : ℕ × List ℕ). p ∷ rows_in xs) pair ∙ sym (elim (is_some x.entries.items) [
      | inl is ↦
          ap (λ (ls : List (ℕ × List ℕ)). with_entry ls id e) (some_row x xs is)
          ∙ subst (λ (n : ℕ). with_entry (row_pair x ∷ rows_in xs) n e ≡ (n, x.entries.items ++ e) ∷ rows_in xs) own (with_same (row_pair x) (rows_in xs) e)
      | inr none ↦
          let above = subst (λ (n : ℕ). All (λ (p : ℕ × List ℕ). n < p.0) (rows_in xs)) own (above_all x.channel xs (rise_all x xs rises)) in
          ap (λ (ls : List (ℕ × List ℕ)). with_entry ls id e) (no_row x xs none.0)
          ∙ with_first (rows_in xs) id e above
          ∙ ap (λ (es : List ℕ). (id, es ++ e) ∷ rows_in xs) (sym none.1)
    ])
entry_set (x ∷ xs) (suc i) id v e rises within there same more some =
    let rest = entry_set xs i id v e (rise_tail x xs rises) (omega arith) there same more some in
    let less : x.channel < id = subst (λ (n : ℕ). x.channel < n) (there v) (rise_all x xs rises i v (omega arith)) in
    elim (is_some x.entries.items) [
      | inl is ↦
          some_row x (set xs i v) is
          ∙ ap (λ (ls : List (ℕ × List ℕ)). row_pair x ∷ ls) rest
          ∙ sym (with_later (row_pair x) (rows_in xs) id e less)
          ∙ sym (ap (λ (ls : List (ℕ × List ℕ)). with_entry ls id e) (some_row x xs is))
      | inr none ↦ no_row x (set xs i v) none.0 ∙ rest ∙ sym (ap (λ (ls : List (ℕ × List ℕ)). with_entry ls id e) (no_row x xs none.0))
    ]

-- ---- a row more, without an entry

pub row_insert : (xs : List Row) (i : ℕ) (v : Row) → v.entries.items ≡ [] → rows_in (insert xs i v) ≡ rows_in xs
row_insert xs i v none =
    let skipped : rows_in (v ∷ drop i xs) ≡ rows_in (drop i xs) = no_row v (drop i xs) (ap has_some none) in
    rows_in-append (take i xs) (v ∷ drop i xs)
    ∙ ap (λ (ls : List (ℕ × List ℕ)). rows_in (take i xs) ++ ls) skipped
    ∙ sym (rows_in-append (take i xs) (drop i xs))
    ∙ ap rows_in (take-append-drop i xs)

-- the same entries
pub row_set : (xs : List Row) (i : ℕ) (v : Row) → ((d : Row) → row_pair v ≡ row_pair (get_or xs i d)) → rows_in (set xs i v) ≡ rows_in xs
row_set [] i v same = refl
row_set (x ∷ xs) zero v same = ap (λ (p : ℕ × List ℕ). filter has_entries (p ∷ map row_pair xs)) (same v)
row_set (x ∷ xs) (suc i) v same =
    let rest = row_set xs i v same in
    ap (λ (ls : List (ℕ × List ℕ)). cond (has_entries (row_pair x)) (row_pair x ∷ ls) ls) rest

-- ---- how large their Message Indexes are

pub length-row_bytes : (l : ℕ × List ℕ) → length (row_bytes l) ≡ 15 + length l.1
length-row_bytes l =
    let content = le 2 l.0 ++ (le 4 (length l.1) ++ l.1) in
    omega (arith, length-framed 7 content, length-append (le 2 l.0) (le 4 (length l.1) ++ l.1), length-append (le 4 (length l.1)) l.1, length-le 2 l.0, length-le 4 (length l.1))

pub length-rows_bytes : (ls : List (ℕ × List ℕ)) → length (rows_bytes ls) ≡ rows_size ls
length-rows_bytes [] = refl
length-rows_bytes (l ∷ ls) = omega (arith, length-append (row_bytes l) (rows_bytes ls), length-row_bytes l, length-rows_bytes ls)

pub rows_size-append : (xs ys : List (ℕ × List ℕ)) → rows_size (xs ++ ys) ≡ rows_size xs + rows_size ys
rows_size-append [] ys = omega arith
rows_size-append (x ∷ xs) ys = omega (arith, rows_size-append xs ys)

-- a row is no larger than all
pub row_within : (xs : List Row) (i : ℕ) (d : Row) → i < length xs → length (get_or xs i d).entries.items ≤ rows_size (rows_in xs)
row_within [] i d within = absurd (omega arith)
row_within (x ∷ xs) zero d within = elim (is_some x.entries.items) [
  | inl is ↦ let size = ap rows_size (some_row x xs is) in omega (arith, size)
  | inr none ↦ let size = ap (λ (l : List ℕ). length l) none.1 in omega (arith, size)
]
row_within (x ∷ xs) (suc i) d within =
    let rest = row_within xs i d (omega arith) in
    elim (is_some x.entries.items) [
      | inl is ↦ let size = ap rows_size (some_row x xs is) in omega (arith, size, rest)
      | inr none ↦ let size = ap rows_size (no_row x xs none.0) in omega (arith, size, rest)
    ]

-- an entry more takes as many bytes as it has, and 15 where it is the first of its row
pub size_set : (xs : List Row) (i : ℕ) (v : Row) (e : List ℕ) (d : Row) → i < length xs → v.entries.items ≡ (get_or xs i d).entries.items ++ e → has_some e ≡ true
    → rows_size (rows_in (set xs i v)) ≡ rows_size (rows_in xs) + (length e + cond (has_some (get_or xs i d).entries.items) 0 15)
size_set [] i v e d within more some = absurd (omega arith)
size_set (x ∷ xs) zero v e d within more some =
    let now = ap rows_size (some_row v xs (ap has_some more ∙ some_more x.entries.items e some)) in
    let size = ap (λ (l : List ℕ). length l) more in
    elim (is_some x.entries.items) [
      | inl is ↦
          let was = ap rows_size (some_row x xs is) in
          let extra = ap {B = ℕ} (λ (b : Bool). cond b 0 15) is in
          omega (arith, now, size, was, extra, length-append x.entries.items e)
      | inr none ↦
          let was = ap rows_size (no_row x xs none.0) in
          let extra = ap {B = ℕ} (λ (b : Bool). cond b 0 15) none.0 in
          let zero_long = ap (λ (l : List ℕ). length l) none.1 in
          omega (arith, now, size, was, extra, zero_long, length-append x.entries.items e)
    ]
size_set (x ∷ xs) (suc i) v e d within more some =
    let rest = size_set xs i v e d (omega arith) more some in
    elim (is_some x.entries.items) [
      | inl is ↦
          let now = ap rows_size (some_row x (set xs i v) is) in
          let was = ap rows_size (some_row x xs is) in
          omega (arith, now, was, rest)
      | inr none ↦
          let now = ap rows_size (no_row x (set xs i v) none.0) in
          let was = ap rows_size (no_row x xs none.0) in
          omega (arith, now, was, rest)
    ]

-- ---- order is kept

pub channel_set : (xs : List Row) (i : ℕ) (v : Row) (k : ℕ) (d : Row) → ((d : Row) → i < length xs → v.channel ≡ (get_or xs i d).channel) → k < length xs
    → (get_or (set xs i v) k d).channel ≡ (get_or xs k d).channel
channel_set xs i v k d same within = elim (cases_eq k i) [
  | inl here ↦
      let in_it : i < length xs = subst (λ (n : ℕ). n < length xs) here within in
      ap (λ (n : ℕ). (get_or (set xs i v) n d).channel) here
      ∙ ap (λ (l : Row). l.channel) (get_or-set_same xs i v d in_it)
      ∙ same d in_it
      ∙ ap (λ (n : ℕ). (get_or xs n d).channel) (sym here)
  | inr other ↦ ap (λ (l : Row). l.channel) (get_or-set_other xs i k v d other)
]

-- the channel at a place of a list with a row more
below_at : (xs : List Row) (i : ℕ) (v : Row) (k : ℕ) (d : Row) → k < i → i ≤ length xs → (get_or (insert xs i v) k d).channel ≡ (get_or xs k d).channel
below_at xs i v k d less within = ap (λ (l : Row). l.channel) (get_or-insert_below xs i v d k less within)

here_at : (xs : List Row) (i : ℕ) (v : Row) (k : ℕ) (d : Row) → k ≡ i → i ≤ length xs → (get_or (insert xs i v) k d).channel ≡ v.channel
here_at xs i v k d here within =
    ap (λ (n : ℕ). (get_or (insert xs i v) n d).channel) here ∙ ap (λ (l : Row). l.channel) (get_or-insert_at xs i v d within)

above_at : (xs : List Row) (i : ℕ) (v : Row) (k : ℕ) (d : Row) → i < k → i ≤ length xs → (get_or (insert xs i v) k d).channel ≡ (get_or xs (k - 1) d).channel
above_at xs i v k d less within =
    let one : k ≡ k - 1 + 1 = omega arith in
    ap (λ (n : ℕ). (get_or (insert xs i v) n d).channel) one
    ∙ ap (λ (l : Row). l.channel) (get_or-insert_above xs i v d (k - 1) (omega arith) within)

pub rise_insert : (xs : List Row) (i : ℕ) (v : Row) → RowsRise xs → FoundRow xs v.channel (Err i) → RowsRise (insert xs i v)
rise_insert xs i v rises found a b d less within =
    let most = found.0 in
    let size = length-insert xs i v most in
    elim (cases_order b i) [
      | inl b_here ↦ omega (arith, below_at xs i v a d (omega (arith, b_here)) most, here_at xs i v b d b_here most, found.1 a d (omega (arith, b_here)))
      | inr (inl b_below) ↦ omega (arith, below_at xs i v a d (omega (arith, b_below)) most, below_at xs i v b d b_below most, rises a b d less (omega (arith, b_below, most)))
      | inr (inr b_above) ↦
          let later = above_at xs i v b d b_above most in
          elim (cases_order a i) [
            | inl a_here ↦ omega (arith, later, here_at xs i v a d a_here most, found.2 (b - 1) d (omega (arith, b_above)) (omega (arith, size, within, b_above)))
            | inr (inl a_below) ↦ omega (arith, later, below_at xs i v a d a_below most, rises a (b - 1) d (omega (arith, a_below, b_above)) (omega (arith, size, within, b_above)))
            | inr (inr a_above) ↦ omega (arith, later, above_at xs i v a d a_above most, rises (a - 1) (b - 1) d (omega (arith, a_above, less)) (omega (arith, size, within, b_above)))
          ]
    ]

-- ---- for the calls

pub long_some : (es : List ℕ) → 0 < length es → has_some es ≡ true
long_some [] long = absurd (omega arith)
long_some (e ∷ es) long = refl

entry_is_some : (time offset : ℕ) → has_some (le 8 time ++ le 8 offset) ≡ true
entry_is_some time offset = long_some (le 8 time ++ le 8 offset) (omega (arith, length-append (le 8 time) (le 8 offset), length-le 8 time, length-le 8 offset))

behind_both : (now middle was first second : List ℕ) → now ≡ middle ++ second → middle ≡ was ++ first → now ≡ was ++ (first ++ second)
behind_both now middle was first second one other = one ∙ ap (λ (l : List ℕ). l ++ second) other ∙ append_assoc was first second

pub entry_put : (xs : List Row) (i id time offset : ℕ) (v old : Row) (middle : List ℕ) → RowsRise xs → i < length xs → old ≡ get_or xs i old → ((d : Row) → (get_or xs i d).channel ≡ id)
    → v.channel ≡ old.channel → v.entries.items ≡ middle ++ le 8 offset → middle ≡ old.entries.items ++ le 8 time
    → rows_in (set xs i v) ≡ with_entry (rows_in xs) id (le 8 time ++ le 8 offset)
entry_put xs i id time offset v old middle rises within is there same second first =
    let read = λ (d : Row). get_or_read xs i old within is d in
    entry_set xs i id v (le 8 time ++ le 8 offset) rises within there
    (same ∙ ap (λ (l : Row). l.channel) (read old) ∙ there old)
    (λ d. behind_both v.entries.items middle old.entries.items (le 8 time) (le 8 offset) second first
    ∙ ap (λ (l : Row). l.entries.items ++ (le 8 time ++ le 8 offset)) (read d))
    (entry_is_some time offset)

abbrev pub first_of : Bool → ℕ
first_of b = if b then 15 else 0

abbrev head_of : Bool → ℕ
head_of b = cond b 0 15

first_growth : (es : List ℕ) (n : ℕ) → n ≡ length es → first_of (eqb n 0) ≡ head_of (has_some es)
first_growth [] n is = ap (λ (m : ℕ). first_of (eqb m 0)) is
first_growth (e ∷ es) n is = ap first_of (ne_eqb n 0 (λ none. omega (arith, is, none)))

pub size_put : (xs : List Row) (i time offset more n : ℕ) (v old : Row) (middle : List ℕ) → i < length xs → old ≡ get_or xs i old
    → v.entries.items ≡ middle ++ le 8 offset → middle ≡ old.entries.items ++ le 8 time → n ≡ length old.entries.items → more ≡ 16 + first_of (eqb n 0)
    → rows_size (rows_in (set xs i v)) ≡ rows_size (rows_in xs) + more
size_put xs i time offset more n v old middle within is second first len grows =
    let e = le 8 time ++ le 8 offset in
    let now = behind_both v.entries.items middle old.entries.items (le 8 time) (le 8 offset) second first
    ∙ ap (λ (l : Row). l.entries.items ++ (le 8 time ++ le 8 offset)) is in
    let size = size_set xs i v e old within now (entry_is_some time offset) in
    let same : head_of (has_some old.entries.items) ≡ head_of (has_some (get_or xs i old).entries.items) = ap (λ (l : Row). head_of (has_some l.entries.items)) is in
    let grown = first_growth old.entries.items n len in
    let long : length e ≡ 16 = omega (arith, length-append (le 8 time) (le 8 offset), length-le 8 time, length-le 8 offset) in
    omega (arith, size, same, grown, grows, long)

-- a front of the rows, and one more

take_row : (xs : List Row) (i : ℕ) (d : Row) → i < length xs → rows_in (take (i + 1) xs) ≡ rows_in (take i xs) ++ rows_in (get_or xs i d ∷ [])
take_row xs i d within = ap rows_in (take_more xs i d within) ∙ rows_in-append (take i xs) (get_or xs i d ∷ [])

one_row : (xs : List Row) (i : ℕ) (x : Row) → x ≡ get_or xs i x → rows_in (get_or xs i x ∷ []) ≡ rows_in (x ∷ [])
one_row xs i x is = ap (λ (l : Row). rows_in (l ∷ [])) (sym is)

pub bytes_more : (xs : List Row) (i : ℕ) (x : Row) (now was first : List ℕ) → i < length xs → x ≡ get_or xs i x → was ≡ first ++ rows_bytes (rows_in (take i xs))
    → now ≡ was ++ rows_bytes (rows_in (x ∷ [])) → now ≡ first ++ rows_bytes (rows_in (take (i + 1) xs))
bytes_more xs i x now was first within is before step =
    step ∙ ap (λ (l : List ℕ). l ++ rows_bytes (rows_in (x ∷ []))) before
    ∙ append_assoc first (rows_bytes (rows_in (take i xs))) (rows_bytes (rows_in (x ∷ [])))
    ∙ ap (λ (l : List ℕ). first ++ l) (sym (
    ap rows_bytes (take_row xs i x within ∙ ap (λ (l : List (ℕ × List ℕ)). rows_in (take i xs) ++ l) (one_row xs i x is))
    ∙ flat_map-append row_bytes (rows_in (take i xs)) (rows_in (x ∷ []))))

pub rows_parts-append : (at : ℕ) (ls ms : List (ℕ × List ℕ)) → rows_parts at (ls ++ ms) ≡ rows_parts at ls ++ rows_parts (at + rows_size ls) ms
rows_parts-append at [] ms = let e : at ≡ at + 0 = omega arith in ap (λ (n : ℕ). rows_parts n ms) e
rows_parts-append at (l ∷ ls) ms =
    let far : at + (15 + length l.1) + rows_size ls ≡ at + (15 + length l.1 + rows_size ls) = omega arith in
    ap (λ (ps : List IndexPart). record { channel = l.0; offset = at; count = length l.1 / 16 } ∷ ps)
    (rows_parts-append (at + (15 + length l.1)) ls ms ∙ ap (λ (n : ℕ). rows_parts (at + (15 + length l.1)) ls ++ rows_parts n ms) far)

pub parts_more : (xs : List Row) (i at here : ℕ) (x : Row) (now was first : List IndexPart) → i < length xs → x ≡ get_or xs i x → was ≡ first ++ rows_parts at (rows_in (take i xs))
    → here ≡ at + rows_size (rows_in (take i xs)) → now ≡ was ++ rows_parts here (rows_in (x ∷ [])) → now ≡ first ++ rows_parts at (rows_in (take (i + 1) xs))
parts_more xs i at here x now was first within is before place step =
    step ∙ ap (λ (l : List IndexPart). l ++ rows_parts here (rows_in (x ∷ []))) before
    ∙ append_assoc first (rows_parts at (rows_in (take i xs))) (rows_parts here (rows_in (x ∷ [])))
    ∙ ap (λ (l : List IndexPart). first ++ l) (sym (
    ap (rows_parts at) (take_row xs i x within ∙ ap (λ (l : List (ℕ × List ℕ)). rows_in (take i xs) ++ l) (one_row xs i x is))
    ∙ rows_parts-append at (rows_in (take i xs)) (rows_in (x ∷ []))
    ∙ ap (λ (n : ℕ). rows_parts at (rows_in (take i xs)) ++ rows_parts n (rows_in (x ∷ []))) (sym place)))

pub size_more : (xs : List Row) (i : ℕ) (x : Row) → i < length xs → x ≡ get_or xs i x
    → rows_size (rows_in (take i xs)) + rows_size (rows_in (x ∷ [])) ≤ rows_size (rows_in xs)
size_more xs i x within is =
    let front : rows_in (take (i + 1) xs) ≡ rows_in (take i xs) ++ rows_in (x ∷ []) = take_row xs i x within ∙ ap (λ (l : List (ℕ × List ℕ)). rows_in (take i xs) ++ l) (one_row xs i x is) in
    let all : rows_in xs ≡ rows_in (take (i + 1) xs) ++ rows_in (drop (i + 1) xs) = ap rows_in (sym (take-append-drop (i + 1) xs)) ∙ rows_in-append (take (i + 1) xs) (drop (i + 1) xs) in
    let one = ap rows_size front ∙ rows_size-append (rows_in (take i xs)) (rows_in (x ∷ [])) in
    let two = ap rows_size all ∙ rows_size-append (rows_in (take (i + 1) xs)) (rows_in (drop (i + 1) xs)) in
    omega (arith, one, two)

-- rows that were cleared

pub all_empty : (xs : List Row) → ((k : ℕ) (d : Row) → k < length xs → (get_or xs k d).entries.items ≡ []) → rows_in xs ≡ []
all_empty [] empty = refl
all_empty (x ∷ xs) empty = no_row x xs (ap has_some (empty 0 x (omega arith))) ∙ all_empty xs (λ k d within. empty (suc k) d (omega arith))

pub rise_same : (xs ys : List Row) → length xs ≡ length ys → ((k : ℕ) (d : Row) → k < length xs → (get_or xs k d).channel ≡ (get_or ys k d).channel) → RowsRise ys → RowsRise xs
rise_same xs ys size same rises i j d less within =
    omega (arith, same i d (omega (arith, less, within)), same j d within, rises i j d less (omega (arith, size, within)))

-- a row is put in another's place, and keeps its channel
pub rise_set : (xs : List Row) (i : ℕ) (v old : Row) → i < length xs → old ≡ get_or xs i old → v.channel ≡ old.channel → RowsRise xs → RowsRise (set xs i v)
rise_set xs i v old within is same rises =
    rise_same (set xs i v) xs (length-set xs i v) (λ k d less. channel_set xs i v k d (λ e in_it. same ∙ ap (λ (l : Row). l.channel) (get_or_read xs i old within is e)) (omega (arith, less, length-set xs i v))) rises

-- room in a row

abbrev pair : ℕ → List ℕ → ℕ × List ℕ
pair n l = (n, l)

pub same_pair : (xs : List Row) (i : ℕ) (v old : Row) → i < length xs → old ≡ get_or xs i old → v.channel ≡ old.channel → v.entries.items ≡ old.entries.items → (d : Row) → row_pair v ≡ row_pair (get_or xs i d)
same_pair xs i v old within is same items d =
    ap (λ (n : ℕ). pair n v.entries.items) same ∙ ap (λ (l : List ℕ). pair old.channel l) items ∙ ap row_pair (get_or_read xs i old within is d)
