-- The channels of rows with entries, and what is left where one is taken.
use Rattle.std.proofs.Common.{◌≡◌, ◌⊎◌, ℕ, zero, suc, ◌+◌, ◌<◌, ◌≤◌, Bool, true, false, List, [], ◌∷◌, ◌++◌, length, get_or, set, refl, sym, ap, subst, inl, inr, ◌∙◌, append_assoc, arith}
use Rattle.std.specs.Prelude.{All, Contains, Err, if◌then◌else◌, ◌==◌, nat_lt}
use Rattle.std.specs.List.Sorted.{IsNonDecreasing, IsPermutation}
use Rattle.std.proofs.lemmas.List.Elements.{All-cons, All-head, All-tail, All-filter, All-map, All-weaker, Contains-append_left}
use Rattle.std.proofs.lemmas.Bool.{cases_order}
use Rattle.std.proofs.lemmas.List.Sorted.{Contains-permutation}
use Rattle.std.proofs.lemmas.Grind.{flat_map-append}
use Rattle.std.proofs.lemmas.List.{length-append, get_or_default, append-nil}
use Rattle.mcap_model.specs.declared.block.IndexPart.{IndexPart}
use Rattle.mcap_model.specs.Summary.{has_some}
use Rattle.chunk_build.specs.declared.row.Row.{Row}
use Rattle.chunk_build.specs.Rows.{row_pair, has_entries, rows_in, RowsRise, FoundRow, TakesRow, with_entry, row_bytes, rows_bytes, rows_size, rows_parts}
use Rattle.chunk_build.proofs.RowLemmas.{is_some, some_row, no_row, rise_tail, rise_all, above_all, rows_parts-append, length-rows_bytes, rows_size-append}

-- ---- what holds of each channel with an entry

abbrev Known : (ℕ → Type 0) → List Row → Type 0
Known P xs = All (λ (p : ℕ × List ℕ). P p.0) (rows_in xs)

known_tail : (P : ℕ → Type 0) (x : Row) (xs : List Row) → Known P (x ∷ xs) → Known P xs
known_tail P x xs all = elim (is_some x.entries.items) [
  | inl is ↦ All-tail (λ (p : ℕ × List ℕ). P p.0) (row_pair x) (rows_in xs) (subst (λ ls. All (λ (p : ℕ × List ℕ). P p.0) ls) (some_row x xs is) all)
  | inr none ↦ subst (λ ls. All (λ (p : ℕ × List ℕ). P p.0) ls) (no_row x xs none.0) all
]

known_head : (P : ℕ → Type 0) (x : Row) (xs : List Row) → has_some x.entries.items ≡ true → Known P (x ∷ xs) → P x.channel
known_head P x xs is all = All-head (λ (p : ℕ × List ℕ). P p.0) (row_pair x) (rows_in xs) (subst (λ ls. All (λ (p : ℕ × List ℕ). P p.0) ls) (some_row x xs is) all)

pub known_at : (P : ℕ → Type 0) (xs : List Row) (i : ℕ) (d : Row) → Known P xs → i < length xs → has_some (get_or xs i d).entries.items ≡ true → P (get_or xs i d).channel
known_at P [] i d all within some = absurd (omega (arith, within))
known_at P (x ∷ xs) zero d all within some = known_head P x xs some all
known_at P (x ∷ xs) (suc i) d all within some = known_at P xs i d (known_tail P x xs all) (omega (arith, within)) some

pub known_with : (P : ℕ → Type 0) (ls : List (ℕ × List ℕ)) (id : ℕ) (e : List ℕ) → P id → All (λ (p : ℕ × List ℕ). P p.0) ls → All (λ (p : ℕ × List ℕ). P p.0) (with_entry ls id e)
known_with P [] id e here all = All-cons (λ (p : ℕ × List ℕ). P p.0) (id, e) [] here all
known_with P (l ∷ ls) id e here all = by (nat_lt id l.0) (id == l.0) (known_with P ls id e here (All-tail (λ (p : ℕ × List ℕ). P p.0) l ls all))
  where
    first : P l.0
    first = All-head (λ (p : ℕ × List ℕ). P p.0) l ls all

    rest : All (λ (p : ℕ × List ℕ). P p.0) ls
    rest = All-tail (λ (p : ℕ × List ℕ). P p.0) l ls all

    by : (b c : Bool) → All (λ (p : ℕ × List ℕ). P p.0) (with_entry ls id e) → All (λ (p : ℕ × List ℕ). P p.0) (if b then (id, e) ∷ l ∷ ls else if c then (l.0, l.1 ++ e) ∷ ls else l ∷ with_entry ls id e)
    by true c more = All-cons (λ (p : ℕ × List ℕ). P p.0) (id, e) (l ∷ ls) here all
    by false true more = All-cons (λ (p : ℕ × List ℕ). P p.0) (l.0, l.1 ++ e) ls first rest
    by false false more = All-cons (λ (p : ℕ × List ℕ). P p.0) l (with_entry ls id e) first more

-- among more channels
pub used_more : (used : List ℕ) (id : ℕ) (ls : List (ℕ × List ℕ)) → All (λ (p : ℕ × List ℕ). Contains used p.0) ls → All (λ (p : ℕ × List ℕ). Contains (used ++ id ∷ []) p.0) ls
used_more used id ls all = All-weaker (λ (p : ℕ × List ℕ). Contains used p.0) (λ (p : ℕ × List ℕ). Contains (used ++ id ∷ []) p.0) (λ p. Contains-append_left used (id ∷ []) p.0) ls all

-- in another order
pub used_sorted : (used sorted : List ℕ) (ls : List (ℕ × List ℕ)) → IsPermutation used sorted → All (λ (p : ℕ × List ℕ). Contains used p.0) ls → All (λ (p : ℕ × List ℕ). Contains sorted p.0) ls
used_sorted used sorted ls moves all = All-weaker (λ (p : ℕ × List ℕ). Contains used p.0) (λ (p : ℕ × List ℕ). Contains sorted p.0) (λ p. Contains-permutation used sorted p.0 moves) ls all

pub still_used : (old new : List ℕ) (xs ys : List Row) → new ≡ old → rows_in ys ≡ rows_in xs → All (λ (p : ℕ × List ℕ). Contains old p.0) (rows_in xs) → All (λ (p : ℕ × List ℕ). Contains new p.0) (rows_in ys)
still_used old new xs ys same rows all =
    subst (λ ls. All (λ (p : ℕ × List ℕ). Contains new p.0) ls) (sym rows) (subst (λ (l : List ℕ). All (λ (p : ℕ × List ℕ). Contains l p.0) (rows_in xs)) (sym same) all)

pub some_entries : (es : List ℕ) (n : ℕ) → n ≡ length es → (n ≡ 0 → ⊥) → has_some es ≡ true
some_entries [] n is other = absurd (other is)
some_entries (e ∷ es) n is other = refl

-- ---- the first row with entries

-- a row that is no later than those with entries is taken
pub row_taken : (xs : List Row) (i : ℕ) (v x : Row) → RowsRise xs → i < length xs → x ≡ get_or xs i x → v.channel ≡ x.channel → v.entries.items ≡ [] → Known (λ n. x.channel ≤ n) xs
    → (rows_in xs ≡ rows_in (x ∷ []) ++ rows_in (set xs i v)) × Known (λ n. x.channel < n) (set xs i v)
row_taken [] i v x rises within is same none first = absurd (omega (arith, within))
row_taken (y ∷ ys) zero v x rises within is same none first =
    let gone : rows_in (v ∷ ys) ≡ rows_in ys = no_row v ys (ap has_some none) in
    let later : All (λ (p : ℕ × List ℕ). x.channel < p.0) (rows_in ys) = subst (λ (n : ℕ). All (λ (p : ℕ × List ℕ). n < p.0) (rows_in ys)) (ap (λ (r : Row). r.channel) (sym is)) (above_all y.channel ys (rise_all y ys rises)) in
    let whole : rows_in (y ∷ ys) ≡ rows_in (y ∷ []) ++ rows_in ys = elim (is_some y.entries.items) [
      | inl some ↦ some_row y ys some ∙ ap (λ (ls : List (ℕ × List ℕ)). ls ++ rows_in ys) (sym (some_row y [] some))
      | inr empty ↦ no_row y ys empty.0 ∙ ap (λ (ls : List (ℕ × List ℕ)). ls ++ rows_in ys) (sym (no_row y [] empty.0))
    ] in (
      whole ∙ ap (λ (r : Row). rows_in (r ∷ []) ++ rows_in ys) (sym is) ∙ ap (λ (ls : List (ℕ × List ℕ)). rows_in (x ∷ []) ++ ls) (sym gone),
      subst (λ ls. All (λ (p : ℕ × List ℕ). x.channel < p.0) ls) (sym gone) later,
    )
row_taken (y ∷ ys) (suc i) v x rises within is same none first =
    let less : y.channel < x.channel = subst (λ (n : ℕ). y.channel < n) (ap (λ (r : Row). r.channel) (sym is)) (rise_all y ys rises i x (omega (arith, within))) in
    let rest = row_taken ys i v x (rise_tail y ys rises) (omega (arith, within)) is same none (known_tail (λ n. x.channel ≤ n) y ys first) in
    elim (is_some y.entries.items) [
      | inl some ↦ let here = known_head (λ n. x.channel ≤ n) y ys some first in absurd (omega (arith, less, here))
      | inr empty ↦ (
        no_row y ys empty.0 ∙ rest.0 ∙ ap (λ (ls : List (ℕ × List ℕ)). rows_in (x ∷ []) ++ ls) (sym (no_row y (set ys i v) empty.0)),
        subst (λ ls. All (λ (p : ℕ × List ℕ). x.channel < p.0) ls) (sym (no_row y (set ys i v) empty.0)) rest.1,
      )
    ]

cases_below : (a b : ℕ) → (a < b) ⊎ (b ≤ a)
cases_below a b = elim (cases_order a b) [
  | inl same ↦ inr (omega (arith, same))
  | inr (inl less) ↦ inl less
  | inr (inr more) ↦ inr (omega (arith, more))
]

-- there is no row of the channel
pub none_taken : (xs : List Row) (i channel : ℕ) → FoundRow xs channel (Err i) → Known (λ n. channel ≤ n) xs → Known (λ n. channel < n) xs
none_taken xs i channel found first k d within =
    let low = first k d within in
    let away = All-filter has_entries (λ (p : ℕ × List ℕ). p.0 ≡ channel → ⊥) _ (All-map (λ (p : ℕ × List ℕ). p.0 ≡ channel → ⊥) row_pair xs apart) k d within in
    less (get_or (rows_in xs) k d).0 low away
  where
    less : (n : ℕ) → channel ≤ n → (n ≡ channel → ⊥) → channel < n
    less n low other = omega (arith, low, other)

    apart : All (λ (r : Row). r.channel ≡ channel → ⊥) xs
    apart n e inside is = elim (cases_below n i) [
      | inl below ↦ let down = found.1 n e below in omega (arith, down, is)
      | inr above ↦ let up = found.2 n e above inside in omega (arith, up, is)
    ]

-- ---- step by step

-- what remains to be taken: from that place on
abbrev pub IsLeft : List ℕ → ℕ → ℕ → Type 0
IsLeft used i channel = (k : ℕ) × (i ≤ k) × (k < length used) × (get_or used k channel ≡ channel)

pub all_left : (used : List ℕ) (ls : List (ℕ × List ℕ)) → All (λ (p : ℕ × List ℕ). Contains used p.0) ls → All (λ (p : ℕ × List ℕ). IsLeft used 0 p.0) ls
all_left used ls all = All-weaker (λ (p : ℕ × List ℕ). Contains used p.0) (λ (p : ℕ × List ℕ). IsLeft used 0 p.0) (λ p there. (there.0, omega arith, there.1, there.2)) ls all

pub first_left : (used : List ℕ) (i d : ℕ) (ls : List (ℕ × List ℕ)) → IsNonDecreasing used → All (λ (p : ℕ × List ℕ). IsLeft used i p.0) ls → All (λ (p : ℕ × List ℕ). get_or used i d ≤ p.0) ls
first_left used i d ls ascend all = All-weaker (λ (p : ℕ × List ℕ). IsLeft used i p.0) (λ (p : ℕ × List ℕ). get_or used i d ≤ p.0) low ls all
  where
    low : (p : ℕ × List ℕ) → IsLeft used i p.0 → get_or used i d ≤ p.0
    low p left =
        let less = ascend i left.0 d left.1 left.2 in
        let there = get_or_default used left.0 d p.0 left.2 in
        omega (arith, less, there, left.3)

pub less_left : (used : List ℕ) (i d : ℕ) (ls : List (ℕ × List ℕ)) → i < length used → All (λ (p : ℕ × List ℕ). IsLeft used i p.0) ls → All (λ (p : ℕ × List ℕ). get_or used i d < p.0) ls
    → All (λ (p : ℕ × List ℕ). IsLeft used (i + 1) p.0) ls
less_left used i d ls within all later k e inside =
    let left = all k e inside in
    let far = later k e inside in
    (left.0, next left.0 left.1 (λ same. differ left.0 same (get_or ls k e).0 left.3 far), left.2, left.3)
  where
    next : (j : ℕ) → i ≤ j → (j ≡ i → ⊥) → i + 1 ≤ j
    next j most other = omega (arith, most, other)

    differ : (j : ℕ) → j ≡ i → (n : ℕ) → get_or used j n ≡ n → get_or used i d < n → ⊥
    differ j same n is less =
        let here = get_or_default used i n d within in
        let moved = ap (λ (m : ℕ). get_or used m n) same in
        omega (arith, is, less, here, moved)

-- what is left of some
pub left_in : (P : ℕ × List ℕ → Type 0) (old taken new : List (ℕ × List ℕ)) → old ≡ taken ++ new → All P old → All P new
left_in P old taken new joined all = behind taken (subst (All P) joined all)
  where
    behind : (xs : List (ℕ × List ℕ)) → All P (xs ++ new) → All P new
    behind [] own = own
    behind (x ∷ xs) own = behind xs (All-tail P x (xs ++ new) own)

pub none_left : (used : List ℕ) (i : ℕ) (ls : List (ℕ × List ℕ)) → length used ≤ i → All (λ (p : ℕ × List ℕ). IsLeft used i p.0) ls → ls ≡ []
none_left used i [] past all = refl
none_left used i (l ∷ ls) past all = let left = all 0 l (omega arith) in absurd (omega (arith, past, left.1, left.2))

-- what was taken so far stands behind the bytes and among the parts
pub record TakesRows (old new : List (ℕ × List ℕ)) (bytes : List ℕ × List ℕ) (parts : List IndexPart × List IndexPart) : Type 0 where
  pub taken : List (ℕ × List ℕ)
  pub joined : old ≡ taken ++ new
  pub bytes_are : bytes.1 ≡ bytes.0 ++ rows_bytes taken
  pub parts_are : parts.1 ≡ parts.0 ++ rows_parts (length bytes.0) taken

pub none_yet : (rows : List (ℕ × List ℕ)) (bytes : List ℕ) (parts : List IndexPart) → TakesRows rows rows (bytes, bytes) (parts, parts)
none_yet rows bytes parts = record {
  taken = [];
  joined = refl;
  bytes_are = sym (append-nil bytes);
  parts_are = sym (append-nil parts);
}

pub takes_long : (a b : List (ℕ × List ℕ)) (bs cs : List ℕ) (ps qs : List IndexPart) → TakesRows a b (bs, cs) (ps, qs) → length cs + rows_size b ≡ length bs + rows_size a
takes_long a b bs cs ps qs takes =
    let long = ap (λ (l : List ℕ). length l) takes.bytes_are in
    let size = ap rows_size takes.joined in
    omega (arith, long, size, length-append bs (rows_bytes takes.taken), length-rows_bytes takes.taken, rows_size-append takes.taken b)

pub bytes_grow : (a b : List (ℕ × List ℕ)) (bs cs : List ℕ) (ps qs : List IndexPart) → TakesRows a b (bs, cs) (ps, qs) → length bs ≤ length cs
bytes_grow a b bs cs ps qs takes = let long = ap (λ (l : List ℕ). length l) takes.bytes_are in omega (arith, long, length-append bs (rows_bytes takes.taken))

pub takes_more : (a b c : List (ℕ × List ℕ)) (channel : ℕ) (bs cs ds : List ℕ) (ps qs rs : List IndexPart) → TakesRows a b (bs, cs) (ps, qs) → TakesRow b c channel (cs, ds) (qs, rs) → TakesRows a c (bs, ds) (ps, rs)
takes_more a b c channel bs cs ds ps qs rs takes one =
    let xs = takes.taken in
    let ys = one.taken in
    let long = ap (λ (l : List ℕ). length l) takes.bytes_are in
    let place : length cs ≡ length bs + rows_size xs = omega (arith, long, length-append bs (rows_bytes xs), length-rows_bytes xs) in
    record {
      taken = xs ++ ys;
      joined = takes.joined ∙ ap (λ (l : List (ℕ × List ℕ)). xs ++ l) one.joined ∙ sym (append_assoc xs ys c);
      bytes_are = one.bytes_are ∙ ap (λ (l : List ℕ). l ++ rows_bytes ys) takes.bytes_are ∙ append_assoc bs (rows_bytes xs) (rows_bytes ys)
          ∙ ap (λ (l : List ℕ). bs ++ l) (sym (flat_map-append row_bytes xs ys));
      parts_are = one.parts_are ∙ ap (λ (l : List IndexPart). l ++ rows_parts (length cs) ys) takes.parts_are ∙ append_assoc ps (rows_parts (length bs) xs) (rows_parts (length cs) ys)
          ∙ ap (λ (l : List IndexPart). ps ++ l) (ap (λ (n : ℕ). rows_parts (length bs) xs ++ rows_parts n ys) place ∙ sym (rows_parts-append (length bs) xs ys));
    }

pub takes_all : (a b : List (ℕ × List ℕ)) (bs cs : List ℕ) (ps qs : List IndexPart) → TakesRows a b (bs, cs) (ps, qs) → b ≡ [] → (cs ≡ bs ++ rows_bytes a) × (qs ≡ ps ++ rows_parts (length bs) a)
takes_all a b bs cs ps qs takes none =
    let all : a ≡ takes.taken = takes.joined ∙ ap (λ (l : List (ℕ × List ℕ)). takes.taken ++ l) none ∙ append-nil takes.taken in
    (takes.bytes_are ∙ ap (λ (l : List (ℕ × List ℕ)). bs ++ rows_bytes l) (sym all), takes.parts_are ∙ ap (λ (l : List (ℕ × List ℕ)). ps ++ rows_parts (length bs) l) (sym all))
