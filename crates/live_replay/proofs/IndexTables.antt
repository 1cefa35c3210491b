-- Entries in the order of time and offset, and those of them that lie in a range.
use Rattle.std.proofs.Common.{◌≡◌, ℕ, zero, suc, ◌+◌, ◌-◌, ◌<◌, ◌≤◌, Bool, true, false, ◌&&◌, List, [], ◌∷◌, ◌++◌, length, get_or, take, drop, map, cond, refl, sym, ap, subst, inl, inr, ◌∙◌, arith}
use Rattle.std.specs.Prelude.{filter, ◌==◌, nat_le, nat_lt, Option, Some, None}
use Rattle.std.specs.declared.cmp.Ordering.TheVariants.{Less, Equal, Greater}
use Rattle.std.specs.List.{AllAdjacentBelow, AllWithin}
use Rattle.std.specs.Ordering.{nat_cmp, is_lt, ordering_then}
use Rattle.std.proofs.lemmas.Bool.{ltb-true, ltb-false, lt-ltb, le-leb, lt-leb, eqb-true, eqb-false}
use Rattle.mcap_model.specs.declared.replay.Range.{Range}
use Rattle.mcap_model.specs.Places.{At}
use Rattle.mcap_model.specs.Scan.{is_within, is_before_end}
use Rattle.std.proofs.lemmas.List.{length-drop}
use Rattle.std.proofs.lemmas.List.Kept.{AllPairs-filter}
use Rattle.mcap_model.proofs.Flat.{map-append}
use Rattle.mcap_model.proofs.NamedTopics.{take_past}
use Rattle.mcap_model.proofs.OneMore.{take_next}
use Rattle.live_replay.specs.declared.index_table.TimeAt.{TimeAt}
use Rattle.live_replay.specs.IndexTable.{time_at, NotAfter, Rises}

-- ---- order

next : (a b c : TimeAt) → NotAfter a b → NotAfter b c → NotAfter a c
next a b c (inl p) (inl q) = inl (omega (arith, p, q))
next a b c (inl p) (inr q) = inl (omega (arith, p, q.0))
next a b c (inr p) (inl q) = inl (omega (arith, p.0, q))
next a b c (inr p) (inr q) = inr (p.0 ∙ q.0, omega (arith, p.1, q.1))

far : (xs : List TimeAt) → AllAdjacentBelow NotAfter xs (length xs) → (i n : ℕ) (d : TimeAt) → suc (i + n) < length xs → NotAfter (get_or xs i d) (get_or xs (suc (i + n)) d)
far xs order i zero d within =
    let is : i + 1 ≡ suc (i + 0) = omega arith in
    subst (λ (k : ℕ). NotAfter (get_or xs i d) (get_or xs k d)) is (order i d (omega (arith, within)))
far xs order i (suc n) d within =
    let is : suc (i + n) + 1 ≡ suc (i + suc n) = omega arith in
    next (get_or xs i d) (get_or xs (suc (i + n)) d) (get_or xs (suc (i + suc n)) d) (far xs order i n d (omega (arith, within)))
    (subst (λ (k : ℕ). NotAfter (get_or xs (suc (i + n)) d) (get_or xs k d)) is (order (suc (i + n)) d (omega (arith, within))))

-- where none comes behind the next, all rise
pub all_rise : (xs : List TimeAt) → AllAdjacentBelow NotAfter xs (length xs) → Rises xs
all_rise xs order i j d less within =
    let is : suc (i + (j - suc i)) ≡ j = omega (arith, less) in
    subst (λ (k : ℕ). NotAfter (get_or xs i d) (get_or xs k d)) is (far xs order i (j - suc i) d (omega (arith, within, less)))

not_so : true ≡ false → ⊥
not_so e = cc

-- what the order of the keys says
pub not_less : (s r : TimeAt) → is_lt (ordering_then (nat_cmp s.time r.time) (nat_cmp s.offset r.offset)) ≡ false → NotAfter r s
not_less s r = by (nat_lt s.time r.time) (s.time == r.time) (nat_lt s.offset r.offset) (s.offset == r.offset) refl refl refl
  where
    by : (l e n g : Bool) → nat_lt s.time r.time ≡ l → (s.time == r.time) ≡ e → nat_lt s.offset r.offset ≡ n
        → is_lt (ordering_then (cond l Less (cond e Equal Greater)) (cond n Less (cond g Equal Greater))) ≡ false → NotAfter r s
    by true e n g l_is e_is n_is less = absurd (not_so less)
    by false false n g l_is e_is n_is less = inl (omega (arith, ltb-false s.time r.time l_is, eqb-false s.time r.time e_is))
    by false true true g l_is e_is n_is less = absurd (not_so less)
    by false true false g l_is e_is n_is less = inr (sym (eqb-true s.time r.time e_is), ltb-false s.offset r.offset n_is)

-- ---- those before a time, and those from it on

pub parted : (xs : List TimeAt) (time : ℕ) → Rises xs → (i j : ℕ) (d : TimeAt) → i ≤ j → j < length xs → nat_lt (get_or xs j d).time time ≡ true → nat_lt (get_or xs i d).time time ≡ true
parted xs time rises i j d few within early = by (i == j) refl
  where
    low : NotAfter (get_or xs i d) (get_or xs j d) → nat_lt (get_or xs i d).time time ≡ true
    low (inl less) = lt-ltb (get_or xs i d).time time (omega (arith, less, ltb-true (get_or xs j d).time time early))
    low (inr same) = lt-ltb (get_or xs i d).time time (omega (arith, same.0, ltb-true (get_or xs j d).time time early))

    by : (b : Bool) → (i == j) ≡ b → nat_lt (get_or xs i d).time time ≡ true
    by true is = subst (λ (k : ℕ). nat_lt (get_or xs k d).time time ≡ true) (sym (eqb-true i j is)) early
    by false is = low (rises i j d (omega (arith, few, eqb-false i j is)) within)

-- a place that parts a list by a test
split : (p q : TimeAt → Bool) → ((x : TimeAt) → p x ≡ true → q x ≡ false) → ((x : TimeAt) → p x ≡ false → q x ≡ true) → (xs : List TimeAt) (k : ℕ)
    → AllWithin (λ y. p y ≡ true) xs 0 k → AllWithin (λ y. p y ≡ false) xs k (length xs) → k ≤ length xs → (take k xs ≡ filter p xs) × (drop k xs ≡ filter q xs)
split p q off on [] zero early late few = (refl, refl)
split p q off on [] (suc k) early late few = absurd (omega (arith, few))
split p q off on (x ∷ xs) zero early late few =
    let here : p x ≡ false = late 0 x (omega arith) (omega arith) in
    let rest = split p q off on xs 0 (λ j d low high. absurd (omega (arith, high))) (λ j d low high. late (suc j) d (omega arith) (omega (arith, high))) (omega arith) in (
      rest.0 ∙ ap (λ (b : Bool). cond b (x ∷ filter p xs) (filter p xs)) (sym here),
      ap (λ (l : List TimeAt). x ∷ l) rest.1 ∙ ap (λ (b : Bool). cond b (x ∷ filter q xs) (filter q xs)) (sym (on x here)),
    )
split p q off on (x ∷ xs) (suc k) early late few =
    let here : p x ≡ true = early 0 x (omega arith) (omega arith) in
    let rest = split p q off on xs k (λ j d low high. early (suc j) d (omega arith) (omega (arith, high))) (λ j d low high. late (suc j) d (omega (arith, low)) (omega (arith, high))) (omega (arith, few)) in (
      ap (λ (l : List TimeAt). x ∷ l) rest.0 ∙ ap (λ (b : Bool). cond b (x ∷ filter p xs) (filter p xs)) (sym here),
      rest.1 ∙ ap (λ (b : Bool). cond b (x ∷ filter q xs) (filter q xs)) (sym (off x here)),
    )

pub split_by_time : (xs : List TimeAt) (time k : ℕ) → AllWithin (λ y. nat_lt y.time time ≡ true) xs 0 k → AllWithin (λ y. nat_lt y.time time ≡ false) xs k (length xs) → k ≤ length xs
    → (take k xs ≡ filter (λ e. nat_lt e.time time) xs) × (drop k xs ≡ filter (λ e. nat_le time e.time) xs)
split_by_time xs time k early late few =
    split (λ e. nat_lt e.time time) (λ e. nat_le time e.time)
    (λ x is. lt-leb time x.time (ltb-true x.time time is))
    (λ x is. le-leb time x.time (ltb-false x.time time is))
    xs k early late few

-- ---- parts of a list

tail_all : (xs : List TimeAt) (n : ℕ) → take (length xs - n) (drop n xs) ≡ drop n xs
tail_all xs n = take_past (length xs - n) (drop n xs) (omega (arith, length-drop n xs))

pub tail_late : (xs part : List TimeAt) (n time : ℕ) → part ≡ take (length xs - n) (drop n xs) → drop n xs ≡ filter (λ e. nat_le time e.time) xs → part ≡ filter (λ e. nat_le time e.time) xs
tail_late xs part n time is late = is ∙ tail_all xs n ∙ late

pub still_rise : (p : TimeAt → Bool) (xs some : List TimeAt) → Rises xs → some ≡ filter p xs → Rises some
still_rise p xs some rises is = subst Rises (sym is) (AllPairs-filter NotAfter p xs rises)

-- ---- a range

filter_both : (p q : TimeAt → Bool) (xs : List TimeAt) → filter q (filter p xs) ≡ filter (λ x. p x && q x) xs
filter_both p q [] = refl
filter_both p q (x ∷ xs) = by (p x) (filter_both p q xs)
  where
    by : (b : Bool) → filter q (filter p xs) ≡ filter (λ y. p y && q y) xs → filter q (cond b (x ∷ filter p xs) (filter p xs)) ≡ cond (b && q x) (x ∷ filter (λ y. p y && q y) xs) (filter (λ y. p y && q y) xs)
    by true rest = ap (λ (l : List TimeAt). cond (q x) (x ∷ l) l) rest
    by false rest = rest

and_true : (b : Bool) → (b && true) ≡ b
and_true true = refl
and_true false = refl

filter_same : (p q : TimeAt → Bool) → ((x : TimeAt) → p x ≡ q x) → (xs : List TimeAt) → filter p xs ≡ filter q xs
filter_same p q same [] = refl
filter_same p q same (x ∷ xs) =
    ap (λ (b : Bool). cond b (x ∷ filter p xs) (filter p xs)) (same x) ∙ ap (λ (l : List TimeAt). cond (q x) (x ∷ l) l) (filter_same p q same xs)

-- with no end
pub among_late : (xs late : List TimeAt) (range : Range) → late ≡ filter (λ e. nat_le range.start e.time) xs → range.end ≡ None → late ≡ filter (λ e. is_within range e.time) xs
among_late xs late range is none =
    is ∙ filter_same (λ e. nat_le range.start e.time) (λ e. is_within range e.time)
    (λ x. sym (ap (λ (end : Option ℕ). nat_le range.start x.time && is_before_end end x.time) none ∙ and_true (nat_le range.start x.time))) xs

-- with an end
pub among_both : (xs late some : List TimeAt) (range : Range) (end : ℕ) → late ≡ filter (λ e. nat_le range.start e.time) xs → some ≡ filter (λ e. nat_lt e.time end) late → range.end ≡ Some end → some ≡ filter (λ e. is_within range e.time) xs
among_both xs late some range end is then ends =
    then ∙ ap (filter (λ e. nat_lt e.time end)) is ∙ filter_both (λ e. nat_le range.start e.time) (λ e. nat_lt e.time end) xs
    ∙ filter_same (λ e. nat_le range.start e.time && nat_lt e.time end) (λ e. is_within range e.time)
    (λ x. sym (ap (λ (o : Option ℕ). nat_le range.start x.time && is_before_end o x.time) ends)) xs

-- ---- entries that are copied

pub copied_more : (entries : List (ℕ × ℕ)) (i : ℕ) (entry : ℕ × ℕ) (copied new : List TimeAt) → At {X = ℕ × ℕ} entries i entry → copied ≡ map time_at (take i entries) → new ≡ copied ++ time_at entry ∷ [] → new ≡ map time_at (take (i + 1) entries)
copied_more entries i entry copied new at was added =
    let next : suc i ≡ i + 1 = omega arith in
    added ∙ ap (λ (l : List TimeAt). l ++ time_at entry ∷ []) was
    ∙ sym (map-append time_at (take i entries) (entry ∷ []))
    ∙ ap (map time_at) (sym (take_next entries i entry at))
    ∙ ap (λ (n : ℕ). map time_at (take n entries)) next
