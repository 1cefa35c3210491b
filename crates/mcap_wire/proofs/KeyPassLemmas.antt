-- Passes over the keys of a map.
use Rattle.std.proofs.Common.{◌≡◌, ◌≢◌, ◌⊎◌, ℕ, zero, suc, ◌+◌, ◌-◌, ◌<◌, ◌≤◌, List, [], ◌∷◌, ◌++◌, length, get_or, set, take, refl, sym, ap, subst, inl, inr, ◌∙◌, arith}
use Rattle.std.specs.Prelude.{Option, Some, None, Bool, true, false, cond, filter, All, AllPairs, Any, insert, min}
use Rattle.std.specs.List.{AllWithin, CopiedTo, SameBelow}
use Rattle.std.specs.Ordering.{nat_cmp, is_gt, ordering_reverse}
use Rattle.std.specs.Cmp.Lexicographic.{slice_cmp}
use Rattle.std.specs.declared.cmp.Ordering.{Ordering}
use Rattle.std.specs.declared.cmp.Ordering.TheVariants.{Less, Equal, Greater}
use Rattle.std.proofs.lemmas.Bool.{cases_lt}
use Rattle.std.proofs.lemmas.Cmp.{nat_list_cmp_total, tied_itself}
use Rattle.std.proofs.lemmas.List.{length-take, length-take-le, take-take, get_or-take, get_or_default, same_lists, get_or-set_same, get_or-set_other, length-set, length-append, get_or_append_left}
use Rattle.std.proofs.lemmas.List.Edits.{length-insert, get_or-insert_below, get_or-insert_at, get_or-insert_above}
use Rattle.std.proofs.lemmas.List.Elements.{All-push, All-take}
use Rattle.std.proofs.lemmas.List.Quantifiers.{Any-push}
use denote.Ref.{Bor}
use Rattle.mcap_wire.specs.declared.key_passes.Window.{Window}
use Rattle.mcap_wire.specs.Layout.{text_bytes}
use Rattle.mcap_wire.specs.MapReading.{HasKey, LacksKey}
use Rattle.mcap_wire.specs.KeyPasses.{TextThere, window_room, IsBelow, KeysGoUp, BelongsAt, is_above, kept_places, IsWindow, IsHeld, IsBeyond, Sifts, OnceBetween, OnceUpTo}
use Rattle.mcap_wire.proofs.TextMaps.{Pair, AllPairs-push}
use Rattle.mcap_wire.proofs.PairWalks.{not_above_itself}

-- ---- order

pub never_below_itself : (key : List ℕ) → IsBelow key key → ⊥
never_below_itself key below =
    let tied : slice_cmp nat_cmp key key ≡ Equal = tied_itself nat_list_cmp_total key in
    cc

pub above_from_below : (one other : List ℕ) → IsBelow one other → is_gt (slice_cmp nat_cmp other one) ≡ true
above_from_below one other below = ap is_gt (nat_list_cmp_total.antisymm other one ∙ ap ordering_reverse below)

pub below_from_above : (one other : List ℕ) → is_gt (slice_cmp nat_cmp other one) ≡ true → IsBelow one other
below_from_above one other above = by (slice_cmp nat_cmp other one) refl
  where
    by : (o : Ordering) → slice_cmp nat_cmp other one ≡ o → IsBelow one other
    by Less is = absurd (let no : is_gt (slice_cmp nat_cmp other one) ≡ false = ap is_gt is in cc)
    by Equal is = absurd (let no : is_gt (slice_cmp nat_cmp other one) ≡ false = ap is_gt is in cc)
    by Greater is = nat_list_cmp_total.antisymm one other ∙ ap ordering_reverse is

-- ---- where a key belongs

pub below_more : (bytes places key : List ℕ) (probe d : ℕ) → probe < length places → KeysGoUp bytes places → IsBelow (text_bytes bytes (get_or places probe d)) key → AllWithin (λ p. IsBelow (text_bytes bytes p) key) places 0 (probe + 1)
below_more bytes places key probe d lt order below k e least within =
    let there : IsBelow (text_bytes bytes (get_or places probe e)) key = subst (λ (p : ℕ). IsBelow (text_bytes bytes p) key) (get_or_default places probe d e lt) below in
    elim (cases_lt k probe) [
      | inl before ↦ nat_list_cmp_total.trans (text_bytes bytes (get_or places k e)) (text_bytes bytes (get_or places probe e)) key (order k probe e before lt) there
      | inr from ↦ let here : probe ≡ k = omega arith in subst (λ (m : ℕ). IsBelow (text_bytes bytes (get_or places m e)) key) here there
    ]

pub above_from : (bytes places key : List ℕ) (probe d : ℕ) → probe < length places → KeysGoUp bytes places → IsBelow key (text_bytes bytes (get_or places probe d)) → AllWithin (λ p. IsBelow key (text_bytes bytes p)) places probe (length places)
above_from bytes places key probe d lt order above k e least within =
    let there : IsBelow key (text_bytes bytes (get_or places probe e)) = subst (λ (p : ℕ). IsBelow key (text_bytes bytes p)) (get_or_default places probe d e lt) above in
    elim (cases_lt probe k) [
      | inl before ↦ nat_list_cmp_total.trans key (text_bytes bytes (get_or places probe e)) (text_bytes bytes (get_or places k e)) there (order probe k e before within)
      | inr from ↦ let here : probe ≡ k = omega arith in subst (λ (m : ℕ). IsBelow key (text_bytes bytes (get_or places m e))) here there
    ]

-- ---- a place that is put among others

pub put_list : (old moved : List ℕ) (n i place : ℕ) → i ≤ n → n < length old → length moved ≡ length old → CopiedTo old moved i (i + 1) (n - i) → SameBelow old moved (i + 1) → take (n + 1) (set moved i place) ≡ insert (take n old) i place
put_list old moved n i place le lt size copied below = same_lists (take (n + 1) (set moved i place)) (insert (take n old) i place) lengths at
  where
    taken : length (take n old) ≡ n
    taken = length-take-le n old (omega arith)

    longer : length (set moved i place) ≡ length old
    longer = length-set moved i place ∙ size

    put : length (take (n + 1) (set moved i place)) ≡ n + 1
    put = length-take-le (n + 1) (set moved i place) (omega (arith, longer))

    lengths : length (take (n + 1) (set moved i place)) ≡ length (insert (take n old) i place)
    lengths = omega (arith, put, taken, length-insert (take n old) i place (omega (arith, taken)))

    at : (k d : ℕ) → k < length (take (n + 1) (set moved i place)) → get_or (take (n + 1) (set moved i place)) k d ≡ get_or (insert (take n old) i place) k d
    at k d within = get_or-take (n + 1) (set moved i place) k d (omega (arith, put)) ∙ elim (cases_lt k i) [
      | inl before ↦ get_or-set_other moved i k place d (λ same. absurd (omega (arith, same)))
          ∙ below k d (omega arith)
          ∙ sym (get_or-take n old k d (omega arith))
          ∙ sym (get_or-insert_below (take n old) i place d k before (omega (arith, taken)))
      | inr from ↦ elim (cases_lt i k) [
        | inl behind ↦ get_or-set_other moved i k place d (λ same. absurd (omega (arith, same)))
            ∙ copied k d (omega arith) (omega (arith, put))
            ∙ ap (λ (m : ℕ). get_or old m d) (let place_is : i + (k - (i + 1)) ≡ k - 1 = omega arith in place_is)
            ∙ sym (get_or-take n old (k - 1) d (omega (arith, put)))
            ∙ sym (get_or-insert_above (take n old) i place d (k - 1) (omega arith) (omega (arith, taken)))
            ∙ ap (λ (m : ℕ). get_or (insert (take n old) i place) m d) (let next : k - 1 + 1 ≡ k = omega arith in next)
        | inr upto ↦ let here : k ≡ i = omega arith in
            ap (λ (m : ℕ). get_or (set moved i place) m d) here
            ∙ get_or-set_same moved i place d (omega (arith, size))
            ∙ sym (get_or-insert_at (take n old) i place d (omega (arith, taken)))
            ∙ ap (λ (m : ℕ). get_or (insert (take n old) i place) m d) (sym here)
      ]
    ]

-- what stands in a list with one more is that, or stood there
inserted_cases : {X : Type 0} (xs : List X) (i : ℕ) (y d : X) (k : ℕ) → i ≤ length xs → k < length xs + 1 → (get_or (insert xs i y) k d ≡ y) ⊎ ((j : ℕ) × (j < length xs) × (get_or (insert xs i y) k d ≡ get_or xs j d))
inserted_cases {X = X} xs i y d k le lt = elim (cases_lt k i) [
  | inl before ↦ inr (k, omega arith, get_or-insert_below xs i y d k before le)
  | inr from ↦ elim (cases_lt i k) [
    | inl behind ↦ let next : k - 1 + 1 ≡ k = omega arith in inr (k - 1, omega arith, ap (λ (m : ℕ). get_or (insert xs i y) m d) (sym next) ∙ get_or-insert_above xs i y d (k - 1) (omega arith) le)
    | inr upto ↦ let here : k ≡ i = omega arith in inl (ap (λ (m : ℕ). get_or (insert xs i y) m d) here ∙ get_or-insert_at xs i y d le)
  ]
]

All-insert : {X : Type 0} (P : X → Type 0) (xs : List X) (i : ℕ) (y : X) → i ≤ length xs → All P xs → P y → All P (insert xs i y)
All-insert {X = X} P xs i y le all here k d lt = by (inserted_cases xs i y d k le (omega (arith, length-insert xs i y le)))
  where
    by : (get_or (insert xs i y) k d ≡ y) ⊎ ((j : ℕ) × (j < length xs) × (get_or (insert xs i y) k d ≡ get_or xs j d)) → P (get_or (insert xs i y) k d)
    by (inl is) = subst P (sym is) here
    by (inr is) = subst P (sym is.2) (all is.0 d is.1)

Any-inserted : {X : Type 0} (P : X → Type 0) (xs : List X) (i : ℕ) (y : X) → i ≤ length xs → P y → Any P (insert xs i y)
Any-inserted P xs i y le here = (i, y, omega (arith, length-insert xs i y le), get_or-insert_at xs i y y le, here)

Any-insert : {X : Type 0} (P : X → Type 0) (xs : List X) (i : ℕ) (y : X) → i ≤ length xs → Any P xs → Any P (insert xs i y)
Any-insert {X = X} P xs i y le any = elim (cases_lt any.0 i) [
  | inl before ↦ (any.0, any.1, omega (arith, length-insert xs i y le, any.2), get_or-insert_below xs i y any.1 any.0 before le ∙ any.3, any.4)
  | inr from ↦ (any.0 + 1, any.1, omega (arith, length-insert xs i y le, any.2), get_or-insert_above xs i y any.1 any.0 from le ∙ any.3, any.4)
]

Any-insert_cases : {X : Type 0} (P : X → Type 0) (xs : List X) (i : ℕ) (y : X) → i ≤ length xs → Any P (insert xs i y) → P y ⊎ Any P xs
Any-insert_cases {X = X} P xs i y le any = by (inserted_cases xs i y any.1 any.0 le (omega (arith, length-insert xs i y le, any.2)))
  where
    by : (get_or (insert xs i y) any.0 any.1 ≡ y) ⊎ ((j : ℕ) × (j < length xs) × (get_or (insert xs i y) any.0 any.1 ≡ get_or xs j any.1)) → P y ⊎ Any P xs
    by (inl is) = inl (subst P (sym any.3 ∙ is) any.4)
    by (inr is) = inr (is.0, any.1, is.1, sym is.2 ∙ any.3, any.4)

-- a place that is put where its key belongs
pub goes_up_more : (bytes places : List ℕ) (i place : ℕ) → BelongsAt bytes places (text_bytes bytes place) i → KeysGoUp bytes places → KeysGoUp bytes (insert places i place)
goes_up_more bytes places i place belongs order j k d below within =
    elim (cases_lt k i) [
      | inl k_before ↦ move (get_or-insert_below places i place d j (omega arith) le) (get_or-insert_below places i place d k k_before le) (order j k d below (omega arith))
      | inr k_from ↦ elim (cases_lt i k) [
        | inl k_behind ↦ elim (cases_lt j i) [
          | inl j_before ↦ move (get_or-insert_below places i place d j j_before le) (above k k_behind) (order j (k - 1) d (omega arith) (omega (arith, size)))
          | inr j_from ↦ elim (cases_lt i j) [
            | inl j_behind ↦ move (above j j_behind) (above k k_behind) (order (j - 1) (k - 1) d (omega arith) (omega (arith, size)))
            | inr j_upto ↦ move (here j (omega arith)) (above k k_behind) (belongs.behind (k - 1) d (omega arith) (omega (arith, size)))
          ]
        ]
        | inr k_upto ↦ move (get_or-insert_below places i place d j (omega arith) le) (here k (omega arith)) (belongs.before j d (omega arith) (omega arith))
      ]
    ]
  where
    le : i ≤ length places
    le = belongs.within

    size : length (insert places i place) ≡ length places + 1
    size = length-insert places i place le

    above : (m : ℕ) → i < m → get_or (insert places i place) m d ≡ get_or places (m - 1) d
    above m behind = ap (λ (n : ℕ). get_or (insert places i place) n d) (let next : m ≡ m - 1 + 1 = omega arith in next) ∙ get_or-insert_above places i place d (m - 1) (omega arith) le

    here : (m : ℕ) → m ≡ i → get_or (insert places i place) m d ≡ place
    here m is = ap (λ (n : ℕ). get_or (insert places i place) n d) is ∙ get_or-insert_at places i place d le

    move : {p q p' q' : ℕ} → p ≡ p' → q ≡ q' → IsBelow (text_bytes bytes p') (text_bytes bytes q') → IsBelow (text_bytes bytes p) (text_bytes bytes q)
    move {p = p} {q = q} {p' = p'} {q' = q'} p_is q_is is =
        ap (λ (x : ℕ). slice_cmp nat_cmp (text_bytes bytes x) (text_bytes bytes q)) p_is ∙ ap (λ (x : ℕ). slice_cmp nat_cmp (text_bytes bytes p') (text_bytes bytes x)) q_is ∙ is

-- ---- fewer keys above a higher bound

-- how many keys are above a bound
abbrev pub number_above : Option (Bor (List ℕ)) → List Pair → ℕ
number_above bound pairs = length (filter (λ p. is_above bound p.0) pairs)

no_longer : {X : Type 0} (x : X) (a b : Bool) (front other : List X) → (a ≡ true → b ≡ true) → length front ≤ length other → length (cond a (x ∷ front) front) ≤ length (cond b (x ∷ other) other)
no_longer x true true front other imp le = omega (arith, le)
no_longer x true false front other imp le = absurd (let no : false ≡ true = imp refl in cc)
no_longer x false true front other imp le = omega (arith, le)
no_longer x false false front other imp le = le

shorter_on : {X : Type 0} (x : X) (a b : Bool) (front other : List X) → (a ≡ true → b ≡ true) → length front < length other → length (cond a (x ∷ front) front) < length (cond b (x ∷ other) other)
shorter_on x true true front other imp lt = omega (arith, lt)
shorter_on x true false front other imp lt = absurd (let no : false ≡ true = imp refl in cc)
shorter_on x false true front other imp lt = omega (arith, lt)
shorter_on x false false front other imp lt = lt

shorter_here : {X : Type 0} (x : X) (a b : Bool) (front other : List X) → a ≡ false → b ≡ true → length front ≤ length other → length (cond a (x ∷ front) front) < length (cond b (x ∷ other) other)
shorter_here x true b front other out within le = absurd (let no : true ≡ false = out in cc)
shorter_here x false true front other out within le = omega (arith, le)
shorter_here x false false front other out within le = absurd (let no : false ≡ true = within in cc)

fewer_or_same : {X : Type 0} (p q : X → Bool) (xs : List X) → ((x : X) → p x ≡ true → q x ≡ true) → length (filter p xs) ≤ length (filter q xs)
fewer_or_same p q [] imp = omega arith
fewer_or_same p q (x ∷ xs) imp = no_longer x (p x) (q x) (filter p xs) (filter q xs) (imp x) (fewer_or_same p q xs imp)

fewer : {X : Type 0} (p q : X → Bool) (xs : List X) (k : ℕ) (d : X) → ((x : X) → p x ≡ true → q x ≡ true) → k < length xs → p (get_or xs k d) ≡ false → q (get_or xs k d) ≡ true → length (filter p xs) < length (filter q xs)
fewer p q [] k d imp lt out within = absurd (omega (arith, lt))
fewer p q (x ∷ xs) zero d imp lt out within = shorter_here x (p x) (q x) (filter p xs) (filter q xs) out within (fewer_or_same p q xs imp)
fewer p q (x ∷ xs) (suc k) d imp lt out within = shorter_on x (p x) (q x) (filter p xs) (filter q xs) (imp x) (fewer p q xs k d imp (omega (arith, lt)) out within)

higher : (bound : Option (Bor (List ℕ))) (top : Bor (List ℕ)) (key : List ℕ) → is_above bound top.now ≡ true → is_above (Some top) key ≡ true → is_above bound key ≡ true
higher None top key up above = refl
higher (Some bound) top key up above =
    above_from_below bound.now key (nat_list_cmp_total.trans bound.now top.now key (below_from_above bound.now top.now up) (below_from_above top.now key above))

pub fewer_above : (bound : Option (Bor (List ℕ))) (top : Bor (List ℕ)) (pairs : List Pair) → HasKey pairs top.now → is_above bound top.now ≡ true → number_above (Some top) pairs < number_above bound pairs
fewer_above bound top pairs has up =
    fewer (λ (p : Pair). is_above (Some top) p.0) (λ (p : Pair). is_above bound p.0) pairs has.0 has.1 (λ x above. higher bound top x.0 up above) has.2
    (ap (λ (p : Pair). is_gt (slice_cmp nat_cmp p.0 top.now)) has.3 ∙ ap (λ (k : List ℕ). is_gt (slice_cmp nat_cmp k top.now)) has.4 ∙ not_above_itself top.now)
    (ap (λ (p : Pair). is_above bound p.0) has.3 ∙ ap (λ (k : List ℕ). is_above bound k) has.4 ∙ up)

-- a pass more
pub once_up_to : (bound : Option (Bor (List ℕ))) (top : Bor (List ℕ)) (pairs : List Pair) → OnceUpTo bound pairs → OnceBetween bound (Some top) pairs → OnceUpTo (Some top) pairs
once_up_to bound top pairs before between i j d below within upto = by (is_above bound (get_or pairs i d).0) refl
  where
    by : (b : Bool) → is_above bound (get_or pairs i d).0 ≡ b → (get_or pairs i d).0 ≢ (get_or pairs j d).0
    by true is = between i j d below within is upto
    by false is = before i j d below within is

-- ---- what a key more does to a window

-- a pair more has the keys that were there
has_more : (seen : List Pair) (item : Pair) (key : List ℕ) → HasKey seen key → HasKey (seen ++ item ∷ []) key
has_more seen item key has = (has.0, has.1, omega (arith, length-append seen (item ∷ []), has.2), get_or_append_left seen (item ∷ []) has.1 has.0 has.2 ∙ has.3, has.4)

-- a key that is held is above the bound
held_above : (bytes : List ℕ) (bound : Option (Bor (List ℕ))) (seen : List Pair) (w : Window) (key : List ℕ) → Sifts bytes bound seen w → IsHeld bytes w key → is_above bound key ≡ true
held_above bytes bound seen w key sifts held =
    subst (λ (k : List ℕ). is_above bound k ≡ true) held.4 (subst (λ (p : ℕ). is_above bound (text_bytes bytes p) ≡ true) held.3 (sifts.above_bound held.0 held.1 held.2))

-- a key that isn't above the bound
pub sifts_below : (bytes : List ℕ) (bound : Option (Bor (List ℕ))) (seen : List Pair) (w : Window) (key value : List ℕ) → is_above bound key ≡ false → Sifts bytes bound seen w → Sifts bytes bound (seen ++ (key, value) ∷ []) w
sifts_below bytes bound seen w key value below sifts = record {
  seen_before = λ k d lt. has_more seen (key, value) (text_bytes bytes (get_or (kept_places w) k d)) (sifts.seen_before k d lt);
  above_bound = sifts.above_bound;
  smallest = All-push (λ (s : Pair). is_above bound s.0 ≡ true → IsHeld bytes w s.0 ⊎ IsBeyond bytes w s.0) seen (key, value) sifts.smallest (λ above. absurd (let no : true ≡ false = sym above ∙ below in cc));
  once = AllPairs-push (λ (s t : Pair). IsHeld bytes w s.0 → s.0 ≢ t.0) seen (key, value) sifts.once
      (λ k d lt held same. absurd (let no : true ≡ false = sym (held_above bytes bound seen w (get_or seen k d).0 sifts held) ∙ ap (λ (x : List ℕ). is_above bound x) same ∙ below in cc));
}

-- a key that stands in a window was seen
pub held_is_seen : (bytes : List ℕ) (bound : Option (Bor (List ℕ))) (seen : List Pair) (w : Window) (key : List ℕ) → Sifts bytes bound seen w → IsHeld bytes w key → HasKey seen key
held_is_seen bytes bound seen w key sifts held =
    subst (HasKey seen) held.4 (subst (λ (p : ℕ). HasKey seen (text_bytes bytes p)) held.3 (sifts.seen_before held.0 held.1 held.2))

-- a key that belongs somewhere doesn't stand there
not_held : (bytes places key : List ℕ) (i : ℕ) → BelongsAt bytes places key i → Any (λ p. text_bytes bytes p ≡ key) places → ⊥
not_held bytes places key i belongs any = elim (cases_lt any.0 i) [
  | inl before ↦ never_below_itself key (move (λ (x : List ℕ). IsBelow x key) (belongs.before any.0 any.1 (omega arith) before))
  | inr from ↦ never_below_itself key (move (λ (x : List ℕ). IsBelow key x) (belongs.behind any.0 any.1 from any.2))
]
  where
    move : (P : List ℕ → Type 0) → P (text_bytes bytes (get_or places any.0 any.1)) → P key
    move P there = subst P any.4 (subst (λ (p : ℕ). P (text_bytes bytes p)) any.3 there)

-- a key that is in a window's range and doesn't stand there is new
new_in_range : (bytes : List ℕ) (bound : Option (Bor (List ℕ))) (seen : List Pair) (w : Window) (key : List ℕ) (i : ℕ) → (w.passed ≡ true → i < length (kept_places w)) → is_above bound key ≡ true → BelongsAt bytes (kept_places w) key i → Sifts bytes bound seen w → LacksKey seen key
new_in_range bytes bound seen w key i range above belongs sifts k d lt same =
    by (subst (λ (x : List ℕ). IsHeld bytes w x ⊎ IsBeyond bytes w x) same (sifts.smallest k d lt (ap (λ (x : List ℕ). is_above bound x) same ∙ above)))
  where
    by : IsHeld bytes w key ⊎ IsBeyond bytes w key → ⊥
    by (inl held) = not_held bytes (kept_places w) key i belongs held
    by (inr beyond) =
        let lt_i : i < length (kept_places w) = range beyond.passed in
        never_below_itself key (nat_list_cmp_total.trans key (text_bytes bytes (get_or (kept_places w) i 0)) key (belongs.behind i 0 (omega arith) lt_i) (beyond.above i 0 lt_i))

-- a key above all in a full window passes by
pub sifts_beyond : (bytes : List ℕ) (bound : Option (Bor (List ℕ))) (seen : List Pair) (w v : Window) (key value : List ℕ) → kept_places v ≡ kept_places w → v.passed ≡ true → BelongsAt bytes (kept_places w) key (length (kept_places w)) → Sifts bytes bound seen w → Sifts bytes bound (seen ++ (key, value) ∷ []) v
sifts_beyond bytes bound seen w v key value same passed belongs sifts = record {
  seen_before = subst (λ (l : List ℕ). All (λ p. HasKey (seen ++ (key, value) ∷ []) (text_bytes bytes p)) l) (sym same) (λ k d lt. has_more seen (key, value) (text_bytes bytes (get_or (kept_places w) k d)) (sifts.seen_before k d lt));
  above_bound = subst (λ (l : List ℕ). All (λ p. is_above bound (text_bytes bytes p) ≡ true) l) (sym same) sifts.above_bound;
  smallest = All-push (λ (s : Pair). is_above bound s.0 ≡ true → IsHeld bytes v s.0 ⊎ IsBeyond bytes v s.0) seen (key, value)
      (λ k d lt above. still (get_or seen k d).0 (sifts.smallest k d lt above))
      (λ above. inr (beyond key all_below));
  once = AllPairs-push (λ (s t : Pair). IsHeld bytes v s.0 → s.0 ≢ t.0) seen (key, value)
      (λ j k d below lt held. sifts.once j k d below lt (back (get_or seen j d).0 held))
      (λ k d lt held is. not_held bytes (kept_places w) key (length (kept_places w)) belongs (subst (IsHeld bytes w) is (back (get_or seen k d).0 held)));
}
  where
    all_below : All (λ p. IsBelow (text_bytes bytes p) key) (kept_places w)
    all_below k d lt = belongs.before k d (omega arith) lt

    beyond : (k : List ℕ) → All (λ p. IsBelow (text_bytes bytes p) k) (kept_places w) → IsBeyond bytes v k
    beyond k all = record { passed = passed; above = subst (λ (l : List ℕ). All (λ p. IsBelow (text_bytes bytes p) k) l) (sym same) all }

    back : (k : List ℕ) → IsHeld bytes v k → IsHeld bytes w k
    back k held = subst (λ (l : List ℕ). Any (λ p. text_bytes bytes p ≡ k) l) same held

    still : (k : List ℕ) → IsHeld bytes w k ⊎ IsBeyond bytes w k → IsHeld bytes v k ⊎ IsBeyond bytes v k
    still k (inl held) = inl (subst (λ (l : List ℕ). Any (λ p. text_bytes bytes p ≡ k) l) (sym same) held)
    still k (inr past) = inr (beyond k past.above)

-- a place that was put into a window, of which the last went where it was full
pub record PutInto (w v : Window) (i place : ℕ) : Type 0 where
  pub places : length w.places ≡ window_room
  pub places_then : length v.places ≡ window_room
  pub index : i < window_room
  pub size : v.len ≡ min w.len (window_room - 1) + 1
  pub kept_is : kept_places v ≡ insert (take (min w.len (window_room - 1)) w.places) i place
  pub full : v.passed ≡ true → w.len ≡ window_room
  pub passed : w.len ≡ window_room → v.passed ≡ true

-- the places that stayed
abbrev stayed : Window → List ℕ
stayed w = take (min w.len (window_room - 1)) w.places

stayed_size : (w v : Window) (i place : ℕ) → PutInto w v i place → length (stayed w) ≡ min w.len (window_room - 1)
stayed_size w v i place put = length-take-le (min w.len (window_room - 1)) w.places (omega (arith, put.places))

-- those are the first of what was kept
stayed_is : (w : Window) → stayed w ≡ take (min w.len (window_room - 1)) (kept_places w)
stayed_is w = sym (take-take (min w.len (window_room - 1)) w.len w.places (omega arith))

pub kept_size : (w : Window) → w.len ≤ window_room → length w.places ≡ window_room → length (kept_places w) ≡ w.len
kept_size w fits places = length-take-le w.len w.places (omega (arith, places))

belongs_there : (bytes : List ℕ) (w v : Window) (key : List ℕ) (i place : ℕ) → PutInto w v i place → w.len ≤ window_room → BelongsAt bytes (kept_places w) key i → BelongsAt bytes (stayed w) key i
belongs_there bytes w v key i place put fits belongs =
    let size = stayed_size w v i place put in
    let all = kept_size w fits put.places in
    record {
      within = omega (arith, size, all, belongs.within, put.index);
      before = λ k d least lt. subst (λ (p : ℕ). IsBelow (text_bytes bytes p) key) (sym (in_both k d (omega (arith, size, belongs.within, put.index, all)))) (belongs.before k d least lt);
      behind = λ k d from lt. subst (λ (p : ℕ). IsBelow key (text_bytes bytes p)) (sym (in_both k d (omega (arith, size)))) (belongs.behind k d from (omega (arith, size, all)));
    }
  where
    in_both : (k d : ℕ) → k < min w.len (window_room - 1) → get_or (stayed w) k d ≡ get_or (kept_places w) k d
    in_both k d lt = get_or-take (min w.len (window_room - 1)) w.places k d lt ∙ sym (get_or-take w.len w.places k d (omega (arith, lt)))

-- a window with a place more is one
pub window_more : (bytes : List ℕ) (w v : Window) (key : List ℕ) (i place : ℕ) → key ≡ text_bytes bytes place → TextThere bytes place → IsWindow bytes w → BelongsAt bytes (kept_places w) key i → PutInto w v i place → IsWindow bytes v
window_more bytes w v key i place key_is there window belongs put =
    let inside = belongs_there bytes w v key i place put window.fits belongs in
    record {
      places = put.places_then;
      fits = omega (arith, put.size);
      full = λ passed. (let was : w.len ≡ window_room = put.full passed in omega (arith, put.size, was));
      texts = subst (All (TextThere bytes)) (sym put.kept_is)
          (All-insert (TextThere bytes) (stayed w) i place inside.within (subst (All (TextThere bytes)) (sym (stayed_is w)) (All-take (TextThere bytes) (min w.len (window_room - 1)) (kept_places w) window.texts)) there);
      order = subst (KeysGoUp bytes) (sym put.kept_is)
          (goes_up_more bytes (stayed w) i place (subst (λ (k : List ℕ). BelongsAt bytes (stayed w) k i) key_is inside) (subst (KeysGoUp bytes) (sym (stayed_is w)) (goes_up_front bytes (min w.len (window_room - 1)) (kept_places w) window.order)));
    }
  where
    goes_up_front : (bytes : List ℕ) (n : ℕ) (places : List ℕ) → KeysGoUp bytes places → KeysGoUp bytes (take n places)
    goes_up_front bytes n places order j k d below lt =
        let size = length-take n places in
        rw (get_or-take n places j d (omega (arith, size)), get_or-take n places k d (omega (arith, size))) (order j k d below (omega (arith, size)))

-- so is a pair more with a key that was put into the window
pub sifts_more : (bytes : List ℕ) (bound : Option (Bor (List ℕ))) (seen : List Pair) (w v : Window) (key value : List ℕ) (i place : ℕ) → key ≡ text_bytes bytes place → is_above bound key ≡ true → IsWindow bytes w → BelongsAt bytes (kept_places w) key i → PutInto w v i place → Sifts bytes bound seen w → Sifts bytes bound (seen ++ (key, value) ∷ []) v
sifts_more bytes bound seen w v key value i place key_is above window belongs put sifts = record {
  seen_before = put_all (λ (p : ℕ). HasKey (seen ++ (key, value) ∷ []) (text_bytes bytes p)) (λ k d lt. has_more seen (key, value) (text_bytes bytes (get_or (kept_places w) k d)) (sifts.seen_before k d lt))
      (Any-push (λ (p : Pair). p.0 ≡ text_bytes bytes place) seen (key, value) key_is);
  above_bound = put_all (λ (p : ℕ). is_above bound (text_bytes bytes p) ≡ true) sifts.above_bound (subst (λ (k : List ℕ). is_above bound k ≡ true) key_is above);
  smallest = All-push (λ (s : Pair). is_above bound s.0 ≡ true → IsHeld bytes v s.0 ⊎ IsBeyond bytes v s.0) seen (key, value)
      (λ k d lt up. still (get_or seen k d).0 (sifts.smallest k d lt up))
      (λ up. inl (put_any key (Any-inserted (λ (p : ℕ). text_bytes bytes p ≡ key) (stayed w) i place inside.within (sym key_is))));
  once = AllPairs-push (λ (s t : Pair). IsHeld bytes v s.0 → s.0 ≢ t.0) seen (key, value)
      (λ j k d below lt held. by_held j k d below lt (Any-insert_cases (λ (p : ℕ). text_bytes bytes p ≡ (get_or seen j d).0) (stayed w) i place inside.within (subst (Any (λ (p : ℕ). text_bytes bytes p ≡ (get_or seen j d).0)) put.kept_is held)))
      (λ k d lt held. new k d lt);
}
  where
    inside : BelongsAt bytes (stayed w) key i
    inside = belongs_there bytes w v key i place put window.fits belongs

    room : ℕ
    room = min w.len (window_room - 1)

    size : length (stayed w) ≡ min w.len (window_room - 1)
    size = stayed_size w v i place put

    all_size : length (kept_places w) ≡ w.len
    all_size = kept_size w window.fits put.places

    in_both : (k d : ℕ) → k < min w.len (window_room - 1) → get_or (stayed w) k d ≡ get_or (kept_places w) k d
    in_both k d lt = get_or-take (min w.len (window_room - 1)) w.places k d lt ∙ sym (get_or-take w.len w.places k d (omega (arith, lt)))

    put_all : (P : ℕ → Type 0) → All P (kept_places w) → P place → All P (kept_places v)
    put_all P all here = subst (All P) (sym put.kept_is)
        (All-insert P (stayed w) i place inside.within (subst (All P) (sym (stayed_is w)) (All-take P (min w.len (window_room - 1)) (kept_places w) all)) here)

    put_any : (k : List ℕ) → Any (λ p. text_bytes bytes p ≡ k) (insert (stayed w) i place) → IsHeld bytes v k
    put_any k any = subst (Any (λ p. text_bytes bytes p ≡ k)) (sym put.kept_is) any

    new : LacksKey seen key
    new = new_in_range bytes bound seen w key i (λ passed. (let full : w.len ≡ window_room = window.full passed in omega (arith, full, all_size, put.index))) above belongs sifts

    beyond : (k : List ℕ) → w.len ≡ window_room → All (λ p. IsBelow (text_bytes bytes p) k) (stayed w) → IsBelow key k → IsBeyond bytes v k
    beyond k full all below = record {
      passed = put.passed full;
      above = subst (All (λ p. IsBelow (text_bytes bytes p) k)) (sym put.kept_is)
          (All-insert (λ p. IsBelow (text_bytes bytes p) k) (stayed w) i place inside.within all (subst (λ (x : List ℕ). IsBelow x k) key_is below));
    }

    still : (k : List ℕ) → IsHeld bytes w k ⊎ IsBeyond bytes w k → IsHeld bytes v k ⊎ IsBeyond bytes v k
    still k (inl held) = elim (cases_lt held.0 (min w.len (window_room - 1))) [
      | inl within ↦ inl (put_any k (Any-insert (λ (p : ℕ). text_bytes bytes p ≡ k) (stayed w) i place inside.within (held.0, held.1, omega (arith, size, within), in_both held.0 held.1 within ∙ held.3, held.4)))
      | inr out ↦
          let there : (d : ℕ) → text_bytes bytes (get_or (kept_places w) held.0 d) ≡ k = λ d. ap (text_bytes bytes) (get_or_default (kept_places w) held.0 d held.1 held.2 ∙ held.3) ∙ held.4 in
          inr (beyond k (omega (arith, out, held.2, all_size, window.fits))
          (λ j d lt. rw (in_both j d (omega (arith, lt, size)), ← there d) (window.order j held.0 d (omega (arith, lt, size, out)) held.2))
          (subst (IsBelow key) (there 0) (belongs.behind held.0 0 (omega (arith, out, held.2, all_size, window.fits, put.index)) held.2)))
    ]
    still k (inr past) =
        let full : w.len ≡ window_room = window.full past.passed in
        let lt : i < length (kept_places w) = omega (arith, full, all_size, put.index) in
        inr (beyond k full
        (subst (All (λ p. IsBelow (text_bytes bytes p) k)) (sym (stayed_is w)) (All-take (λ p. IsBelow (text_bytes bytes p) k) (min w.len (window_room - 1)) (kept_places w) past.above))
        (nat_list_cmp_total.trans key (text_bytes bytes (get_or (kept_places w) i 0)) k (belongs.behind i 0 (omega arith) lt) (past.above i 0 lt)))

    by_held : (j k : ℕ) (d : Pair) → j < k → k < length seen → (text_bytes bytes place ≡ (get_or seen j d).0) ⊎ Any (λ p. text_bytes bytes p ≡ (get_or seen j d).0) (stayed w) → (get_or seen j d).0 ≢ (get_or seen k d).0
    by_held j k d below lt (inl is) = λ same. new j d (omega (arith, below, lt)) (sym is ∙ sym key_is)
    by_held j k d below lt (inr any) =
        sifts.once j k d below lt (any.0, any.1, omega (arith, any.2, size, all_size), sym (in_both any.0 any.1 (omega (arith, any.2, size))) ∙ any.3, any.4)

-- ---- what a pass shows

-- where no key was passed by
pub last_pass : (bytes : List ℕ) (bound : Option (Bor (List ℕ))) (pairs : List Pair) (w : Window) → w.passed ≡ false → Sifts bytes bound pairs w → AllPairs (λ p q. is_above bound p.0 ≡ true → p.0 ≢ q.0) pairs
last_pass bytes bound pairs w none sifts i j d below lt above = by (sifts.smallest i d (omega (arith, below, lt)) above)
  where
    by : IsHeld bytes w (get_or pairs i d).0 ⊎ IsBeyond bytes w (get_or pairs i d).0 → (get_or pairs i d).0 ≢ (get_or pairs j d).0
    by (inl held) = sifts.once i j d below lt held
    by (inr beyond) = absurd (let no : true ≡ false = sym beyond.passed ∙ none in cc)

-- where some were
pub pass_up : (bytes : List ℕ) (bound : Option (Bor (List ℕ))) (pairs : List Pair) (w : Window) (top : Bor (List ℕ)) → w.passed ≡ true → top.now ≡ text_bytes bytes (get_or w.places (window_room - 1) 0) → IsWindow bytes w → Sifts bytes bound pairs w → OnceBetween bound (Some top) pairs × HasKey pairs top.now × (is_above bound top.now ≡ true)
pass_up bytes bound pairs w top passed top_is window sifts = (between, has, up)
  where
    full : w.len ≡ window_room
    full = window.full passed

    lt : window_room - 1 < length (kept_places w)
    lt = omega (arith, full, kept_size w window.fits window.places)

    last : (d : ℕ) → text_bytes bytes (get_or (kept_places w) (window_room - 1) d) ≡ top.now
    last d = ap (text_bytes bytes) (get_or-take w.len w.places (window_room - 1) d (omega (arith, full)) ∙ get_or_default w.places (window_room - 1) d 0 (omega (arith, window.places))) ∙ sym top_is

    has : HasKey pairs top.now
    has = subst (HasKey pairs) (last 0) (sifts.seen_before (window_room - 1) 0 lt)

    up : is_above bound top.now ≡ true
    up = subst (λ (k : List ℕ). is_above bound k ≡ true) (last 0) (sifts.above_bound (window_room - 1) 0 lt)

    between : OnceBetween bound (Some top) pairs
    between i j d below within above upto = by (sifts.smallest i d (omega (arith, below, within)) above)
      where
        by : IsHeld bytes w (get_or pairs i d).0 ⊎ IsBeyond bytes w (get_or pairs i d).0 → (get_or pairs i d).0 ≢ (get_or pairs j d).0
        by (inl held) = sifts.once i j d below within held
        by (inr beyond) =
            let over : is_gt (slice_cmp nat_cmp (get_or pairs i d).0 top.now) ≡ true = above_from_below top.now (get_or pairs i d).0 (subst (λ (k : List ℕ). IsBelow k (get_or pairs i d).0) (last 0) (beyond.above (window_room - 1) 0 lt)) in
            absurd (let no : true ≡ false = sym over ∙ upto in cc)
