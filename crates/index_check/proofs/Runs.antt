-- Messages by channel and offset, and those of one channel.
use Rattle.std.proofs.Common.{◌≡◌, ℕ, zero, suc, ◌+◌, ◌-◌, ◌<◌, ◌≤◌, Bool, true, false, List, [], ◌∷◌, length, get_or, take, drop, map, cond, refl, sym, ap, subst, inl, inr, ◌∙◌, arith}
use Rattle.std.specs.Prelude.{◌↔◌, ◌≢◌, ◌==◌, filter, nat_lt, AllPairs, IsPermutation}
use Rattle.std.specs.declared.cmp.Ordering.TheVariants.{Less, Equal, Greater}
use Rattle.std.specs.List.{AllAdjacentBelow, AllWithin}
use Rattle.std.specs.Ordering.{nat_cmp, is_lt, ordering_then}
use Rattle.std.proofs.lemmas.Bool.{ltb-true, ltb-false, lt-ltb, eqb-true, eqb-false, eq-eqb, ne_eqb, cases_lt}
use Rattle.std.proofs.lemmas.List.Kept.{AllPairs-filter}
use Rattle.std.proofs.lemmas.List.Sorted.{IsPermutation-sym}
use Rattle.mcap_model.specs.Places.{At, Has}
use Rattle.mcap_model.specs.Tops.{Top}
use Rattle.mcap_model.specs.Whole.{IsEntryOf}
use Rattle.mcap_model.proofs.Places.{at_read, at_within, at_one}
use Rattle.mcap_model.proofs.Lists.{pairs_at, pairs_from, filter_passed, filter_has}
use Rattle.mcap_model.proofs.ReadBack.{at_map}
use Rattle.mcap_model.proofs.Flat.{at_mapped}
use Rattle.mcap_scan.specs.declared.message_heads.MessageHead.{MessageHead}
use Rattle.index_check.specs.Entries.{ListsEntries, entry_offset}
use Rattle.index_check.specs.Messages.{entry_of, message_at_entry, ByChannelNotBehind, MessagesRise, HoldsMessages}
use Rattle.index_check.proofs.Apart.{apart_moved}
use Rattle.index_check.proofs.SortedEntries.{moved_has}

-- ---- order

next : (a b c : MessageHead) → ByChannelNotBehind a b → ByChannelNotBehind b c → ByChannelNotBehind a c
next a b c (inl p) (inl q) = inl (omega (arith, p, q))
next a b c (inl p) (inr q) = inl (omega (arith, p, q.0))
next a b c (inr p) (inl q) = inl (omega (arith, p.0, q))
next a b c (inr p) (inr q) = inr (p.0 ∙ q.0, omega (arith, p.1, q.1))

far : (xs : List MessageHead) → AllAdjacentBelow ByChannelNotBehind xs (length xs) → (i n : ℕ) (d : MessageHead) → suc (i + n) < length xs → ByChannelNotBehind (get_or xs i d) (get_or xs (suc (i + n)) d)
far xs order i zero d within =
    let is : i + 1 ≡ suc (i + 0) = omega arith in
    subst (λ (k : ℕ). ByChannelNotBehind (get_or xs i d) (get_or xs k d)) is (order i d (omega (arith, within)))
far xs order i (suc n) d within =
    let is : suc (i + n) + 1 ≡ suc (i + suc n) = omega arith in
    next (get_or xs i d) (get_or xs (suc (i + n)) d) (get_or xs (suc (i + suc n)) d) (far xs order i n d (omega (arith, within)))
    (subst (λ (k : ℕ). ByChannelNotBehind (get_or xs (suc (i + n)) d) (get_or xs k d)) is (order (suc (i + n)) d (omega (arith, within))))

-- where none comes behind the next, all rise
pub all_rise : (xs : List MessageHead) → AllAdjacentBelow ByChannelNotBehind xs (length xs) → MessagesRise xs
all_rise xs order i j d less within =
    let is : suc (i + (j - suc i)) ≡ j = omega (arith, less) in
    subst (λ (k : ℕ). ByChannelNotBehind (get_or xs i d) (get_or xs k d)) is (far xs order i (j - suc i) d (omega (arith, within, less)))

not_so : true ≡ false → ⊥
not_so e = cc

-- what the order of the keys says
pub not_less : (s r : MessageHead) → is_lt (ordering_then (nat_cmp s.channel r.channel) (nat_cmp s.offset r.offset)) ≡ false → ByChannelNotBehind r s
not_less s r = by (nat_lt s.channel r.channel) (s.channel == r.channel) (nat_lt s.offset r.offset) (s.offset == r.offset) refl refl refl
  where
    by : (l e n g : Bool) → nat_lt s.channel r.channel ≡ l → (s.channel == r.channel) ≡ e → nat_lt s.offset r.offset ≡ n
        → is_lt (ordering_then (cond l Less (cond e Equal Greater)) (cond n Less (cond g Equal Greater))) ≡ false → ByChannelNotBehind r s
    by true e n g l_is e_is n_is less = absurd (not_so less)
    by false false n g l_is e_is n_is less = inl (omega (arith, ltb-false s.channel r.channel l_is, eqb-false s.channel r.channel e_is))
    by false true true g l_is e_is n_is less = absurd (not_so less)
    by false true false g l_is e_is n_is less = inr (sym (eqb-true s.channel r.channel e_is), ltb-false s.offset r.offset n_is)

-- ---- those below a channel

pub parted : (xs : List MessageHead) (bound : ℕ) → MessagesRise xs → (i j : ℕ) (d : MessageHead) → i ≤ j → j < length xs → nat_lt (get_or xs j d).channel bound ≡ true → nat_lt (get_or xs i d).channel bound ≡ true
parted xs bound rises i j d few within early = by (i == j) refl
  where
    low : ByChannelNotBehind (get_or xs i d) (get_or xs j d) → nat_lt (get_or xs i d).channel bound ≡ true
    low (inl less) = lt-ltb (get_or xs i d).channel bound (omega (arith, less, ltb-true (get_or xs j d).channel bound early))
    low (inr same) = lt-ltb (get_or xs i d).channel bound (omega (arith, same.0, ltb-true (get_or xs j d).channel bound early))

    by : (b : Bool) → (i == j) ≡ b → nat_lt (get_or xs i d).channel bound ≡ true
    by true is = subst (λ (k : ℕ). nat_lt (get_or xs k d).channel bound ≡ true) (sym (eqb-true i j is)) early
    by false is = low (rises i j d (omega (arith, few, eqb-false i j is)) within)

within_at : {X : Type 0} (P : X → Type 0) (xs : List X) (from to : ℕ) → AllWithin P xs from to → (k : ℕ) (x : X) → At xs k x → from ≤ k → k < to → P x
within_at P xs from to each k x at low high = subst P (at_one xs k (get_or xs k x) x (at_read xs k x (at_within xs k x at)) at) (each k x low high)

-- a place that parts them
pub parts_at : (xs : List MessageHead) (bound place : ℕ) → AllWithin (λ y. nat_lt y.channel bound ≡ true) xs 0 place → AllWithin (λ y. nat_lt y.channel bound ≡ false) xs place (length xs)
    → (k : ℕ) (heard : MessageHead) → At xs k heard → (k < place) ↔ (heard.channel < bound)
parts_at xs bound place early late k heard at = (
  λ less. ltb-true heard.channel bound (within_at (λ (y : MessageHead). nat_lt y.channel bound ≡ true) xs 0 place early k heard at (omega arith) less),
  λ below. elim (cases_lt k place) [
    | inl less ↦ less
    | inr past ↦
        let within = at_within xs k heard at in
        let above = ltb-false heard.channel bound (within_at (λ (y : MessageHead). nat_lt y.channel bound ≡ false) xs place (length xs) late k heard at past within) in
        absurd (omega (arith, below, above))
  ],
)

-- ---- those of a channel

-- those pass a test that stand at some place and the next ones
filter_between : {X : Type 0} (test : X → Bool) (xs : List X) (from n : ℕ) → from + n ≤ length xs
    → ((k : ℕ) (x : X) → At xs k x → k < from → test x ≡ false) → ((k : ℕ) (x : X) → At xs k x → from ≤ k → k < from + n → test x ≡ true) → ((k : ℕ) (x : X) → At xs k x → from + n ≤ k → test x ≡ false)
    → take n (drop from xs) ≡ filter test xs
filter_between test [] zero zero few before among behind = refl
filter_between test [] zero (suc n) few before among behind = absurd (omega (arith, few))
filter_between test [] (suc from) n few before among behind = absurd (omega (arith, few))
filter_between {X} test (x ∷ xs) zero zero few before among behind =
    filter_between test xs 0 0 (omega arith) (λ k y at less. absurd (omega (arith, less))) (λ k y at low high. absurd (omega (arith, high))) (λ k y at past. behind (suc k) y at (omega (arith, past)))
    ∙ ap (λ (b : Bool). cond b (x ∷ filter test xs) (filter test xs)) (sym (behind 0 x refl (omega arith)))
filter_between {X} test (x ∷ xs) zero (suc n) few before among behind =
    ap (λ (l : List X). x ∷ l)
    (filter_between test xs 0 n (omega (arith, few)) (λ k y at less. absurd (omega (arith, less))) (λ k y at low high. among (suc k) y at (omega arith) (omega (arith, high))) (λ k y at past. behind (suc k) y at (omega (arith, past))))
    ∙ ap (λ (b : Bool). cond b (x ∷ filter test xs) (filter test xs)) (sym (among 0 x refl (omega arith) (omega arith)))
filter_between {X} test (x ∷ xs) (suc from) n few before among behind =
    filter_between test xs from n (omega (arith, few)) (λ k y at less. before (suc k) y at (omega (arith, less))) (λ k y at low high. among (suc k) y at (omega (arith, low)) (omega (arith, high))) (λ k y at past. behind (suc k) y at (omega (arith, past)))
    ∙ ap (λ (b : Bool). cond b (x ∷ filter test xs) (filter test xs)) (sym (before 0 x refl (omega arith)))

module _ (xs : List MessageHead) (channel from to : ℕ) (within : from ≤ length xs) (fits : to ≤ length xs)
    (below : (k : ℕ) (heard : MessageHead) → At xs k heard → (k < from) ↔ (heard.channel < channel))
    (through : (k : ℕ) (heard : MessageHead) → At xs k heard → (k < to) ↔ (heard.channel < channel + 1)) where
  pub run_rises : from ≤ to
  run_rises = elim (cases_lt to from) [
    | inl less ↦
        let heard = get_or xs to (message_at_entry 0 (0, 0)) in
        let at : At xs to heard = at_read xs to (message_at_entry 0 (0, 0)) (omega (arith, less, within)) in
        let few = (below to heard at).0 less in
        let before = (through to heard at).1 (omega (arith, few)) in
        absurd (omega (arith, before))
    | inr rises ↦ rises
  ]

  pub run_is : take (to - from) (drop from xs) ≡ filter (λ heard. heard.channel == channel) xs
  run_is =
      let rises = run_rises in
      filter_between (λ heard. heard.channel == channel) xs from (to - from) (omega (arith, fits, rises))
      (λ k heard at less. ne_eqb heard.channel channel (let few = (below k heard at).0 less in λ e. omega (arith, few, e)))
      (λ k heard at low high. eq-eqb heard.channel channel (let few = (through k heard at).0 (omega (arith, high, rises)) in
      let many : heard.channel < channel → ⊥ = λ less. (let before = (below k heard at).1 less in omega (arith, before, low)) in
      omega (arith, few, many)))
      (λ k heard at past. ne_eqb heard.channel channel (λ e. let before = (through k heard at).1 (omega (arith, e)) in omega (arith, before, past, rises)))

pub run_still_rises : (xs run : List MessageHead) (channel : ℕ) → MessagesRise xs → run ≡ filter (λ heard. heard.channel == channel) xs → MessagesRise run
run_still_rises xs run channel rises is = subst MessagesRise (sym is) (AllPairs-filter ByChannelNotBehind (λ (h : MessageHead). h.channel == channel) xs rises)

-- ---- the entries of a channel

-- messages that are put in another order
pub holds_moved : (records : List Top) (xs ys : List MessageHead) → IsPermutation xs ys → HoldsMessages records xs → HoldsMessages records ys
holds_moved records xs ys moved was = record {
  are = λ heard has. was.are heard (moved_has ys xs heard (IsPermutation-sym xs ys moved) has);
  all = λ channel entry is. moved_has xs ys (message_at_entry channel entry) moved (was.all channel entry is);
  once = apart_moved (λ (heard : MessageHead). heard.offset) xs ys moved was.once;
}

on_one : (channel : ℕ) (a b : MessageHead) → a.channel ≡ channel → b.channel ≡ channel → ByChannelNotBehind a b → a.offset ≢ b.offset → a.offset < b.offset
on_one channel a b first second (inl less) differ = absurd (omega (arith, first, second, less))
on_one channel a b first second (inr same) differ = omega (arith, same.1, differ)

-- those of a channel, in order, give the entries of its Message Index
pub lists_run : (records : List Top) (messages run : List MessageHead) (channel : ℕ) → HoldsMessages records messages → MessagesRise run → run ≡ filter (λ heard. heard.channel == channel) messages → ListsEntries records channel (map entry_of run)
lists_run records messages run channel holds rises is = record {
  are = λ entry has.
      let (heard, at, same) = at_map entry_of run has.0 entry has.1 in
      let passed = passes has.0 heard at in
      subst {A = ℕ × ℕ} (λ e. IsEntryOf records channel e) (sym same) (subst (λ (n : ℕ). IsEntryOf records n (entry_of heard)) passed.1 (holds.are heard passed.0));
  all = λ entry is_entry.
      let has = holds.all channel entry is_entry in
      let there = filter_has on messages has.0 (message_at_entry channel entry) has.1 (eq-eqb channel channel refl) in
      (there.0, at_mapped entry_of run there.0 (message_at_entry channel entry) (subst (λ (l : List MessageHead). At l there.0 (message_at_entry channel entry)) (sym is) there.1));
  rises = pairs_from (λ (x y : ℕ × ℕ). entry_offset x < entry_offset y) (map entry_of run) (λ i j x y less at other.
      let (a, at_a, same_a) = at_map entry_of run i x at in
      let (b, at_b, same_b) = at_map entry_of run j y other in
      let up = on_one channel a b (passes i a at_a).1 (passes j b at_b).1 (pairs_at ByChannelNotBehind run rises i j a b less at_a at_b) (pairs_at (λ (p q : MessageHead). p.offset ≢ q.offset) run apart i j a b less at_a at_b) in
      omega (arith, up, ap (λ (e : ℕ × ℕ). e.1) same_a, ap (λ (e : ℕ × ℕ). e.1) same_b));
}
  where
    on : MessageHead → Bool
    on heard = heard.channel == channel

    passes : (k : ℕ) (heard : MessageHead) → At run k heard → Has messages heard × (heard.channel ≡ channel)
    passes k heard at =
        let passed = filter_passed (λ (h : MessageHead). h.channel == channel) messages k heard (subst (λ (l : List MessageHead). At l k heard) is at) in
        (passed.0, eqb-true heard.channel channel passed.1)

    apart : AllPairs (λ p q. p.offset ≢ q.offset) run
    apart = subst (AllPairs (λ (p q : MessageHead). p.offset ≢ q.offset)) (sym is) (AllPairs-filter (λ (p q : MessageHead). p.offset ≢ q.offset) (λ (h : MessageHead). h.channel == channel) messages holds.once)
