-- Entries that ascend by offset and then by time.
use Rattle.std.proofs.Common.{◌≡◌, ℕ, zero, suc, ◌+◌, ◌-◌, ◌<◌, Bool, true, false, cond, List, length, get_or, refl, sym, ap, subst, inl, inr, ◌∙◌, arith}
use Rattle.std.specs.Prelude.{◌==◌, nat_lt}
use Rattle.std.specs.declared.cmp.Ordering.TheVariants.{Less, Equal, Greater}
use Rattle.std.specs.List.{AllAdjacentBelow}
use Rattle.std.specs.Ordering.{nat_cmp, is_lt, ordering_then}
use Rattle.std.proofs.lemmas.Bool.{cases_lt, ltb-false, eqb-true, eqb-false}
use Rattle.mcap_model.specs.Places.{At}
use Rattle.mcap_model.proofs.Places.{at_one}
use Rattle.mcap_model.proofs.Lists.{pairs_at}
use Rattle.indexed_replay.specs.Steps.{EntryNotBehind, EntriesAscend}

abbrev pub Pair : Type 0
Pair = ℕ × ℕ

next : (a b c : Pair) → EntryNotBehind a b → EntryNotBehind b c → EntryNotBehind a c
next a b c (inl p) (inl q) = inl (omega (arith, p, q))
next a b c (inl p) (inr q) = inl (omega (arith, p, q.0))
next a b c (inr p) (inl q) = inl (omega (arith, p.0, q))
next a b c (inr p) (inr q) = inr (p.0 ∙ q.0, omega (arith, p.1, q.1))

far : (xs : List Pair) → AllAdjacentBelow {X = Pair} EntryNotBehind xs (length xs) → (i n : ℕ) (d : Pair) → suc (i + n) < length xs → EntryNotBehind (get_or xs i d) (get_or xs (suc (i + n)) d)
far xs order i zero d within =
    let is : i + 1 ≡ suc (i + 0) = omega arith in
    subst (λ (k : ℕ). EntryNotBehind (get_or xs i d) (get_or xs k d)) is (order i d (omega (arith, within)))
far xs order i (suc n) d within =
    let is : suc (i + n) + 1 ≡ suc (i + suc n) = omega arith in
    next (get_or xs i d) (get_or xs (suc (i + n)) d) (get_or xs (suc (i + suc n)) d) (far xs order i n d (omega (arith, within)))
    (subst (λ (k : ℕ). EntryNotBehind (get_or xs (suc (i + n)) d) (get_or xs k d)) is (order (suc (i + n)) d (omega (arith, within))))

-- where none comes behind the next, all ascend
pub all_ascend : (xs : List Pair) → AllAdjacentBelow {X = Pair} EntryNotBehind xs (length xs) → EntriesAscend xs
all_ascend xs order i j d less within =
    let is : suc (i + (j - suc i)) ≡ j = omega (arith, less) in
    subst (λ (k : ℕ). EntryNotBehind (get_or xs i d) (get_or xs k d)) is (far xs order i (j - suc i) d (omega (arith, within, less)))

not_so : true ≡ false → ⊥
not_so e = cc

-- what the order of the keys says
pub not_less : (s r : Pair) → is_lt (ordering_then (nat_cmp s.1 r.1) (nat_cmp s.0 r.0)) ≡ false → EntryNotBehind r s
not_less s r = by (nat_lt s.1 r.1) (s.1 == r.1) (nat_lt s.0 r.0) (s.0 == r.0) refl refl refl
  where
    by : (l e n g : Bool) → nat_lt s.1 r.1 ≡ l → (s.1 == r.1) ≡ e → nat_lt s.0 r.0 ≡ n
        → is_lt (ordering_then (cond l Less (cond e Equal Greater)) (cond n Less (cond g Equal Greater))) ≡ false → EntryNotBehind r s
    by true e n g l_is e_is n_is less = absurd (not_so less)
    by false false n g l_is e_is n_is less = inl (omega (arith, ltb-false s.1 r.1 l_is, eqb-false s.1 r.1 e_is))
    by false true true g l_is e_is n_is less = absurd (not_so less)
    by false true false g l_is e_is n_is less = inr (sym (eqb-true s.1 r.1 e_is), ltb-false s.0 r.0 n_is)

between : (e d : Pair) → EntryNotBehind e d → EntryNotBehind d e → (d.0 ≡ e.0) × (d.1 ≡ e.1)
between e d (inl p) (inl q) = absurd (omega (arith, p, q))
between e d (inl p) (inr q) = absurd (omega (arith, p, q.0))
between e d (inr p) (inl q) = absurd (omega (arith, p.0, q))
between e d (inr p) (inr q) = (omega (arith, p.1, q.1), sym p.0)

-- an entry that stands anywhere before stands directly before
pub directly_before : (entries : List Pair) (i j k : ℕ) (e last : Pair) → EntriesAscend entries → At {X = Pair} entries i e → i ≡ suc j → At {X = Pair} entries j last → k < i → At {X = Pair} entries k e → (last.0 ≡ e.0) × (last.1 ≡ e.1)
directly_before entries i j k e last ascend here next_is there less before = elim (cases_lt k j) [
  | inl front ↦ between e last (pairs_at {X = Pair} EntryNotBehind entries ascend k j e last front before there) (pairs_at {X = Pair} EntryNotBehind entries ascend j i last e (omega (arith, next_is)) there here)
  | inr back ↦
      let same : k ≡ j = omega (arith, back, less, next_is) in
      let one = at_one {X = Pair} entries j last e there (subst (λ (n : ℕ). At {X = Pair} entries n e) same before) in
      (ap (λ (p : Pair). p.0) one, ap (λ (p : Pair). p.1) one)
]
