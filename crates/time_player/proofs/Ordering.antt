-- Messages in their order, each once.
use Rattle.std.proofs.Common.{◌≡◌, ◌⊎◌, zero, suc, Bool, true, false, cond, List, [], ◌∷◌, refl, sym, ap, subst, inl, inr, ◌∙◌, arith}
use Rattle.std.specs.Prelude.{AllPairs, ◌==◌, ◌&&◌, IsPermutation}
use Rattle.std.specs.Bool.{Decides}
use Rattle.std.specs.List.{dedup, dedup_from}
use Rattle.std.proofs.lemmas.Bool.{cases_lt, both_ways}
use Rattle.std.proofs.lemmas.Bool.Decides.{Decides-eqb, Decides-and}
use Rattle.std.proofs.lemmas.List.Sorted.{Contains-permutation, IsPermutation-sym}
use Rattle.std.proofs.lemmas.Option.{same_Some}
use Rattle.mcap_model.specs.declared.replay.Shown.{Shown}
use Rattle.mcap_model.specs.Places.{Has}
use Rattle.mcap_model.specs.Scan.{ComesBefore}
use Rattle.mcap_model.specs.Plain.{NotBehind, InOrder}
use Rattle.mcap_model.proofs.Places.{at_none}
use Rattle.mcap_model.proofs.Lists.{pairs_at, pairs_from, pairs_cons}
use Rattle.mcap_model.proofs.NamedTopics.{contained, has_there}
use Rattle.mcap_model.proofs.Replays.{order_pairs}
use Rattle.time_player.specs.Heads.{same_place}
use Rattle.time_player.specs.Ordering.{led_as, IsOrdered}

abbrev Before : Shown → Shown → Type 0
Before s r = ComesBefore (led_as s) (led_as r)

-- ---- one time and place

abbrev Same : Shown → Shown → Type 0
Same s r = (s.log_time ≡ r.log_time) × ((s.place.top ≡ r.place.top) × (s.place.inner ≡ r.place.inner))

pub same_decided : (s r : Shown) → Decides (same_place s r) (Same s r)
same_decided s r =
    Decides-and (s.log_time == r.log_time) ((s.place.top == r.place.top) && (s.place.inner == r.place.inner)) (Decides-eqb s.log_time r.log_time)
    (Decides-and (s.place.top == r.place.top) (s.place.inner == r.place.inner) (Decides-eqb s.place.top r.place.top) (Decides-eqb s.place.inner r.place.inner))

same_again : (s : Shown) → same_place s s ≡ true
same_again s = (same_decided s s).1 (refl, (refl, refl))

same_over : (s r q : Shown) → same_place s r ≡ true → same_place r q ≡ true → same_place s q ≡ true
same_over s r q one other =
    let a = (same_decided s r).0 one in
    let b = (same_decided r q).0 other in
    (same_decided s q).1 (a.0 ∙ b.0, (a.1.0 ∙ b.1.0, a.1.1 ∙ b.1.1))

strictly : (k x : Shown) → NotBehind k x → same_place x k ≡ false → Before k x
strictly k x (inl p) apart = inl p
strictly k x (inr (e, inl p)) apart = inr (e, inl p)
strictly k x (inr (e, inr p)) apart = elim (cases_lt k.place.inner x.place.inner) [
  | inl less ↦ inr (e, inr (p.0, less))
  | inr more ↦ let inner : x.place.inner ≡ k.place.inner = omega (arith, more, p.1) in absurd (both_ways (same_place x k) apart ((same_decided x k).1 (sym e, (sym p.0, inner))))
]

still_before : (j k s : Shown) → Before j k → NotBehind k s → Before j s
still_before j k s (inl p) (inl q) = inl (omega (arith, p, q))
still_before j k s (inl p) (inr q) = inl (omega (arith, p, q.0))
still_before j k s (inr p) (inl q) = inl (omega (arith, p.0, q))
still_before j k s (inr (e, inl p)) (inr (f, inl q)) = inr (e ∙ f, inl (omega (arith, p, q)))
still_before j k s (inr (e, inl p)) (inr (f, inr q)) = inr (e ∙ f, inl (omega (arith, p, q.0)))
still_before j k s (inr (e, inr p)) (inr (f, inl q)) = inr (e ∙ f, inl (omega (arith, p.0, q)))
still_before j k s (inr (e, inr p)) (inr (f, inr q)) = inr (e ∙ f, inr (p.0 ∙ q.0, omega (arith, p.1, q.1)))

-- ---- what stays

record Stay (k : Shown) (xs ys : List Shown) : Type 0 where
  rises : AllPairs Before ys
  are : (s : Shown) → Has ys s → Has (k ∷ xs) s
  all : (s : Shown) → Has (k ∷ xs) s → (r : Shown) × Has ys r × (same_place s r ≡ true)

first_or : (x : Shown) (xs : List Shown) (z : Shown) → Has (x ∷ xs) z → (z ≡ x) ⊎ Has xs z
first_or x xs z (zero, at) = inl (same_Some z x (sym at))
first_or x xs z (suc n, at) = inr (n, at)

rest_pairs : (x : Shown) (xs : List Shown) → AllPairs NotBehind (x ∷ xs) → AllPairs NotBehind xs
rest_pairs x xs pairs = pairs_from NotBehind xs (λ i j a b less at_a at_b. pairs_at NotBehind (x ∷ xs) pairs (suc i) (suc j) a b (omega (arith, less)) at_a at_b)

skip_pairs : (k x : Shown) (xs : List Shown) → AllPairs NotBehind (k ∷ (x ∷ xs)) → AllPairs NotBehind (k ∷ xs)
skip_pairs k x xs pairs = pairs_cons NotBehind k xs (λ n s at. pairs_at NotBehind (k ∷ (x ∷ xs)) pairs 0 (suc (suc n)) k s (omega arith) refl at) (rest_pairs x xs (rest_pairs k (x ∷ xs) pairs))

stays_from : (k : Shown) (xs : List Shown) → AllPairs NotBehind (k ∷ xs) → Stay k xs (dedup_from same_place k xs)
stays_from k [] pairs = record {
  rises = pairs_cons Before k [] (λ n s at. absurd (at_none n s at)) (pairs_from Before [] (λ i j a b less at_a at_b. absurd (at_none i a at_a)));
  are = λ s has. has;
  all = λ s has. (s, has, same_again s);
}
stays_from k (x ∷ xs) pairs = by (same_place x k) refl (stays_from k xs (skip_pairs k x xs pairs)) (stays_from x xs (rest_pairs k (x ∷ xs) pairs))
  where
    by : (b : Bool) → same_place x k ≡ b → Stay k xs (dedup_from same_place k xs) → Stay x xs (dedup_from same_place x xs) → Stay k (x ∷ xs) (cond b (dedup_from same_place k xs) (k ∷ dedup_from same_place x xs))
    by true is skipped kept = record {
      rises = skipped.rises;
      are = λ s has. let are = skipped.are in elim (first_or k xs s (are s has)) [
        | inl head ↦ (0, ap Rattle.std.specs.Prelude.Some (sym head))
        | inr there ↦ (suc (suc there.0), there.1)
      ];
      all = λ s has. let all = skipped.all in elim (first_or k (x ∷ xs) s has) [
        | inl head ↦ all s (0, ap Rattle.std.specs.Prelude.Some (sym head))
        | inr later ↦ elim (first_or x xs s later) [
          | inl second ↦ let (r, there, same) = all k (0, refl) in (r, there, same_over s k r (subst (λ (z : Shown). same_place z k ≡ true) (sym second) is) same)
          | inr more ↦ all s (suc more.0, more.1)
        ]
      ];
    }
    by false is skipped kept = record {
      rises = pairs_cons Before k (dedup_from same_place x xs)
          (λ n s at.
          let next = strictly k x (pairs_at NotBehind (k ∷ (x ∷ xs)) pairs 0 1 k x (omega arith) refl refl) is in
          let are = kept.are in
          elim (first_or x xs s (are s (n, at))) [
            | inl head ↦ subst (λ (z : Shown). Before k z) (sym head) next
            | inr there ↦ still_before k x s next (pairs_at NotBehind (k ∷ (x ∷ xs)) pairs 1 (suc (suc there.0)) x s (omega arith) refl there.1)
          ])
          kept.rises;
      are = λ s has. elim (first_or k (dedup_from same_place x xs) s has) [
        | inl head ↦ (0, ap Rattle.std.specs.Prelude.Some (sym head))
        | inr there ↦ let are = kept.are in let at = are s there in (suc at.0, at.1)
      ];
      all = λ s has. elim (first_or k (x ∷ xs) s has) [
        | inl head ↦ (k, (0, refl), subst (λ (z : Shown). same_place z k ≡ true) (sym head) (same_again k))
        | inr later ↦ let all = kept.all in let (r, there, same) = all s later in (r, (suc there.0, there.1), same)
      ];
    }

pub ordered : (old sorted new : List Shown) → IsPermutation old sorted → InOrder sorted → new ≡ dedup same_place sorted → IsOrdered old new
ordered old [] new moved order is = subst (IsOrdered old) (sym is) (record {
  rises = pairs_from Before [] (λ i j a b less at_a at_b. absurd (at_none i a at_a));
  are = λ s has. absurd (at_none has.0 s has.1);
  all = λ s has. let there = has_there [] s (Contains-permutation old [] s moved (contained old s has)) in absurd (at_none there.0 s there.1);
})
ordered old (x ∷ xs) new moved order is =
    let stay = stays_from x xs (order_pairs (x ∷ xs) order) in
    subst (IsOrdered old) (sym is) (record {
      rises = stay.rises;
      are = λ s has. let are = stay.are in has_there old s (Contains-permutation (x ∷ xs) old s (IsPermutation-sym old (x ∷ xs) moved) (contained (x ∷ xs) s (are s has)));
      all = λ s has. let all = stay.all in let (r, there, same) = all s (has_there (x ∷ xs) s (Contains-permutation old (x ∷ xs) s moved (contained old s has))) in (r, there, same);
    })
