-- The entries of a Message Index that lie in a range.
use Rattle.std.proofs.Common.{◌≡◌, ℕ, suc, ◌≤◌, Bool, true, false, List, [], ◌∷◌, ◌++◌, length, take, Result, Ok, Err, sym, ap, subst, inl, inr, ◌∙◌, arith}
use Rattle.std.specs.Prelude.{sum_by, IsPermutation}
use Rattle.std.proofs.lemmas.Bool.{both_ways}
use Rattle.std.proofs.lemmas.List.{take_all}
use Rattle.std.proofs.lemmas.List.Sums.{sum_by-append}
use Rattle.std.proofs.lemmas.List.Sorted.{IsPermutation-sym, sum_by-IsPermutation}
use Rattle.mcap_model.specs.declared.replay.Range.{Range}
use Rattle.mcap_model.specs.declared.replay.Shown.{Shown}
use Rattle.mcap_model.specs.Places.{At, Has}
use Rattle.mcap_model.specs.Scan.{is_within}
use Rattle.mcap_model.proofs.Places.{at_none, at_more, has_kept, has_last}
use Rattle.mcap_model.proofs.Replays.{range_decided}
use Rattle.mcap_model.specs.declared.refusals.ReadingRefused.{ReadingRefused}
use Rattle.indexed_replay.specs.declared.spots.Spot.{Spot}
use Rattle.indexed_replay.specs.Steps.{IsLedInRange, EntriesShown, AreTimely}
use Rattle.indexed_replay.specs.Costs.{entry_cost}
use Rattle.indexed_replay.proofs.Adding.{taken_or, taken_front, taken_last, sum_next, adds_same}
use Rattle.indexed_replay.proofs.Apart.{has_moved}
use Rattle.indexed_replay.proofs.Filling.{over_same}

abbrev Pair : Type 0
Pair = ℕ × ℕ

pub timely_none : (range : Range) (entries timely : List Pair) → timely ≡ [] → AreTimely range (take 0 entries) timely
timely_none range entries timely none = subst (AreTimely range (take 0 entries)) (sym none) (record {
  are = λ e has. absurd (at_none {X = Pair} has.0 e has.1);
  all = λ e has within. absurd (at_none {X = Pair} has.0 e has.1);
  cost = λ file chunk. omega arith;
})

pub timely_more : (range : Range) (entries timely now : List Pair) (i k : ℕ) (e : Pair) → At {X = Pair} entries i e → k ≡ suc i → AreTimely range (take i entries) timely → now ≡ timely ++ e ∷ [] → AreTimely range (take k entries) now
timely_more range entries timely now i k e at is was now_is = subst (AreTimely range (take k entries)) (sym now_is) (record {
  are = λ y has. elim (at_more {X = Pair} timely e has.0 y has.1) [
    | inl old ↦ taken_front {X = Pair} entries i k (omega (arith, is)) y (was.are y (has.0, old))
    | inr last ↦ subst (λ (p : Pair). Has {X = Pair} (take k entries) p) (sym last.1) (taken_last {X = Pair} entries i k e at (omega (arith, is)))
  ];
  all = λ y has within. elim (taken_or {X = Pair} entries i e at k is y has) [
    | inl there ↦ has_kept {X = Pair} timely (e ∷ []) y (was.all y there within)
    | inr same ↦ subst (λ (p : Pair). Has {X = Pair} (timely ++ e ∷ []) p) (sym same) (has_last {X = Pair} timely e [])
  ];
  cost = λ file chunk.
      let f = entry_cost file range chunk in
      let one : sum_by {X = Pair} f (e ∷ []) ≡ f e = omega arith in
      omega (arith, sum_next {X = Pair} f entries i e at k is, sum_by-append {X = Pair} f timely (e ∷ []), one, was.cost file chunk);
})

pub timely_skip : (range : Range) (entries timely : List Pair) (i k : ℕ) (e : Pair) → At {X = Pair} entries i e → k ≡ suc i → is_within range e.0 ≡ false → AreTimely range (take i entries) timely → AreTimely range (take k entries) timely
timely_skip range entries timely i k e at is outside was = record {
  are = λ y has. taken_front {X = Pair} entries i k (omega (arith, is)) y (was.are y has);
  all = λ y has within. elim (taken_or {X = Pair} entries i e at k is y has) [
    | inl there ↦ was.all y there within
    | inr same ↦ absurd (both_ways (is_within range e.0) outside (ap (is_within range) (sym (ap (λ (p : Pair). p.0) same)) ∙ (range_decided range y.0).1 within))
  ];
  cost = λ file chunk. omega (arith, sum_next {X = Pair} (entry_cost file range chunk) entries i e at k is, was.cost file chunk);
}

pub timely_all : (range : Range) (entries timely : List Pair) (i : ℕ) → length entries ≤ i → AreTimely range (take i entries) timely → AreTimely range entries timely
timely_all range entries timely i past was = subst (λ (l : List Pair). AreTimely range l timely) (take_all i entries past) was

-- in another order
pub timely_moved : (range : Range) (entries timely moved : List Pair) → IsPermutation timely moved → AreTimely range entries timely → AreTimely range entries moved
timely_moved range entries timely moved moves was = record {
  are = λ y has. was.are y (has_moved {X = Pair} moved timely y (IsPermutation-sym timely moved moves) has);
  all = λ y has within. has_moved {X = Pair} timely moved y moves (was.all y has within);
  cost = λ file chunk. omega (arith, sum_by-IsPermutation {X = Pair} (entry_cost file range chunk) timely moved moves, was.cost file chunk);
}

-- what they add is what all entries do
pub timely_shown : (file : List ℕ) (range : Range) (spot : Spot) (entries timely : List Pair) (shown : List Shown × List Shown) (result : Result Bool ReadingRefused) → AreTimely range entries timely
    → EntriesShown file range spot timely shown result → EntriesShown file range spot entries shown result
timely_shown file range spot entries timely shown (Ok true) are adds =
    adds_same (IsLedInRange file range spot timely) (IsLedInRange file range spot entries) shown.0 shown.1 adds
    (λ s l. let f = are.are in record { entry = f (s.log_time, s.place.inner) l.entry; in_range = l.in_range; channel_is = l.channel_is; stands = l.stands })
    (λ s l. let f = are.all in record { entry = f (s.log_time, s.place.inner) l.entry l.in_range; in_range = l.in_range; channel_is = l.channel_is; stands = l.stands })
timely_shown file range spot entries timely shown (Ok false) are (e, has, within, lacks) = let f = are.are in (e, f e has, within, lacks)
timely_shown file range spot entries timely shown (Err why) are (inl (e, has, within, refused)) = let f = are.are in inl (e, f e has, within, refused)
timely_shown file range spot entries timely shown (Err why) are (inr (is, over)) =
    let f = are.are in
    let listed : (s : Shown) → IsLedInRange file range spot timely s → IsLedInRange file range spot entries s = λ s l. record { entry = f (s.log_time, s.place.inner) l.entry; in_range = l.in_range; channel_is = l.channel_is; stands = l.stands } in
    inr (is, over_same (IsLedInRange file range spot timely) (IsLedInRange file range spot timely) (IsLedInRange file range spot entries) (IsLedInRange file range spot entries) file shown.0 over listed listed)
