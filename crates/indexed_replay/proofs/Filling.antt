-- Where the data of messages is too much.
use Rattle.std.proofs.Common.{◌≡◌, ℕ, zero, suc, ◌+◌, ◌<◌, List, [], ◌∷◌, ◌++◌, length, refl, ap, subst, inl, inr, arith}
use Rattle.std.proofs.lemmas.List.Sums.{sum_by-append}
use Rattle.mcap_model.specs.declared.replay.Shown.{Shown}
use Rattle.mcap_model.specs.Places.{At}
use Rattle.std.proofs.lemmas.Option.{same_Some}
use Rattle.mcap_model.proofs.Places.{at_none}
use Rattle.mcap_model.proofs.Lists.{at_either, at_second}
use Rattle.time_player.specs.DataOfMessages.{data_in}
use Rattle.indexed_replay.specs.Steps.{AddsEachOnce}
use Rattle.indexed_replay.specs.HoldingSteps.{Overfull}
use Rattle.indexed_replay.proofs.Once.{once_joined, once_alone}

data_joined : (xs ys : List Shown) → data_in (xs ++ ys) ≡ data_in xs + data_in ys
data_joined xs ys = sum_by-append (λ (s : Shown). length s.payload) xs ys

pub over_found : (P : Shown → Type 0) (file : List ℕ) (s : Shown) (old : List Shown) → P s → length file < data_in old + length s.payload → Overfull P P file old
over_found P file s old is past = record {
  more = s ∷ [];
  are = λ r has. subst P (only has.0 r has.1) is;
  once = once_alone s;
  last = s;
  there = (0, refl);
  is = is;
  past = let one : data_in (s ∷ []) ≡ length s.payload = omega arith in omega (arith, past, one);
}
  where
    only : (n : ℕ) (r : Shown) → At (s ∷ []) n r → s ≡ r
    only zero r at = same_Some s r at
    only (suc n) r at = absurd (at_none n r at)

pub over_same : (P Q R S : Shown → Type 0) (file : List ℕ) (old : List Shown) → Overfull P Q file old → ((s : Shown) → P s → R s) → ((s : Shown) → Q s → S s) → Overfull R S file old
over_same P Q R S file old over p q = record {
  more = over.more;
  are = λ s has. let are = over.are in p s (are s has);
  once = over.once;
  last = over.last;
  there = over.there;
  is = q over.last over.is;
  past = over.past;
}

-- behind those that were added before
pub over_both : (P Q R S T : Shown → Type 0) (file : List ℕ) (old mid : List Shown) → AddsEachOnce P old mid → Overfull Q S file mid → ((s : Shown) → P s → Q s → ⊥) → ((s : Shown) → P s → R s) → ((s : Shown) → Q s → R s) → ((s : Shown) → S s → T s) → Overfull R T file old
over_both P Q R S T file old mid adds over apart p q t = record {
  more = adds.more ++ over.more;
  are = λ s has. elim (at_either adds.more over.more has.0 s has.1) [
    | inl there ↦ let f = adds.are in p s (f s (has.0, there))
    | inr (k, is, there) ↦ let f = over.are in q s (f s (k, there))
  ];
  once = once_joined P Q adds.more over.more adds.are over.are adds.once over.once apart;
  last = over.last;
  there = let has = over.there in (length adds.more + has.0, at_second adds.more over.more has.0 over.last has.1);
  is = t over.last over.is;
  past = omega (arith, over.past, ap data_in adds.added, data_joined old adds.more, data_joined adds.more over.more);
}
