-- What is seen of a world over the openings and keepings of watchers' sinks.
use Rattle.std.proofs.Common.{◌≡◌, ℕ, zero, suc, ◌+◌, ◌<◌, Bool, List, [], ◌∷◌, ◌++◌, length, map, take, get_or, append_assoc, length-append, Option, Some, Result, Ok, Err, refl, sym, ap, subst, inl, inr, ◌∙◌, arith}
use Rattle.std.specs.Prelude.{reverse}
use Rattle.std.specs.List.{fold, sum}
use Rattle.std.specs.Option.{option_map}
use Rattle.std.proofs.lemmas.List.{append-nil, reverse-append, map-append, take_more}
use Rattle.std.proofs.lemmas.Option.{same_Some}
use Rattle.mcap_io.specs.Outside.{WorldState, SinkState, Told, Names, Opening, added}
use Rattle.mcap_io.specs.OutsideCalls.{CountsStand, TookNothingYet, NoneIsOut, with_opening, went_well, KeepsSink, KeepsName, HasCause, LetsViewGo}
use Rattle.mcap_io.specs.declared.outside.Failed.{Failed}
use Rattle.mcap_io.specs.declared.outside.ObjectKind.TheVariants as kinds
use Rattle.mcap_io.proofs.Notes.{noted_in}
use Rattle.mcap_model.specs.Places.{At, Has, Each}
use Rattle.mcap_model.proofs.Places.{at_none}
use Rattle.mcap_model.proofs.OneMore.{each_last}
use Rattle.command_base.specs.Ran.{failed_so}
use Rattle.command_base.proofs.Counting.{kept_adds}
use Rattle.command_base.proofs.Opened.{tells_more}
use Rattle.command_base.specs.InputsSteps.{with_openings}
use Rattle.command_record.specs.Sinks.{SinkKept, sink_keeping, sink_entry, sink_names, SinkHolds}
use Rattle.command_record.specs.SinkSteps.{AreOnce, given_sink, NoSinkOut, SinksOpened, PlacesSink, OneSinkKept, SinksKept, ViewsLetGo}

-- ---- openings

abbrev some_told : Told → Option Told
some_told t = Some t

pub no_sink_opened : (w : WorldState) → SinksOpened w w [] []
no_sink_opened w = record {
  told = λ told here. here ∙ ap (λ (l : List Opening). some_told (record { names = told.names; log = l })) (sym (append-nil told.log));
  stands = record { inputs = refl; outputs = refl; watches = refl };
  still = refl;
  many = refl;
  empty = λ told here n s at. absurd (at_none n s at);
  unused = λ n s at. absurd (at_none n s at);
}

pub one_sink_opened : (w0 w1 w2 : WorldState) (ns : List (List ℕ)) (ss : List SinkState) (n : List ℕ) (s : SinkState) → SinksOpened w0 w1 ns ss → w2.told ≡ option_map (λ (t : Told). with_opening t (given_sink n)) w1.told
    → CountsStand w1 w2 → w2.faults ≡ w1.faults → TookNothingYet w1 s → s.faults ≡ 0 → SinksOpened w0 w2 (ns ++ n ∷ []) (ss ++ s ∷ [])
one_sink_opened w0 w1 w2 ns ss n s it opens stands still nothing unused = record {
  told = λ told here.
      tells_more w1.told w2.told (given_sink n) (with_openings told (map given_sink ns)) opens (it.told told here)
      ∙ ap (λ (l : List Opening). some_told (record { names = told.names; log = l })) (append_assoc told.log (map given_sink ns) (given_sink n ∷ []) ∙ ap (λ (l : List Opening). told.log ++ l) (sym (map-append given_sink ns (n ∷ []))));
  stands = record { inputs = stands.inputs ∙ it.stands.inputs; outputs = stands.outputs ∙ it.stands.outputs; watches = stands.watches ∙ it.stands.watches };
  still = still ∙ it.still;
  many = length-append ss (s ∷ []) ∙ ap (λ (k : ℕ). k + 1) it.many ∙ sym (length-append ns (n ∷ []));
  empty = λ told here. each_last (λ (x : SinkState). x.took ≡ Some []) ss s (it.empty told here) (nothing (with_openings told (map given_sink ns)) (it.told told here));
  unused = each_last (λ (x : SinkState). x.faults ≡ 0) ss s it.unused unused;
}

-- ---- keepings

placed_so : (all now : Names) (name : List ℕ) (sink : SinkState) (result : Result Unit Failed) → KeepsName all now name sink.took result → PlacesSink all now name sink (went_well result)
placed_so all now name sink (Ok it) keeps = record { others = keeps.others; placed = λ bytes took. inl (keeps.placed bytes took) }
placed_so all now name sink (Err why) keeps = record {
  others = keeps.others;
  placed = λ bytes took. elim (keeps.placed bytes took) [
    | inl is ↦ inl is
    | inr same ↦ inr (refl, same)
  ];
}

pub sink_kept_so : (old new : WorldState) (name : List ℕ) (sink : SinkState) (result : Result Unit Failed) (failed : Bool) → KeepsSink old new name sink result → new.input_faults ≡ old.input_faults → new.output_faults ≡ old.output_faults
    → new.watch_faults ≡ added old.watch_faults sink.faults → HasCause old.faults new.faults result → failed ≡ failed_so (went_well result) sink.faults → OneSinkKept old new name sink failed
sink_kept_so old new name sink result failed keeps inputs outputs watches cause failed_is = record {
  well = went_well result;
  keeps = λ told here. let now = keeps told here in (now.0, now.1, placed_so told.names now.0.names name sink result now.2, now.3);
  world = λ fits. kept_adds old.faults new.faults result fits cause;
  inputs = inputs;
  outputs = outputs;
  watches = watches;
  failed_is = failed_is;
}

-- no sink that was kept is out
no_sink_out : (ks : List SinkKept) (behind : List Opening) → NoSinkOut behind → (name : List ℕ) → NoneIsOut kinds.Sink name (map sink_entry ks ++ behind)
no_sink_out [] behind none name k d within = none name k d within
no_sink_out (k ∷ ks) behind none name zero d within = λ is. let out = is.out in absurd cc
no_sink_out (k ∷ ks) behind none name (suc n) d within = no_sink_out ks behind none name n d (omega (arith, within))

none_has : (A : Type 0) (name : List ℕ) → Has [] name → A
none_has A name has = absurd (at_none has.0 name has.1)

has_later : (n name : List ℕ) (ns : List (List ℕ)) → Has ns name → Has (n ∷ ns) name
has_later n name ns has = (suc has.0, has.1)

abbrev some_name : List ℕ → Option (List ℕ)
some_name x = Some x

suc_same : (a b : ℕ) → suc a ≡ suc b → a ≡ b
suc_same a b is = omega (arith, is)

once_later : (n : List ℕ) (ns : List (List ℕ)) → AreOnce (n ∷ ns) → AreOnce ns
once_later n ns once i j name first second = suc_same i j (once (suc i) (suc j) name first second)

once_first : (n : List ℕ) (ns : List (List ℕ)) → AreOnce (n ∷ ns) → Has ns n → ⊥
once_first n ns once has = let same = once 0 (suc has.0) n refl has.1 in omega (arith, same)

pub no_sink_kept : (w : WorldState) → SinksKept w w [] [] []
no_sink_kept w = record {
  kept = [];
  names_are = refl;
  sinks_are = refl;
  told = λ told log behind here is none. (told, here, is, λ other unwritten. refl, λ once n k at. absurd (at_none n k at));
  world = λ fits. omega (arith, fits);
  inputs = refl;
  outputs = refl;
  watches = λ fits. omega (arith, fits);
  failed_are = refl;
}

module _ (w0 w1 w2 : WorldState) (ns : List (List ℕ)) (ss : List SinkState) (flags : List Bool) (n : List ℕ) (s : SinkState) (failed : Bool) (it : SinksKept w0 w1 ns ss flags) (one : OneSinkKept w1 w2 n s failed) where
  abbrev this : SinkKept
  this = record { name = n; back = s; well = one.well }

  -- what the other sinks put under their names stands there, and what the last one put
  all_hold : (all mid now : Names) → PlacesSink mid now n s one.well → ((other : List ℕ) → (Has ns other → ⊥) → mid other ≡ all other) → (AreOnce ns → Each (SinkHolds all mid) it.kept) → AreOnce (n ∷ ns) → Each (SinkHolds all now) (this ∷ it.kept)
  all_hold all mid now places others hold once zero k at =
      subst (SinkHolds all now) (same_Some this k at) (λ bytes took. elim (places.placed bytes took) [
        | inl is ↦ inl is
        | inr same ↦ inr (same.0, same.1 ∙ others n (once_first n ns once))
      ])
  all_hold all mid now places others hold once (suc i) k at =
      let same : now k.name ≡ mid k.name = places.others k.name (λ is. once_first n ns once (i, subst (λ (l : List (List ℕ)). At l i n) (sym it.names_are) (at_mapped it.kept i k at ∙ ap (λ (x : List ℕ). some_name x) is))) in
      λ bytes took. elim (hold (once_later n ns once) i k at bytes took) [
        | inl is ↦ inl (same ∙ is)
        | inr other ↦ inr (other.0, same ∙ other.1)
      ]
    where
      at_mapped : (ks : List SinkKept) (i : ℕ) (k : SinkKept) → At ks i k → At (sink_names ks) i k.name
      at_mapped [] i k at = absurd (at_none i k at)
      at_mapped (x ∷ ks) zero k at = ap (λ (y : SinkKept). some_name y.name) (same_Some x k at)
      at_mapped (x ∷ ks) (suc i) k at = at_mapped ks i k at

  pub one_sink_kept : SinksKept w0 w2 (n ∷ ns) (s ∷ ss) (failed ∷ flags)
  one_sink_kept = record {
    kept = this ∷ it.kept;
    names_are = ap (λ (l : List (List ℕ)). n ∷ l) it.names_are;
    sinks_are = ap (λ (l : List SinkState). s ∷ l) it.sinks_are;
    told = λ told log behind here is none.
        let first = it.told told (log ++ given_sink n ∷ []) behind here (is ∙ sym (append_assoc log (given_sink n ∷ []) (map given_sink ns ++ behind))) none in
        let back = one.keeps first.0 first.1 in (
          back.0,
          back.1,
          noted_in first.0.log back.0.log log (map sink_entry it.kept ++ behind) (given_sink n) kinds.Sink n (sink_keeping s one.well) (record {
            there = first.2 ∙ append_assoc log (given_sink n ∷ []) (map sink_entry it.kept ++ behind);
            out = record { kind_is = refl; name_is = refl; given = refl; out = refl };
            newest = no_sink_out it.kept behind none n;
          }) back.3,
          λ other unwritten. back.2.others other (λ same. unwritten (0, ap (λ (x : List ℕ). some_name x) (sym same))) ∙ first.3 other (λ has. unwritten (has_later n other ns has)),
          all_hold told.names first.0.names back.0.names back.2 first.3 first.4,
        );
    world = λ fits. let first = it.world fits in let second = one.world (omega (arith, first)) in omega (arith, first, second);
    inputs = one.inputs ∙ it.inputs;
    outputs = one.outputs ∙ it.outputs;
    watches = λ fits. let first = it.watches fits in omega (arith, first, one.watches);
    failed_are = ap (λ (b : Bool). b ∷ flags) one.failed_is ∙ ap (λ (l : List Bool). failed_so one.well s.faults ∷ l) it.failed_are;
  }

-- the last of the sinks were kept, so many are left, and these failed, the last one first
pub record SinksSoFar (old now : WorldState) (names : List (List ℕ)) (all left : List SinkState) (failed : List Bool) : Type 0 where
  pub last : List (List ℕ)
  pub states : List SinkState
  pub names_are : take (length left) names ++ last ≡ names
  pub states_are : left ++ states ≡ all
  pub kept : SinksKept old now last states (reverse failed)

pub take_whole : {X : Type 0} (xs : List X) → take (length xs) xs ≡ xs
take_whole [] = refl
take_whole (x ∷ xs) = ap (λ l. x ∷ l) (take_whole xs)

pub sinks_none : (w : WorldState) (names : List (List ℕ)) (all : List SinkState) (failed : List Bool) → length all ≡ length names → failed ≡ [] → SinksSoFar w w names all all failed
sinks_none w names all failed many none = record {
  last = [];
  states = [];
  names_are = append-nil (take (length all) names) ∙ ap (λ (n : ℕ). take n names) many ∙ take_whole names;
  states_are = append-nil all;
  kept = subst (λ (l : List Bool). SinksKept w w [] [] (reverse l)) (sym none) (no_sink_kept w);
}

pub sinks_more : (old mid now : WorldState) (names : List (List ℕ)) (all before after : List SinkState) (s : SinkState) (flags : List Bool) (failed : Bool) (other : List ℕ) → SinksSoFar old mid names all before flags → before ≡ after ++ s ∷ []
    → length after < length names → OneSinkKept mid now (get_or names (length after) other) s failed → SinksSoFar old now names all after (flags ++ failed ∷ [])
sinks_more old mid now names all before after s flags failed other it is within one =
    let n = get_or names (length after) other in
    let many : length before ≡ length after + 1 = ap length is ∙ length-append after (s ∷ []) in
    record {
      last = n ∷ it.last;
      states = s ∷ it.states;
      names_are = sym (append_assoc (take (length after) names) (n ∷ []) it.last) ∙ ap (λ (l : List (List ℕ)). l ++ it.last) (sym (take_more names (length after) other within))
          ∙ ap (λ (k : ℕ). take k names ++ it.last) (sym many) ∙ it.names_are;
      states_are = sym (append_assoc after (s ∷ []) it.states) ∙ ap (λ (l : List SinkState). l ++ it.states) (sym is) ∙ it.states_are;
      kept = subst (SinksKept old now (n ∷ it.last) (s ∷ it.states)) (sym (reverse-append flags (failed ∷ []))) (one_sink_kept old mid now it.last it.states (reverse flags) n s failed it.kept one);
    }

pub sinks_all : (old now : WorldState) (names : List (List ℕ)) (all left : List SinkState) (flags last : List Bool) → SinksSoFar old now names all left flags → left ≡ [] → last ≡ reverse flags → SinksKept old now names all last
sinks_all old now names all left flags last it none is =
    let names_same : it.last ≡ names = sym (ap (λ (l : List SinkState). take (length l) names ++ it.last) none) ∙ it.names_are in
    let states_same : it.states ≡ all = sym (ap (λ (l : List SinkState). l ++ it.states) none) ∙ it.states_are in
    subst (λ (l : List Bool). SinksKept old now names all l) (sym is) (subst (λ (l : List SinkState). SinksKept old now names l (reverse flags)) states_same (subst (λ (l : List (List ℕ)). SinksKept old now l it.states (reverse flags)) names_same it.kept))

-- ---- views

fold_more : (n : ℕ) (xs : List ℕ) → fold ◌+◌ n xs ≡ n + fold ◌+◌ 0 xs
fold_more n [] = omega arith
fold_more n (x ∷ xs) = let first = fold_more (n + x) xs in let other = fold_more (0 + x) xs in omega (arith, first, other)

pub sum_more : (x : ℕ) (xs : List ℕ) → sum (x ∷ xs) ≡ x + sum xs
sum_more x xs = let more = fold_more (0 + x) xs in omega (arith, more)

-- the last of the views were let go, and so many are left
pub record ViewsSoFar (old now : WorldState) (all left : List ℕ) : Type 0 where
  pub last : List ℕ
  pub all_are : left ++ last ≡ all
  pub gone : ViewsLetGo old now last

pub no_view : (w : WorldState) → ViewsLetGo w w []
no_view w = record { told = refl; faults = refl; inputs = refl; outputs = refl; watches = λ fits. omega (arith, fits) }

pub views_none : (w : WorldState) (all : List ℕ) → ViewsSoFar w w all all
views_none w all = record {
  last = [];
  all_are = append-nil all;
  gone = no_view w;
}

pub views_more : (old mid now : WorldState) (all before after : List ℕ) (failures : ℕ) → ViewsSoFar old mid all before → before ≡ after ++ failures ∷ [] → LetsViewGo mid now failures → ViewsSoFar old now all after
views_more old mid now all before after failures it is one = record {
  last = failures ∷ it.last;
  all_are = sym (append_assoc after (failures ∷ []) it.last) ∙ ap (λ (l : List ℕ). l ++ it.last) (sym is) ∙ it.all_are;
  gone = record {
    told = one.told ∙ it.gone.told;
    faults = one.faults ∙ it.gone.faults;
    inputs = one.inputs ∙ it.gone.inputs;
    outputs = one.outputs ∙ it.gone.outputs;
    watches = λ fits. let first = it.gone.watches fits in omega (arith, first, one.watches, sum_more failures it.last);
  };
}

pub views_all : (old now : WorldState) (all left : List ℕ) → ViewsSoFar old now all left → left ≡ [] → ViewsLetGo old now all
views_all old now all left it none = subst (ViewsLetGo old now) (sym (ap (λ (l : List ℕ). l ++ it.last) none) ∙ it.all_are) it.gone
