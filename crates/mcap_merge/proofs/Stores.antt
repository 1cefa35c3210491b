-- What reading a store whole comes to, and reading one after the other.
use Rattle.std.proofs.Common.{◌≡◌, ℕ, zero, suc, ◌+◌, ◌<◌, ◌≤◌, List, [], ◌∷◌, ◌++◌, length, get_or, take, map, set, Option, Some, refl, sym, ap, subst, ◌∙◌, arith}
use Rattle.std.specs.Prelude.{Result, Ok, Err}
use Rattle.std.specs.List.{AllZip}
use Rattle.std.proofs.lemmas.List.{take_all, take_more_set, map-append}
use Rattle.mcap_io.specs.Outside.{RisesOnce}
use Rattle.mcap_io.specs.Stores.{StoreState}
use Rattle.mcap_io.specs.StoreAnswers.{StoreStays, Measures}
use Rattle.mcap_io.specs.StoreSources.{front_left}
use Rattle.mcap_io.specs.StoreFronts.{WasRead}
use Rattle.mcap_model.specs.Places.{At}
use Rattle.mcap_model.proofs.Places.{at_none, at_one, at_within, at_read, at_set_same, at_set_other}
use Rattle.mcap_model.proofs.Lists.{at_taken}
use Rattle.mcap_model.proofs.NamedTopics.{zip_front, unmapped}
use Rattle.mcap_model.proofs.OneMore.{taken_more, zip_push}
use Rattle.mcap_model.specs.declared.refusals.ReadingRefused.{ReadingRefused}
use Rattle.mcap_model.specs.declared.refusals.ReadingRefused.TheVariants as refusals
use Rattle.mcap_model.specs.declared.rules.Rule.{Rule}
use Rattle.merge_walk.specs.declared.spans.Span.{Span}
use Rattle.mcap_merge.specs.declared.answers.MergeRefused.{MergeRefused}
use Rattle.mcap_merge.specs.declared.input.Input.{Input}
use Rattle.mcap_merge.specs.Inputs.{HoldsInput, HoldInputs}
use Rattle.mcap_merge.specs.ReadInputs.{Read}
use Rattle.mcap_merge.specs.Reading.{FaultsStand, IsReadOf, AreReadBefore, InputRefused}
use Rattle.mcap_merge.specs.ReadingSteps.{front_source, FrontReads, HasLength, IsCounted, FindsOutside, SpansFit, AsksWithinLength, StoreKeeps, StoreRefused, ReadsWhole, IsRefusalAt, AllReadWhole}
use Rattle.mcap_merge.proofs.Within.{halts_within}

-- the first bytes of a store are all where the length is theirs
pub told_left : (old : StoreState) (len : ℕ) (bytes : List ℕ) → HasLength old len → old.bytes ≡ Some bytes → (front_source old len).left ≡ Some bytes
told_left old len bytes whole is =
    let long : len ≡ length bytes = whole bytes is in
    ap (λ (o : Option (List ℕ)). front_left o 0 len) is ∙ ap (λ (l : List ℕ). Some l) (take_all len bytes (omega (arith, long)))

-- where the source had no failure the store had none
pub no_fault : (old new : StoreState) (next len failures : ℕ) → WasRead old new next len failures → failures ≡ 0 → new.faults ≡ old.faults
no_fault old new next len failures was none = let whole = was.whole none in whole.0

pub front_whole : (old new : StoreState) (len : ℕ) (input : Input) → HasLength old len → FrontReads old len new (Ok input) → ReadsWhole old new (Ok input)
front_whole old new len input whole front =
    let (r, end, halts, holds) = front.reads in
    let all = halts.halts in
    (r, holds, λ bytes is. (end, all bytes (told_left old len bytes whole is)), no_fault old new front.next len front.now.faults front.was halts.still)

pub front_refused : (old new : StoreState) (len : ℕ) (why result : ReadingRefused) → HasLength old len → FrontReads old len new (Err why) → IsCounted new.faults why result → StoreRefused old new result
front_refused old new len (refusals.Fault faults) result whole front is =
    let (tops, stands) = front.reads in
    let was = front.was in
    let rises = stands.rises in
    let broken = was.broken (omega (arith, rises.once)) in
    subst (StoreRefused old new) (sym is) (record { later = broken.0; once = broken.1 }, refl)
front_refused old new len (refusals.Grammar offset rule) result whole front is =
    let (tops, halts) = front.reads in
    let all = halts.halts in
    subst (StoreRefused old new) (sym is) (no_fault old new front.next len front.now.faults front.was halts.still, λ bytes told. (tops, all bytes (told_left old len bytes whole told)))
front_refused old new len (refusals.Compressed offset name) result whole front is =
    let (tops, halts) = front.reads in
    let all = halts.halts in
    subst (StoreRefused old new) (sym is) (no_fault old new front.next len front.now.faults front.was halts.still, λ bytes told. (tops, all bytes (told_left old len bytes whole told)))
front_refused old new len (refusals.Limit offset) result whole front is =
    let (tops, halts) = front.reads in
    let all = halts.halts in
    subst (StoreRefused old new) (sym is) (no_fault old new front.next len front.now.faults front.was halts.still, λ bytes told. (tops, all bytes (told_left old len bytes whole told)))
front_refused old new len refusals.Memory result whole front is =
    let (tops, stands) = front.reads in
    subst (StoreRefused old new) (sym is) (no_fault old new front.next len front.now.faults front.was stands.still)

-- a store that tells has all spans of its records
pub outside_refused : (old new : StoreState) (len offset : ℕ) (rule : Rule) (input : Input) → HasLength old len → ReadsWhole old new (Ok input) → FindsOutside input.spans.items len (Some offset) → StoreRefused old new (refusals.Grammar offset rule)
outside_refused old new len offset rule input whole (r, holds, is, still) (s, has, there, behind) = (
  still,
  λ bytes told.
      let (end, halts) = is bytes told in
      let long : len ≡ length bytes = whole bytes told in
      let within = halts_within bytes r.tops end halts has.0 s (subst (λ (l : List Span). At l has.0 s) holds.spans_are has.1) in
      absurd (omega (arith, within, behind, long)),
)

-- the store that was read is the one whose length was asked for
pub measured : (old mid new : StoreState) (len : ℕ) (result : Result Input ReadingRefused) → Measures old mid (Ok len) → ReadsWhole mid new result → ReadsWhole old new result
measured old mid new len (Ok input) measures (r, holds, is, still) = (r, holds, λ bytes told. is bytes (measures.bytes ∙ told), still ∙ measures.cause.still)
measured old mid new len (Err (refusals.Fault faults)) measures (rises, is) = (subst (λ (n : ℕ). RisesOnce n new.faults) measures.cause.still rises, is)
measured old mid new len (Err (refusals.Grammar offset rule)) measures (still, halts) = (still ∙ measures.cause.still, λ bytes told. halts bytes (measures.bytes ∙ told))
measured old mid new len (Err (refusals.Compressed offset name)) measures (still, halts) = (still ∙ measures.cause.still, λ bytes told. halts bytes (measures.bytes ∙ told))
measured old mid new len (Err (refusals.Limit offset)) measures (still, halts) = (still ∙ measures.cause.still, λ bytes told. halts bytes (measures.bytes ∙ told))
measured old mid new len (Err refusals.Memory) measures still = still ∙ measures.cause.still

not_less : (old new : StoreState) (result : Result Input ReadingRefused) → ReadsWhole old new result → old.faults ≤ new.faults
not_less old new (Ok input) whole = omega (arith, whole.3)
not_less old new (Err (refusals.Fault faults)) whole = let rises = whole.0 in rises.later
not_less old new (Err (refusals.Grammar offset rule)) whole = omega (arith, whole.0)
not_less old new (Err (refusals.Compressed offset name)) whole = omega (arith, whole.0)
not_less old new (Err (refusals.Limit offset)) whole = omega (arith, whole.0)
not_less old new (Err refusals.Memory) whole = omega (arith, whole)

pub measured_keeps : (old mid new : StoreState) (len : ℕ) (result : Result Input ReadingRefused) → Measures old mid (Ok len) → ReadsWhole mid new result → StoreStays mid new → StoreKeeps old new
measured_keeps old mid new len result measures whole stays = record {
  bytes = stays.bytes ∙ measures.bytes;
  known = omega (arith, stays.known, measures.known);
  faults = not_less old new result (measured old mid new len result measures whole);
}

-- ---- one after the other

-- so many stores were read; those behind are as they were
pub record ReadSoFar {T : Type 0} (state : T → StoreState) (olds nows : List T) (i : ℕ) (inputs : List Input) : Type 0 where
  pub size : length nows ≡ length olds
  pub keeps : AllZip StoreKeeps (map state olds) (map state nows)
  pub still : AllZip FaultsStand (map state olds) (map state nows)
  pub behind : (k : ℕ) (x : T) → i ≤ k → At olds k x → At nows k x
  pub reads : List Read
  pub hold : HoldInputs reads inputs
  pub are : AllZip IsReadOf (take i (map state olds)) reads
  pub fits : AllZip SpansFit (map state (take i nows)) inputs
  pub asked : AllZip AsksWithinLength (map state olds) (map state nows)

module _ {T : Type 0} (state : T → StoreState) where
  zip_self : (R : StoreState → StoreState → Type 0) → ((s : StoreState) → R s s) → (xs : List T) → AllZip R (map state xs) (map state xs)
  zip_self R same [] = tt
  zip_self R same (x ∷ xs) = (same (state x), zip_self R same xs)

  pub read_begin : (olds : List T) (inputs : List Input) → inputs ≡ [] → ReadSoFar state olds olds 0 inputs
  read_begin olds inputs none = record {
    size = refl;
    keeps = zip_self StoreKeeps (λ s. record { bytes = refl; known = omega arith; faults = omega arith }) olds;
    still = zip_self FaultsStand (λ s. refl) olds;
    behind = λ k x later at. at;
    reads = [];
    hold = subst (HoldInputs []) (sym none) tt;
    are = tt;
    fits = subst (AllZip SpansFit []) (sym none) tt;
    asked = zip_self AsksWithinLength (λ s. record { once = omega arith }) olds;
  }

  keeps_trans : (a b c : StoreState) → StoreKeeps a b → StoreKeeps b c → StoreKeeps a c
  keeps_trans a b c one other = record { bytes = other.bytes ∙ one.bytes; known = omega (arith, one.known, other.known); faults = omega (arith, one.faults, other.faults) }

  stands_trans : (a b c : StoreState) → FaultsStand a b → FaultsStand b c → FaultsStand a c
  stands_trans a b c one other = other ∙ one

  zip_set : (R : StoreState → StoreState → Type 0) → ((a b c : StoreState) → R a b → R b c → R a c) → (olds : List StoreState) (nows : List T) (i : ℕ) (x y : T) → AllZip R olds (map state nows) → At nows i x → R (state x) (state y) → AllZip R olds (map state (set nows i y))
  zip_set R trans [] [] i x y all at one = absurd (at_none i x at)
  zip_set R trans [] (z ∷ zs) i x y all at one = absurd all
  zip_set R trans (o ∷ os) [] i x y all at one = absurd all
  zip_set R trans (o ∷ os) (z ∷ zs) zero x y all at one =
      let same : z ≡ x = at_one (z ∷ zs) zero z x refl at in
      (trans o (state z) (state y) all.0 (subst (λ (w : T). R (state w) (state y)) (sym same) one), all.1)
  zip_set R trans (o ∷ os) (z ∷ zs) (suc i) x y all at one = (all.0, zip_set R trans os zs i x y all.1 at one)

  zip_put : (R : StoreState → StoreState → Type 0) → (olds nows : List T) (i : ℕ) (x y : T) → AllZip R (map state olds) (map state nows) → At olds i x → R (state x) (state y) → AllZip R (map state olds) (map state (set nows i y))
  zip_put R [] nows i x y all at one = absurd (at_none i x at)
  zip_put R (o ∷ os) [] i x y all at one = absurd all
  zip_put R (o ∷ os) (z ∷ zs) zero x y all at one =
      let same : o ≡ x = at_one (o ∷ os) zero o x refl at in
      (subst (λ (w : T). R (state w) (state y)) (sym same) one, all.1)
  zip_put R (o ∷ os) (z ∷ zs) (suc i) x y all at one = (all.0, zip_put R os zs i x y all.1 at one)

  length_set : (xs : List T) (i : ℕ) (y : T) → length (set xs i y) ≡ length xs
  length_set [] i y = refl
  length_set (x ∷ xs) zero y = refl
  length_set (x ∷ xs) (suc i) y = ap suc (length_set xs i y)

  at_mapped : (xs : List T) (i : ℕ) (x : T) → At xs i x → At (map state xs) i (state x)
  at_mapped [] i x at = absurd (at_none i x at)
  at_mapped (z ∷ zs) zero x at = ap (λ (w : T). Some (state w)) (at_one (z ∷ zs) zero z x refl at)
  at_mapped (z ∷ zs) (suc i) x at = at_mapped zs i x at

  -- the store of that number is as it was
  old_at : (olds nows : List T) (i : ℕ) (inputs : List Input) (x : T) → ReadSoFar state olds nows i inputs → At nows i x → At olds i x
  old_at olds nows i inputs x was at =
      let behind = was.behind in
      let within : i < length olds = omega (arith, at_within nows i x at, was.size) in
      let first = at_read olds i x within in
      let same : get_or olds i x ≡ x = at_one nows i (get_or olds i x) x (behind i (get_or olds i x) (omega arith) first) at in
      subst (At olds i) same first

  -- a store more
  pub read_on : (olds nows : List T) (i : ℕ) (inputs more : List Input) (x y : T) (input : Input) → ReadSoFar state olds nows i inputs → At nows i x → StoreKeeps (state x) (state y) → SpansFit (state y) input → AsksWithinLength (state x) (state y) → ReadsWhole (state x) (state y) (Ok input) → more ≡ inputs ++ input ∷ []
      → ReadSoFar state olds (set nows i y) (i + 1) more
  read_on olds nows i inputs more x y input was at keeps fits asked (r, holds, is, still) grown = record {
    size = length_set nows i y ∙ was.size;
    keeps = zip_set StoreKeeps keeps_trans (map state olds) nows i x y was.keeps at keeps;
    still = zip_set FaultsStand stands_trans (map state olds) nows i x y was.still at still;
    behind = λ k z later there. let behind = was.behind in at_set_other nows i k z y (λ e. omega (arith, later, e)) (behind k z (omega (arith, later)) there);
    reads = was.reads ++ r ∷ [];
    hold = subst (HoldInputs (was.reads ++ r ∷ [])) (sym grown) (zip_push HoldsInput was.reads inputs r input was.hold holds);
    are = subst (λ (l : List StoreState). AllZip IsReadOf l (was.reads ++ r ∷ [])) (sym (taken_more (map state olds) i (state x) (at_mapped olds i x (old_at olds nows i inputs x was at)))) (zip_push IsReadOf (take i (map state olds)) was.reads (state x) r was.are is);
    fits =
        let taken : map state (take (i + 1) (set nows i y)) ≡ map state (take i nows) ++ state y ∷ [] =
        ap (map state) (take_more_set nows i y (at_within nows i x at)) ∙ map-append state (take i nows) (y ∷ []) in
        subst (AllZip SpansFit (map state (take (i + 1) (set nows i y)))) (sym grown)
        (subst (λ (l : List StoreState). AllZip SpansFit l (inputs ++ input ∷ [])) (sym taken) (zip_push SpansFit (map state (take i nows)) inputs (state y) input was.fits fits));
    asked = zip_put AsksWithinLength olds nows i x y was.asked (old_at olds nows i inputs x was at) asked;
  }

  read_before : (olds nows : List T) (i : ℕ) (inputs : List Input) → ReadSoFar state olds nows i inputs → AreReadBefore (map state olds) i
  read_before olds nows i inputs was k s below at =
      let found = zip_front IsReadOf (take i (map state olds)) was.reads k s was.are (at_taken (map state olds) i k s below at) in
      (found.0, found.2)

  pub keeps_all : (olds nows : List T) (i : ℕ) (inputs : List Input) (x y : T) → ReadSoFar state olds nows i inputs → At nows i x → StoreKeeps (state x) (state y) → AllZip StoreKeeps (map state olds) (map state (set nows i y))
  keeps_all olds nows i inputs x y was at keeps = zip_set StoreKeeps keeps_trans (map state olds) nows i x y was.keeps at keeps

  pub still_all : (olds nows : List T) (i : ℕ) (inputs : List Input) (x y : T) → ReadSoFar state olds nows i inputs → At nows i x → FaultsStand (state x) (state y) → AllZip FaultsStand (map state olds) (map state (set nows i y))
  still_all olds nows i inputs x y was at stands = zip_set FaultsStand stands_trans (map state olds) nows i x y was.still at stands

  pub asked_all : (olds nows : List T) (i : ℕ) (inputs : List Input) (x y : T) → ReadSoFar state olds nows i inputs → At nows i x → AsksWithinLength (state x) (state y) → AllZip AsksWithinLength (map state olds) (map state (set nows i y))
  asked_all olds nows i inputs x y was at asked = zip_put AsksWithinLength olds nows i x y was.asked (old_at olds nows i inputs x was at) asked

  others_stand : (olds nows : List T) (i : ℕ) (inputs : List Input) (x y : T) (n : ℕ) (o s : StoreState) → ReadSoFar state olds nows i inputs → (n ≡ i → ⊥) → At (map state olds) n o → At (map state (set nows i y)) n s → FaultsStand o s
  others_stand olds nows i inputs x y n o s was apart at_o at_s =
      let (w, at_w, stands) = zip_front FaultsStand (map state olds) (map state nows) n o was.still at_o in
      let (z, at_z, is) = unmapped state nows n w at_w in
      let there : At (map state (set nows i y)) n (state z) = at_mapped (set nows i y) n z (at_set_other nows i n z y apart at_z) in
      let same : s ≡ state z = at_one (map state (set nows i y)) n s (state z) at_s there in
      ap (λ (t : StoreState). t.faults) (same ∙ is) ∙ stands

  -- a store that was refused
  pub refused_at : (olds nows : List T) (i : ℕ) (inputs : List Input) (x y : T) (scan : ReadingRefused) (why : MergeRefused) → ReadSoFar state olds nows i inputs → At nows i x → StoreRefused (state x) (state y) scan → IsRefusalAt i scan why
      → InputRefused (map state olds) (map state (set nows i y)) why
  refused_at olds nows i inputs x y (refusals.Fault faults) why was at refused is =
      let within : i < length nows = at_within nows i x at in
      subst (InputRefused (map state olds) (map state (set nows i y))) (sym is)
      (state x, state y, at_mapped olds i x (old_at olds nows i inputs x was at), at_mapped (set nows i y) i y (at_set_same nows i y within), refused.0, refused.1, λ n o s apart at_o at_s. others_stand olds nows i inputs x y n o s was apart at_o at_s)
  refused_at olds nows i inputs x y (refusals.Grammar offset rule) why was at refused is =
      let halts = refused.1 in
      subst (InputRefused (map state olds) (map state (set nows i y))) (sym is)
      (still_all olds nows i inputs x y was at refused.0, (read_before olds nows i inputs was, state x, at_mapped olds i x (old_at olds nows i inputs x was at), λ bytes told. halts bytes told))
  refused_at olds nows i inputs x y (refusals.Compressed offset name) why was at refused is =
      subst (InputRefused (map state olds) (map state (set nows i y))) (sym is) (still_all olds nows i inputs x y was at refused.0, (read_before olds nows i inputs was, state x, at_mapped olds i x (old_at olds nows i inputs x was at), refused.1))
  refused_at olds nows i inputs x y (refusals.Limit offset) why was at refused is =
      subst (InputRefused (map state olds) (map state (set nows i y))) (sym is) (still_all olds nows i inputs x y was at refused.0, (read_before olds nows i inputs was, state x, at_mapped olds i x (old_at olds nows i inputs x was at), refused.1))
  refused_at olds nows i inputs x y refusals.Memory why was at refused is = subst (InputRefused (map state olds) (map state (set nows i y))) (sym is) (still_all olds nows i inputs x y was at refused)

  pub all_held : (olds nows : List T) (i : ℕ) (inputs : List Input) → ReadSoFar state olds nows i inputs → length (map state olds) ≤ i → AllReadWhole (map state olds) inputs
  all_held olds nows i inputs was all = (was.reads, was.hold, subst (λ (l : List StoreState). AllZip IsReadOf l was.reads) (take_all i (map state olds) all) was.are)

  pub all_fit : (olds nows : List T) (i : ℕ) (inputs : List Input) → ReadSoFar state olds nows i inputs → length nows ≤ i → AllZip SpansFit (map state nows) inputs
  all_fit olds nows i inputs was all = subst (λ (l : List T). AllZip SpansFit (map state l) inputs) (take_all i nows all) was.fits
