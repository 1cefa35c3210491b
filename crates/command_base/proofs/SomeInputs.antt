-- What the openings and the keepings of inputs come to, one by one.
use Rattle.std.proofs.Common.{◌≡◌, ℕ, zero, suc, ◌+◌, ◌<◌, Bool, List, [], ◌∷◌, ◌++◌, length, map, take, get_or, append_assoc, length-append, Option, Some, refl, sym, ap, subst, inl, inr, ◌∙◌, arith}
use Rattle.std.specs.Prelude.{reverse}
use Rattle.std.specs.List.{AllZip}
use Rattle.std.specs.Option.{option_map}
use Rattle.std.proofs.lemmas.List.{append-nil, length-map, reverse-append, map-append, take_more}
use Rattle.mcap_io.specs.Outside.{WorldState, Told, Keeping, Opening, added}
use Rattle.mcap_io.specs.OutsideCalls.{CountsStand, NoneIsOut, with_opening}
use Rattle.mcap_io.specs.declared.outside.ObjectKind.{ObjectKind}
use Rattle.mcap_io.specs.declared.outside.OutsideRefused.{OutsideRefused}
use Rattle.mcap_io.proofs.Notes.{noted_in}
use Rattle.mcap_model.specs.Places.{At}
use Rattle.mcap_model.proofs.OneMore.{zip_push}
use Rattle.command_base.specs.Ran.{has_failed, failed_so, input_faults, world_faults}
use Rattle.command_base.specs.InputKinds.{IsInput}
use Rattle.command_base.proofs.Opened.{tells_more}
use Rattle.command_base.specs.Inputs.{InputKept, input_entry, names_kept, backs_of}
use Rattle.command_base.specs.InputsSteps.{SeenBefore, input_given, with_openings, InputsOpened, InputOpeningRefused, OneKept, NoneOut, InputsKept}

-- ---- lists

pub zip_long : {X Y : Type 0} (R : X → Y → Type 0) (xs : List X) (ys : List Y) → AllZip R xs ys → length xs ≡ length ys
zip_long R [] [] all = refl
zip_long R [] (b ∷ ys) all = absurd all
zip_long R (a ∷ xs) [] all = absurd all
zip_long R (a ∷ xs) (b ∷ ys) all = ap suc (zip_long R xs ys all.1)

-- ---- openings

abbrev some_told : Told → Option Told
some_told t = Some t

module _ {X : Type 0} (kind : ObjectKind) (Seen : WorldState → List ℕ → X → Type 0) where
  pub none_opened : (w : WorldState) → InputsOpened kind Seen w w [] []
  none_opened w = record {
    told = λ told here. here ∙ ap (λ (l : List Opening). some_told (record { names = told.names; log = l })) (sym (append-nil told.log));
    stands = record { inputs = refl; outputs = refl; watches = refl };
    still = refl;
    seen = tt;
  }

  pub one_opened : (w0 w1 w2 : WorldState) (fs : List (List ℕ)) (xs : List X) (f : List ℕ) (x : X) → SeenBefore Seen → InputsOpened kind Seen w0 w1 fs xs → w2.told ≡ option_map (λ (t : Told). with_opening t (input_given kind f)) w1.told
      → CountsStand w1 w2 → w2.faults ≡ w1.faults → Seen w1 f x → InputsOpened kind Seen w0 w2 (fs ++ f ∷ []) (xs ++ x ∷ [])
  one_opened w0 w1 w2 fs xs f x before it opens stands still seen = record {
    told = λ told here.
        tells_more w1.told w2.told (input_given kind f) (with_openings told (map (input_given kind) fs)) opens (it.told told here)
        ∙ ap (λ (l : List Opening). some_told (record { names = told.names; log = l })) (append_assoc told.log (map (input_given kind) fs) (input_given kind f ∷ []) ∙ ap (λ (l : List Opening). told.log ++ l) (sym (map-append (input_given kind) fs (f ∷ []))));
    stands = record { inputs = stands.inputs ∙ it.stands.inputs; outputs = stands.outputs ∙ it.stands.outputs; watches = stands.watches ∙ it.stands.watches };
    still = still ∙ it.still;
    seen = zip_push (Seen w0) fs xs f x it.seen (before w0 w1 f x (λ told here. (with_openings told (map (input_given kind) fs), it.told told here, refl)) seen);
  }

-- ---- keepings

module _ {X : Type 0} (kind : ObjectKind) (keeping : X → Bool → Keeping) where
  -- none that was kept is out
  none_out : (ks : List (InputKept X)) (behind : List Opening) → NoneOut kind behind → (name : List ℕ) → NoneIsOut kind name (map (input_entry kind keeping) ks ++ behind)
  none_out [] behind none name k d within = none name k d within
  none_out (k ∷ ks) behind none name zero d within = λ is. let out = is.out in absurd cc
  none_out (k ∷ ks) behind none name (suc n) d within = none_out ks behind none name n d (omega (arith, within))

  pub none_kept : (w : WorldState) → InputsKept kind keeping w w [] [] []
  none_kept w = record {
    kept = [];
    names_are = refl;
    backs_are = refl;
    told = λ told log behind here is none. (told, here, refl, is);
    world = λ fits. omega (arith, fits);
    inputs = λ fits. omega (arith, fits);
    outputs = refl;
    watches = refl;
    failed_are = refl;
  }

  pub one_kept : (w0 w1 w2 : WorldState) (fs : List (List ℕ)) (xs : List X) (flags : List Bool) (f : List ℕ) (x : X) (failed : Bool) → IsInput kind → InputsKept kind keeping w0 w1 fs xs flags → OneKept kind keeping w1 w2 f x failed
      → InputsKept kind keeping w0 w2 (f ∷ fs) (x ∷ xs) (failed ∷ flags)
  one_kept w0 w1 w2 fs xs flags f x failed reads it one =
      let k : InputKept X = record { name = f; back = x; well = one.well } in
      let noted : Keeping = keeping x one.well in
      record {
        kept = k ∷ it.kept;
        names_are = ap (λ (l : List (List ℕ)). f ∷ l) it.names_are;
        backs_are = ap (λ (l : List X). x ∷ l) it.backs_are;
        told = λ told log behind here is none.
            let first = it.told told (log ++ input_given kind f ∷ []) behind here (is ∙ sym (append_assoc log (input_given kind f ∷ []) (map (input_given kind) fs ++ behind))) none in
            let back = one.keeps first.0 first.1 in (
              back.0,
              back.1,
              back.2 ∙ first.2,
              noted_in first.0.log back.0.log log (map (input_entry kind keeping) it.kept ++ behind) (input_given kind f) kind f noted (record {
                there = first.3 ∙ append_assoc log (input_given kind f ∷ []) (map (input_entry kind keeping) it.kept ++ behind);
                out = record { kind_is = refl; name_is = refl; given = refl; out = refl };
                newest = none_out it.kept behind none f;
              }) back.3,
            );
        world = λ fits. let first = it.world fits in let second = one.world (omega (arith, first)) in omega (arith, first, second);
        inputs = λ fits. let first = it.inputs fits in omega (arith, first, one.inputs, reads.inputs noted.faults);
        outputs = one.outputs ∙ it.outputs;
        watches = one.watches ∙ it.watches;
        failed_are = ap (λ (b : Bool). b ∷ flags) one.failed_is ∙ ap (λ (l : List Bool). failed_so noted.well noted.faults ∷ l) it.failed_are;
      }

  -- the last of the inputs were kept, so many are left, and these failed, the last one first
  pub record KeptSoFar (old now : WorldState) (inputs : List (List ℕ)) (all left : List X) (failed : List Bool) : Type 0 where
    pub names : List (List ℕ)
    pub backs : List X
    pub names_are : take (length left) inputs ++ names ≡ inputs
    pub backs_are : left ++ backs ≡ all
    pub kept : InputsKept kind keeping old now names backs (reverse failed)

  pub kept_none : (w : WorldState) (inputs : List (List ℕ)) (all : List X) (failed : List Bool) → length all ≡ length inputs → failed ≡ [] → KeptSoFar w w inputs all all failed
  kept_none w inputs all failed many none = record {
    names = [];
    backs = [];
    names_are = append-nil (take (length all) inputs) ∙ ap (λ (n : ℕ). take n inputs) many ∙ take-all inputs;
    backs_are = append-nil all;
    kept = subst (λ (l : List Bool). InputsKept kind keeping w w [] [] (reverse l)) (sym none) (none_kept w);
  }
    where
      take-all : {Y : Type 0} (ys : List Y) → take (length ys) ys ≡ ys
      take-all [] = refl
      take-all (y ∷ ys) = ap (λ l. y ∷ l) (take-all ys)

  pub kept_more : (old mid now : WorldState) (inputs : List (List ℕ)) (all before after : List X) (x : X) (flags : List Bool) (failed : Bool) (other : List ℕ) → IsInput kind → KeptSoFar old mid inputs all before flags → before ≡ after ++ x ∷ []
      → length after < length inputs → OneKept kind keeping mid now (get_or inputs (length after) other) x failed → KeptSoFar old now inputs all after (flags ++ failed ∷ [])
  kept_more old mid now inputs all before after x flags failed other reads it is within one =
      let f = get_or inputs (length after) other in
      let many : length before ≡ length after + 1 = ap length is ∙ length-append after (x ∷ []) in
      record {
        names = f ∷ it.names;
        backs = x ∷ it.backs;
        names_are = sym (append_assoc (take (length after) inputs) (f ∷ []) it.names) ∙ ap (λ (l : List (List ℕ)). l ++ it.names) (sym (take_more inputs (length after) other within))
            ∙ ap (λ (n : ℕ). take n inputs ++ it.names) (sym many) ∙ it.names_are;
        backs_are = sym (append_assoc after (x ∷ []) it.backs) ∙ ap (λ (l : List X). l ++ it.backs) (sym is) ∙ it.backs_are;
        kept = subst (InputsKept kind keeping old now (f ∷ it.names) (x ∷ it.backs)) (sym (reverse-append flags (failed ∷ []))) (one_kept old mid now it.names it.backs (reverse flags) f x failed reads it.kept one);
      }

  pub kept_all : (old now : WorldState) (inputs : List (List ℕ)) (all left : List X) (flags last : List Bool) → KeptSoFar old now inputs all left flags → left ≡ [] → last ≡ reverse flags → InputsKept kind keeping old now inputs all last
  kept_all old now inputs all left flags last it none is =
      let names : it.names ≡ inputs = sym (ap (λ (l : List X). take (length l) inputs ++ it.names) none) ∙ it.names_are in
      let backs : it.backs ≡ all = sym (ap (λ (l : List X). l ++ it.backs) none) ∙ it.backs_are in
      subst (λ (l : List Bool). InputsKept kind keeping old now inputs all l) (sym is) (subst (λ (l : List X). InputsKept kind keeping old now inputs l (reverse flags)) backs (subst (λ (l : List (List ℕ)). InputsKept kind keeping old now l it.backs (reverse flags)) names it.kept))

-- ---- what is seen of the objects

-- The same of what is seen of the objects, in place of the objects.
module _ {O X : Type 0} (state : O → X) (kind : ObjectKind) where
  zip_states : (R : List ℕ → X → Type 0) (names : List (List ℕ)) (os : List O) → AllZip (λ (name : List ℕ) (o : O). R name (state o)) names os → AllZip R names (map state os)
  zip_states R [] [] all = tt
  zip_states R [] (o ∷ os) all = absurd all
  zip_states R (n ∷ names) [] all = absurd all
  zip_states R (n ∷ names) (o ∷ os) all = (all.0, zip_states R names os all.1)

  module _ (Seen : WorldState → List ℕ → X → Type 0) where
    abbrev pub SeenSo : WorldState → List ℕ → O → Type 0
    SeenSo world name o = Seen world name (state o)

    pub opened_states : (old new : WorldState) (inputs : List (List ℕ)) (os : List O) → InputsOpened kind SeenSo old new inputs os → InputsOpened kind Seen old new inputs (map state os)
    opened_states old new inputs os it = record { told = it.told; stands = it.stands; still = it.still; seen = zip_states (Seen old) inputs os it.seen }

    pub refused_states : (old new : WorldState) (inputs : List (List ℕ)) (os : List O) (why : OutsideRefused) → InputOpeningRefused kind SeenSo old new inputs os why → InputOpeningRefused kind Seen old new inputs (map state os) why
    refused_states old new inputs os why it =
        let long = sym (length-map os state) in
        record {
          between = it.between;
          first = subst (λ (n : ℕ). InputsOpened kind Seen old it.between (take n inputs) (map state os)) long (opened_states old it.between (take (length os) inputs) os it.first);
          name = it.name;
          next = subst (λ (n : ℕ). At inputs n it.name) long it.next;
          refuses = it.refuses;
          stands = it.stands;
          cause = it.cause;
        }

  module _ (keeping : X → Bool → Keeping) where
    abbrev pub keeping_so : O → Bool → Keeping
    keeping_so o well = keeping (state o) well

    abbrev state_kept : InputKept O → InputKept X
    state_kept k = record { name = k.name; back = state k.back; well = k.well }

    same_names : (ks : List (InputKept O)) → names_kept ks ≡ names_kept (map state_kept ks)
    same_names [] = refl
    same_names (k ∷ ks) = ap (λ (l : List (List ℕ)). k.name ∷ l) (same_names ks)

    same_backs : (ks : List (InputKept O)) → map state (backs_of ks) ≡ backs_of (map state_kept ks)
    same_backs [] = refl
    same_backs (k ∷ ks) = ap (λ (l : List X). state k.back ∷ l) (same_backs ks)

    same_entries : (ks : List (InputKept O)) → map (input_entry kind keeping_so) ks ≡ map (input_entry kind keeping) (map state_kept ks)
    same_entries [] = refl
    same_entries (k ∷ ks) = ap (λ (l : List Opening). input_entry kind keeping_so k ∷ l) (same_entries ks)

    same_flags : (ks : List (InputKept O)) → map (λ (k : InputKept O). has_failed (input_entry kind keeping_so k)) ks ≡ map (λ (k : InputKept X). has_failed (input_entry kind keeping k)) (map state_kept ks)
    same_flags [] = refl
    same_flags (k ∷ ks) = ap (λ (l : List Bool). has_failed (input_entry kind keeping_so k) ∷ l) (same_flags ks)

    pub kept_states : (old new : WorldState) (names : List (List ℕ)) (os : List O) (failed : List Bool) → InputsKept kind keeping_so old new names os failed → InputsKept kind keeping old new names (map state os) failed
    kept_states old new names os failed it =
        let entries = same_entries it.kept in
        record {
          kept = map state_kept it.kept;
          names_are = it.names_are ∙ same_names it.kept;
          backs_are = ap (map state) it.backs_are ∙ same_backs it.kept;
          told = λ told log behind here is none.
              let t = it.told told log behind here is none in
              (t.0, t.1, t.2, t.3 ∙ ap (λ (l : List Opening). log ++ (l ++ behind)) entries);
          world = λ fits. it.world fits ∙ ap (λ (l : List Opening). added old.faults (world_faults l)) entries;
          inputs = λ fits. it.inputs fits ∙ ap (λ (l : List Opening). added old.input_faults (input_faults l)) entries;
          outputs = it.outputs;
          watches = it.watches;
          failed_are = it.failed_are ∙ same_flags it.kept;
        }
