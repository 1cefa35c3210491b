-- What entries of openings tell of failures, and what these show in the counts of a world.
use Rattle.std.proofs.Common.{◌≡◌, ◌⊎◌, ℕ, zero, suc, ◌+◌, ◌^◌, ◌<◌, ◌≤◌, not, Bool, true, false, ◌||◌, Option, Some, None, List, [], ◌∷◌, ◌++◌, length, map, refl, sym, ap, subst, inl, inr, ◌∙◌, if◌then◌else◌, arith}
use Rattle.std.specs.List.{list_any}
use Rattle.std.proofs.lemmas.List.{length-map}
use Rattle.mcap_io.specs.Outside.{WorldState, Opening, Keeping}
use Rattle.mcap_io.specs.declared.outside.ObjectKind.{ObjectKind}
use Rattle.mcap_io.specs.declared.outside.ObjectKind.TheVariants as kinds
use Rattle.mcap_model.specs.Places.{Each}
use Rattle.command_base.specs.Ran.{has_failed, failed_so, kept_failed, failures_keeping, failures_opening, object_faults, source_faults, live_faults, world_faults, input_faults, output_faults, wanted, AreOpened, Leaves, CountsKept, failed_names, blamed_names}
use Rattle.command_base.proofs.Counting.{failed_often}
use Rattle.command_base.specs.InputKinds.{IsInput}
use Rattle.command_base.specs.Outputs.{inputs_and_output, failed_of, some_failed}
use Rattle.command_base.specs.OutputSteps.{NamesKept}

-- ---- lists of entries

pub world_faults-append : (xs ys : List Opening) → world_faults (xs ++ ys) ≡ world_faults xs + world_faults ys
world_faults-append [] ys = omega arith
world_faults-append (x ∷ xs) ys = let more = world_faults-append xs ys in omega (arith, more)

pub input_faults-append : (xs ys : List Opening) → input_faults (xs ++ ys) ≡ input_faults xs + input_faults ys
input_faults-append [] ys = omega arith
input_faults-append (x ∷ xs) ys = let more = input_faults-append xs ys in omega (arith, more)

pub output_faults-append : (xs ys : List Opening) → output_faults (xs ++ ys) ≡ output_faults xs + output_faults ys
output_faults-append [] ys = omega arith
output_faults-append (x ∷ xs) ys = let more = output_faults-append xs ys in omega (arith, more)

-- ---- what entries tell of failures

failed_why : (well : Bool) (faults : ℕ) → failed_so well faults ≡ true → (well ≡ false) ⊎ (faults ≡ 0 → ⊥)
failed_why false faults is = inl refl
failed_why true zero is = absurd cc
failed_why true (suc n) is = inr (λ none. omega (arith, none))

-- why an entry tells of a failure
failing : (given : Bool) (kept : Option Keeping) → (not given || kept_failed kept) ≡ true → (1 ≤ (if given then 0 else 1) + failures_keeping kept) ⊎ (1 ≤ object_faults kept)
failing false kept is = inl (omega arith)
failing true None is = absurd cc
failing true (Some k) is = elim (failed_why k.well k.faults is) [
  | inl ill ↦ inl (subst (λ (b : Bool). 1 ≤ 0 + (if b then 0 else 1)) (sym ill) (omega arith))
  | inr some ↦ inr (positive k.faults some)
]
  where
    positive : (n : ℕ) → (n ≡ 0 → ⊥) → 1 ≤ n
    positive zero some = absurd (some refl)
    positive (suc n) some = omega arith

told_world : (given : Bool) (kept : Option Keeping) → 1 ≤ (if given then 0 else 1) + failures_keeping kept → (not given || kept_failed kept) ≡ true
told_world false kept some = refl
told_world true None some = absurd (omega (arith, some))
told_world true (Some k) some = told_well k.well k.faults some
  where
    told_well : (well : Bool) (faults : ℕ) → 1 ≤ 0 + (if well then 0 else 1) → failed_so well faults ≡ true
    told_well true faults some = absurd (omega (arith, some))
    told_well false faults some = refl

told_object : (given : Bool) (kept : Option Keeping) → 1 ≤ object_faults kept → (not given || kept_failed kept) ≡ true
told_object false kept some = refl
told_object true None some = absurd (omega (arith, some))
told_object true (Some k) some = failed_often k.well k.faults (λ none. omega (arith, some, none))

or_first : (a b : Bool) → a ≡ true → (a || b) ≡ true
or_first true b is = refl
or_first false b is = absurd cc

or_second : (a b : Bool) → b ≡ true → (a || b) ≡ true
or_second true b is = refl
or_second false b is = is

which : (a b : Bool) → (a || b) ≡ true → (a ≡ true) ⊎ (b ≡ true)
which true b some = inl refl
which false b some = inr some

some_more : (a b : ℕ) → 1 ≤ a + b → (1 ≤ a) ⊎ (1 ≤ b)
some_more zero b some = inr (omega (arith, some))
some_more (suc a) b some = inl (omega arith)

-- the faults of an object's entry, by the kind of the object
inputs_of : (input kind : ObjectKind) (n : ℕ) → IsInput input → kind ≡ input → source_faults kind n ≡ n
inputs_of input kind n reads is = ap (λ (k : ObjectKind). source_faults k n) is ∙ reads.inputs n

no_inputs_of : (kind : ObjectKind) (n : ℕ) → kind ≡ kinds.Live → source_faults kind n ≡ 0
no_inputs_of kind n is = ap (λ (k : ObjectKind). source_faults k n) is

outputs_of : (kind : ObjectKind) (n : ℕ) → kind ≡ kinds.Live → live_faults kind n ≡ n
outputs_of kind n is = ap (λ (k : ObjectKind). live_faults k n) is

no_outputs_of : (input kind : ObjectKind) (n : ℕ) → IsInput input → kind ≡ input → live_faults kind n ≡ 0
no_outputs_of input kind n reads is = ap (λ (k : ObjectKind). live_faults k n) is ∙ reads.outputs n

abbrev pub AreKind : ObjectKind → List Opening → Type 0
AreKind kind entries = Each (λ (entry : Opening). entry.kind ≡ kind) entries

rest_kind : (kind : ObjectKind) (x : Opening) (xs : List Opening) → AreKind kind (x ∷ xs) → AreKind kind xs
rest_kind kind x xs are n entry at = are (suc n) entry at

some_has_input : (kind : ObjectKind) → IsInput kind → (xs : List Opening) → AreKind kind xs → some_failed (map has_failed xs) ≡ true → (1 ≤ world_faults xs) ⊎ (1 ≤ input_faults xs)
some_has_input kind reads [] are is = absurd cc
some_has_input kind reads (x ∷ xs) are is = elim (which (has_failed x) (some_failed (map has_failed xs)) is) [
  | inl first ↦ elim (failing x.given x.kept first) [
    | inl world ↦ inl (omega (arith, world))
    | inr object ↦ inr (omega (arith, object, inputs_of kind x.kind (object_faults x.kept) reads (are 0 x refl)))
  ]
  | inr later ↦ elim (some_has_input kind reads xs (rest_kind kind x xs are) later) [ inl world ↦ inl (omega (arith, world)) | inr inputs ↦ inr (omega (arith, inputs)) ]
]

some_has_output : (xs : List Opening) → AreKind kinds.Live xs → list_any has_failed xs ≡ true → (1 ≤ world_faults xs) ⊎ (1 ≤ output_faults xs)
some_has_output [] are is = absurd cc
some_has_output (x ∷ xs) are is = elim (which (has_failed x) (list_any has_failed xs) is) [
  | inl first ↦ elim (failing x.given x.kept first) [
    | inl world ↦ inl (omega (arith, world))
    | inr object ↦ inr (omega (arith, object, outputs_of x.kind (object_faults x.kept) (are 0 x refl)))
  ]
  | inr later ↦ elim (some_has_output xs (rest_kind kinds.Live x xs are) later) [ inl world ↦ inl (omega (arith, world)) | inr outputs ↦ inr (omega (arith, outputs)) ]
]

world_has : (xs : List Opening) → 1 ≤ world_faults xs → list_any has_failed xs ≡ true
world_has [] some = absurd (omega (arith, some))
world_has (x ∷ xs) some = elim (some_more (failures_opening x) (world_faults xs) some) [
  | inl first ↦ or_first (has_failed x) (list_any has_failed xs) (told_world x.given x.kept first)
  | inr later ↦ or_second (has_failed x) (list_any has_failed xs) (world_has xs later)
]

inputs_have : (kind : ObjectKind) → IsInput kind → (xs : List Opening) → AreKind kind xs → 1 ≤ input_faults xs → list_any has_failed xs ≡ true
inputs_have kind reads [] are some = absurd (omega (arith, some))
inputs_have kind reads (x ∷ xs) are some = elim (some_more (source_faults x.kind (object_faults x.kept)) (input_faults xs) some) [
  | inl first ↦ or_first (has_failed x) (list_any has_failed xs) (told_object x.given x.kept (omega (arith, first, inputs_of kind x.kind (object_faults x.kept) reads (are 0 x refl))))
  | inr later ↦ or_second (has_failed x) (list_any has_failed xs) (inputs_have kind reads xs (rest_kind kind x xs are) later)
]

outputs_have : (xs : List Opening) → AreKind kinds.Live xs → 1 ≤ output_faults xs → list_any has_failed xs ≡ true
outputs_have [] are some = absurd (omega (arith, some))
outputs_have (x ∷ xs) are some = elim (some_more (live_faults x.kind (object_faults x.kept)) (output_faults xs) some) [
  | inl first ↦ or_first (has_failed x) (list_any has_failed xs) (told_object x.given x.kept (omega (arith, first, outputs_of x.kind (object_faults x.kept) (are 0 x refl))))
  | inr later ↦ or_second (has_failed x) (list_any has_failed xs) (outputs_have xs (rest_kind kinds.Live x xs are) later)
]

outputs_read_nothing : (xs : List Opening) → AreKind kinds.Live xs → input_faults xs ≡ 0
outputs_read_nothing [] are = refl
outputs_read_nothing (x ∷ xs) are = let more = outputs_read_nothing xs (rest_kind kinds.Live x xs are) in omega (arith, more, no_inputs_of x.kind (object_faults x.kept) (are 0 x refl))

inputs_write_nothing : (kind : ObjectKind) → IsInput kind → (xs : List Opening) → AreKind kind xs → output_faults xs ≡ 0
inputs_write_nothing kind reads [] are = refl
inputs_write_nothing kind reads (x ∷ xs) are = let more = inputs_write_nothing kind reads xs (rest_kind kind x xs are) in omega (arith, more, no_outputs_of kind x.kind (object_faults x.kept) reads (are 0 x refl))

any_flag : (xs : List Opening) → some_failed (map has_failed xs) ≡ list_any has_failed xs
any_flag [] = refl
any_flag (x ∷ xs) = ap (λ (b : Bool). has_failed x || b) (any_flag xs)

-- the entries by names, of the inputs that were reached and of the output, if it was, tell of failures so
pub record EntriesTell (kind : ObjectKind) (inputs : List (List ℕ)) (old new : WorldState) (entries : List Opening) (inputs_failed : List Bool) (out_failed : Bool) : Type 0 where
  pub reads : IsInput kind
  pub read : List Opening
  pub written : List Opening
  pub few : length read ≤ length inputs
  pub parts : entries ≡ read ++ written
  pub sources : AreKind kind read
  pub lives : AreKind kinds.Live written
  pub flags_are : inputs_failed ≡ map has_failed read
  pub out_is : out_failed ≡ list_any has_failed written
  pub counts : CountsKept old new entries

pub names_kept_by : (kind : ObjectKind) (inputs : List (List ℕ)) (out : List ℕ) (old new : WorldState) (entries : List Opening) (inputs_failed : List Bool) (out_failed : Bool) → EntriesTell kind inputs old new entries inputs_failed out_failed
    → AreOpened (wanted (inputs_and_output kind inputs out)) entries → Leaves old new entries → failed_names entries ≡ blamed_names (inputs_and_output kind inputs out) (failed_of inputs_failed out_failed)
    → old.faults < 2 ^ 64 → old.input_faults < 2 ^ 64 → old.output_faults < 2 ^ 64 → NamesKept (inputs_and_output kind inputs out) old new entries inputs_failed out_failed
names_kept_by kind inputs out old new entries inputs_failed out_failed it opened leaves names world_fits inputs_fit outputs_fit =
    let world : world_faults entries ≡ world_faults it.read + world_faults it.written = ap world_faults it.parts ∙ world_faults-append it.read it.written in
    let ins : input_faults entries ≡ input_faults it.read + input_faults it.written = ap input_faults it.parts ∙ input_faults-append it.read it.written in
    let outs : output_faults entries ≡ output_faults it.read + output_faults it.written = ap output_faults it.parts ∙ output_faults-append it.read it.written in
    let no_inputs = outputs_read_nothing it.written it.lives in
    let no_outputs = inputs_write_nothing kind it.reads it.read it.sources in
    let flags : some_failed inputs_failed ≡ list_any has_failed it.read = ap some_failed it.flags_are ∙ any_flag it.read in
    record {
      opened = opened;
      leaves = leaves;
      counts = it.counts;
      few = omega (arith, ap length it.flags_are, length-map it.read has_failed, it.few);
      names_are = names;
      input_cause = λ is. elim (some_has_input kind it.reads it.read it.sources (ap some_failed (sym it.flags_are) ∙ is)) [
        | inl some ↦ inl (omega (arith, it.counts.world, world, some, world_fits))
        | inr some ↦ inr (omega (arith, it.counts.inputs, ins, some, inputs_fit))
      ];
      out_cause = λ is. elim (some_has_output it.written it.lives (sym it.out_is ∙ is)) [
        | inl some ↦ inl (omega (arith, it.counts.world, world, some, world_fits))
        | inr some ↦ inr (omega (arith, it.counts.outputs, outs, some, outputs_fit))
      ];
      inputs_told = λ on rose. flags ∙ inputs_have kind it.reads it.read it.sources (omega (arith, on, it.counts.inputs, ins, no_inputs, rose));
      outputs_told = λ on rose. it.out_is ∙ outputs_have it.written it.lives (omega (arith, on, it.counts.outputs, outs, no_outputs, rose));
      world_told = λ on rose. elim (some_more (world_faults it.read) (world_faults it.written) (omega (arith, on, it.counts.world, world, rose))) [
        | inl some ↦ inl (flags ∙ world_has it.read some)
        | inr some ↦ inr (it.out_is ∙ world_has it.written some)
      ];
    }
