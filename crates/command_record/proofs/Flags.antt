-- Which of the feeds are blamed.
use Rattle.std.proofs.Common.{◌≡◌, ◌⊎◌, ℕ, zero, suc, ◌+◌, ◌≤◌, not, Bool, true, false, ◌||◌, Option, Some, None, List, [], ◌∷◌, length, map, drop, refl, sym, ap, subst, inl, inr, if◌then◌else◌, arith}
use Rattle.std.specs.List.{list_any}
use Rattle.std.proofs.lemmas.List.{length-map}
use Rattle.mcap_io.specs.Outside.{Opening, Keeping}
use Rattle.mcap_io.specs.declared.outside.ObjectKind.{ObjectKind}
use Rattle.mcap_io.specs.declared.outside.ObjectKind.TheVariants as kinds
use Rattle.mcap_model.specs.Places.{Each}
use Rattle.command_base.specs.Ran.{first_failed, has_failed, failed_so, kept_failed, failures_keeping, failures_opening, object_faults, source_faults, live_faults, world_faults, input_faults, output_faults}
use Rattle.command_base.proofs.Counting.{failed_often}
use Rattle.command_base.specs.declared.blaming.FailedParts.{FailedParts}
use Rattle.command_base.specs.Outputs.{some_failed}
use Rattle.command_base.specs.OutputSteps.{flags_of}

first_of_all : (feeds : List (List ℕ)) (index : ℕ) → index + 1 ≤ length feeds → true ≡ first_failed (drop index (map (λ (feed : List ℕ). true) feeds))
first_of_all [] index within = absurd (omega (arith, within))
first_of_all (feed ∷ feeds) zero within = refl
first_of_all (feed ∷ feeds) (suc n) within = first_of_all feeds n (omega (arith, within))

pub every_of : (feeds : List (List ℕ)) (every : Bool) (flags : List Bool) (index : ℕ) → every ≡ true → index + 1 ≤ length feeds → true ≡ first_failed (drop index (if every then map (λ (feed : List ℕ). true) feeds else flags))
every_of feeds true flags index is within = first_of_all feeds index within
every_of feeds false flags index is within = absurd cc

-- there are some, and as many as feeds
pub all_blamed : (feeds : List (List ℕ)) → 1 ≤ length feeds → some_failed (map (λ (feed : List ℕ). true) feeds) ≡ true
all_blamed [] many = absurd (omega (arith, many))
all_blamed (feed ∷ feeds) many = refl

some_of : (feeds : List (List ℕ)) (every : Bool) (flags : List Bool) → (every ≡ true) ⊎ (some_failed flags ≡ true) → 1 ≤ length feeds → some_failed (if every then map (λ (feed : List ℕ). true) feeds else flags) ≡ true
some_of feeds true flags some many = all_blamed feeds many
some_of feeds false flags (inl is) many = absurd cc
some_of feeds false flags (inr is) many = is

pub every_caused : (feeds : List (List ℕ)) (failed : FailedParts) → (failed.every_input ≡ true) ⊎ (some_failed failed.inputs.now ≡ true) → 1 ≤ length feeds → some_failed (flags_of feeds failed) ≡ true
every_caused feeds failed some many = some_of feeds failed.every_input failed.inputs.now some many

pub long_of : (feeds : List (List ℕ)) (every : Bool) (flags : List Bool) → length flags ≤ length feeds → length (if every then map (λ (feed : List ℕ). true) feeds else flags) ≤ length feeds
long_of feeds true flags few = omega (arith, length-map feeds (λ (feed : List ℕ). true))
long_of feeds false flags few = few

-- ---- what entries tell of failures

failed_why : (well : Bool) (faults : ℕ) → failed_so well faults ≡ true → (well ≡ false) ⊎ (faults ≡ 0 → ⊥)
failed_why false faults is = inl refl
failed_why true zero is = absurd cc
failed_why true (suc n) is = inr (λ none. omega (arith, none))

-- why an entry tells of a failure
pub failing : (given : Bool) (kept : Option Keeping) → (not given || kept_failed kept) ≡ true → (1 ≤ (if given then 0 else 1) + failures_keeping kept) ⊎ (1 ≤ object_faults kept)
failing false kept is = inl (omega arith)
failing true None is = absurd cc
failing true (Some k) is = elim (failed_why k.well k.faults is) [
  | inl ill ↦ inl (subst (λ (b : Bool). 1 ≤ 0 + (if b then 0 else 1)) (sym ill) (omega arith))
  | inr some ↦ inr (positive k.faults some)
]
  where
    positive : (n : ℕ) → (n ≡ 0 → ⊥) → 1 ≤ n
    positive zero some = absurd (some refl)
    positive (suc n) some = omega arith

told_world : (given : Bool) (kept : Option Keeping) → 1 ≤ (if given then 0 else 1) + failures_keeping kept → (not given || kept_failed kept) ≡ true
told_world false kept some = refl
told_world true None some = absurd (omega (arith, some))
told_world true (Some k) some = told_well k.well k.faults some
  where
    told_well : (well : Bool) (faults : ℕ) → 1 ≤ 0 + (if well then 0 else 1) → failed_so well faults ≡ true
    told_well true faults some = absurd (omega (arith, some))
    told_well false faults some = refl

pub told_object : (given : Bool) (kept : Option Keeping) → 1 ≤ object_faults kept → (not given || kept_failed kept) ≡ true
told_object false kept some = refl
told_object true None some = absurd (omega (arith, some))
told_object true (Some k) some = failed_often k.well k.faults (λ none. omega (arith, some, none))

pub or_first : (a b : Bool) → a ≡ true → (a || b) ≡ true
or_first true b is = refl
or_first false b is = absurd cc

pub or_second : (a b : Bool) → b ≡ true → (a || b) ≡ true
or_second true b is = refl
or_second false b is = is

pub which : (a b : Bool) → (a || b) ≡ true → (a ≡ true) ⊎ (b ≡ true)
which true b some = inl refl
which false b some = inr some

pub some_more : (a b : ℕ) → 1 ≤ a + b → (1 ≤ a) ⊎ (1 ≤ b)
some_more zero b some = inr (omega (arith, some))
some_more (suc a) b some = inl (omega arith)

-- the faults of an object's entry, by the kind of the object
inputs_of : (kind : ObjectKind) (n : ℕ) → kind ≡ kinds.Source → source_faults kind n ≡ n
inputs_of kind n is = ap (λ (k : ObjectKind). source_faults k n) is

no_inputs_of : (kind : ObjectKind) (n : ℕ) → kind ≡ kinds.Live → source_faults kind n ≡ 0
no_inputs_of kind n is = ap (λ (k : ObjectKind). source_faults k n) is

outputs_of : (kind : ObjectKind) (n : ℕ) → kind ≡ kinds.Live → live_faults kind n ≡ n
outputs_of kind n is = ap (λ (k : ObjectKind). live_faults k n) is

no_outputs_of : (kind : ObjectKind) (n : ℕ) → kind ≡ kinds.Source → live_faults kind n ≡ 0
no_outputs_of kind n is = ap (λ (k : ObjectKind). live_faults k n) is

abbrev pub AreKind : ObjectKind → List Opening → Type 0
AreKind kind entries = Each (λ (entry : Opening). entry.kind ≡ kind) entries

pub rest_kind : (kind : ObjectKind) (x : Opening) (xs : List Opening) → AreKind kind (x ∷ xs) → AreKind kind xs
rest_kind kind x xs are n entry at = are (suc n) entry at

pub some_has_input : (xs : List Opening) → AreKind kinds.Source xs → some_failed (map has_failed xs) ≡ true → (1 ≤ world_faults xs) ⊎ (1 ≤ input_faults xs)
some_has_input [] are is = absurd cc
some_has_input (x ∷ xs) are is = elim (which (has_failed x) (some_failed (map has_failed xs)) is) [
  | inl first ↦ elim (failing x.given x.kept first) [
    | inl world ↦ inl (omega (arith, world))
    | inr object ↦ inr (omega (arith, object, inputs_of x.kind (object_faults x.kept) (are 0 x refl)))
  ]
  | inr later ↦ elim (some_has_input xs (rest_kind kinds.Source x xs are) later) [ inl world ↦ inl (omega (arith, world)) | inr inputs ↦ inr (omega (arith, inputs)) ]
]

pub some_has_output : (xs : List Opening) → AreKind kinds.Live xs → list_any has_failed xs ≡ true → (1 ≤ world_faults xs) ⊎ (1 ≤ output_faults xs)
some_has_output [] are is = absurd cc
some_has_output (x ∷ xs) are is = elim (which (has_failed x) (list_any has_failed xs) is) [
  | inl first ↦ elim (failing x.given x.kept first) [
    | inl world ↦ inl (omega (arith, world))
    | inr object ↦ inr (omega (arith, object, outputs_of x.kind (object_faults x.kept) (are 0 x refl)))
  ]
  | inr later ↦ elim (some_has_output xs (rest_kind kinds.Live x xs are) later) [ inl world ↦ inl (omega (arith, world)) | inr outputs ↦ inr (omega (arith, outputs)) ]
]

pub world_has : (xs : List Opening) → 1 ≤ world_faults xs → list_any has_failed xs ≡ true
world_has [] some = absurd (omega (arith, some))
world_has (x ∷ xs) some = elim (some_more (failures_opening x) (world_faults xs) some) [
  | inl first ↦ or_first (has_failed x) (list_any has_failed xs) (told_world x.given x.kept first)
  | inr later ↦ or_second (has_failed x) (list_any has_failed xs) (world_has xs later)
]

pub inputs_have : (xs : List Opening) → AreKind kinds.Source xs → 1 ≤ input_faults xs → list_any has_failed xs ≡ true
inputs_have [] are some = absurd (omega (arith, some))
inputs_have (x ∷ xs) are some = elim (some_more (source_faults x.kind (object_faults x.kept)) (input_faults xs) some) [
  | inl first ↦ or_first (has_failed x) (list_any has_failed xs) (told_object x.given x.kept (omega (arith, first, inputs_of x.kind (object_faults x.kept) (are 0 x refl))))
  | inr later ↦ or_second (has_failed x) (list_any has_failed xs) (inputs_have xs (rest_kind kinds.Source x xs are) later)
]

pub outputs_have : (xs : List Opening) → AreKind kinds.Live xs → 1 ≤ output_faults xs → list_any has_failed xs ≡ true
outputs_have [] are some = absurd (omega (arith, some))
outputs_have (x ∷ xs) are some = elim (some_more (live_faults x.kind (object_faults x.kept)) (output_faults xs) some) [
  | inl first ↦ or_first (has_failed x) (list_any has_failed xs) (told_object x.given x.kept (omega (arith, first, outputs_of x.kind (object_faults x.kept) (are 0 x refl))))
  | inr later ↦ or_second (has_failed x) (list_any has_failed xs) (outputs_have xs (rest_kind kinds.Live x xs are) later)
]

pub stores_read_nothing : (xs : List Opening) → AreKind kinds.Live xs → input_faults xs ≡ 0
stores_read_nothing [] are = refl
stores_read_nothing (x ∷ xs) are = let more = stores_read_nothing xs (rest_kind kinds.Live x xs are) in omega (arith, more, no_inputs_of x.kind (object_faults x.kept) (are 0 x refl))

pub feeds_write_nothing : (xs : List Opening) → AreKind kinds.Source xs → output_faults xs ≡ 0
feeds_write_nothing [] are = refl
feeds_write_nothing (x ∷ xs) are = let more = feeds_write_nothing xs (rest_kind kinds.Source x xs are) in omega (arith, more, no_outputs_of x.kind (object_faults x.kept) (are 0 x refl))

pub any_flag : (xs : List Opening) → some_failed (map has_failed xs) ≡ list_any has_failed xs
any_flag [] = refl
any_flag (x ∷ xs) = ap (λ (b : Bool). has_failed x || b) (any_flag xs)
