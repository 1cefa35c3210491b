-- Which parts failed of a command that reads some files and writes one, as the counts and what it told show.
use Rattle.std.proofs.Common.{◌≡◌, ◌⊎◌, ℕ, zero, suc, ◌+◌, ◌≤◌, not, Bool, true, false, cond, ◌||◌, List, [], ◌∷◌, length, map, drop, refl, sym, ap, subst, inl, inr, ◌∙◌, if◌then◌else◌, arith}
use Rattle.std.specs.Prelude.{◌↔◌}
use Rattle.std.proofs.lemmas.Bool.{both_ways}
use Rattle.std.proofs.lemmas.List.{length-map}
use Rattle.std.proofs.lemmas.Option.{same_Some}
use Rattle.mcap_io.specs.Outside.{Rose}
use Rattle.mcap_model.specs.Places.{Has, Each}
use Rattle.command_base.specs.Ran.{AnyRose, first_failed, blamed_among}
use Rattle.command_base.specs.declared.faults.Counts.{Counts}
use Rattle.command_base.specs.declared.blaming.FailedParts.{FailedParts}
use Rattle.command_base.specs.Outputs.{some_failed}
use Rattle.command_base.specs.OutputSteps.{FailsWithCause, flags_of, PartFailed, PartsShow}

first_of_all : (names : List (List ℕ)) (index : ℕ) → index + 1 ≤ length names → true ≡ first_failed (drop index (map (λ (name : List ℕ). true) names))
first_of_all [] index within = absurd (omega (arith, within))
first_of_all (name ∷ names) zero within = refl
first_of_all (name ∷ names) (suc n) within = first_of_all names n (omega (arith, within))

every_of : (names : List (List ℕ)) (every : Bool) (flags : List Bool) (index : ℕ) → every ≡ true → index + 1 ≤ length names → true ≡ first_failed (drop index (if every then map (λ (name : List ℕ). true) names else flags))
every_of names true flags index is within = first_of_all names index within
every_of names false flags index is within = absurd cc

-- where all may have failed, each is blamed
pub every_blamed : (names : List (List ℕ)) (failed : FailedParts) (index : ℕ) → failed.every_input ≡ true → index + 1 ≤ length names → true ≡ first_failed (drop index (flags_of names failed))
every_blamed names failed index is within = every_of names failed.every_input failed.inputs.now index is within

-- so there are some, and as many as names
pub all_blamed : (names : List (List ℕ)) → 1 ≤ length names → some_failed (map (λ (name : List ℕ). true) names) ≡ true
all_blamed [] many = absurd (omega (arith, many))
all_blamed (name ∷ names) many = refl

long_of : (names : List (List ℕ)) (every : Bool) (flags : List Bool) → length flags ≤ length names → length (if every then map (λ (name : List ℕ). true) names else flags) ≤ length names
long_of names true flags few = omega (arith, length-map names (λ (name : List ℕ). true))
long_of names false flags few = few

pub flags_long : (names : List (List ℕ)) (failed : FailedParts) → length failed.inputs.now ≤ length names → length (flags_of names failed) ≤ length names
flags_long names failed few = long_of names failed.every_input failed.inputs.now few

-- ---- the parts

abbrev pub but : Bool → Bool → Bool
but a b = cond a (not b) false

on_or_off : (b : Bool) → (b ≡ true) ⊎ (b ≡ false)
on_or_off true = inl refl
on_or_off false = inr refl

but_both : (a b every : Bool) → every ≡ but a b → a ≡ true → b ≡ false → every ≡ true
but_both true true every is on off = absurd cc
but_both true false every is on off = is
but_both false b every is on off = absurd cc

but_first : (a b every : Bool) → every ≡ but a b → every ≡ true → a ≡ true
but_first true b every is on = refl
but_first false b every is on = absurd (let e = sym is ∙ on in cc)

but_second : (a b every : Bool) → every ≡ but a b → every ≡ true → b ≡ false
but_second true true every is on = absurd (let e = sym is ∙ on in cc)
but_second true false every is on = refl
but_second false b every is on = absurd (let e = sym is ∙ on in cc)

abbrev pub three : Bool → Bool → Bool → Bool
three a b c = a || (b || c)

three_first : (a b c out : Bool) → out ≡ three a b c → a ≡ true → out ≡ true
three_first true b c out is on = is
three_first false b c out is on = absurd cc

three_second : (a b c out : Bool) → out ≡ three a b c → b ≡ true → out ≡ true
three_second true b c out is on = is
three_second false true c out is on = is
three_second false false c out is on = absurd cc

three_third : (a b c out : Bool) → out ≡ three a b c → c ≡ true → out ≡ true
three_third true b c out is on = is
three_third false true c out is on = is
three_third false false true out is on = is
three_third false false false out is on = absurd cc

three_which : (a b c out : Bool) → out ≡ three a b c → out ≡ true → (a ≡ true) ⊎ ((b ≡ true) ⊎ (c ≡ true))
three_which true b c out is on = inl refl
three_which false true c out is on = inr (inl refl)
three_which false false true out is on = inr (inr refl)
three_which false false false out is on = absurd (let e = sym is ∙ on in cc)

three_none : (a b c out : Bool) → out ≡ three a b c → (b ≡ true → a ≡ true) → (c ≡ true → a ≡ true) → out ≡ a
three_none true b c out is first second = is
three_none false true c out is first second = absurd (let e = first refl in cc)
three_none false false true out is first second = absurd (let e = second refl in cc)
three_none false false false out is first second = is

abbrev shown : List (List ℕ) → Bool → List Bool → List Bool
shown names every flags = if every then map (λ (name : List ℕ). true) names else flags

shown_every : (names : List (List ℕ)) (every : Bool) (flags : List Bool) → 1 ≤ length names → every ≡ true → some_failed (shown names every flags) ≡ true
shown_every names true flags many on = all_blamed names many
shown_every names false flags many on = absurd cc

shown_some : (names : List (List ℕ)) (every : Bool) (flags : List Bool) → 1 ≤ length names → some_failed flags ≡ true → some_failed (shown names every flags) ≡ true
shown_some names true flags many some = all_blamed names many
shown_some names false flags many some = some

shown_which : (names : List (List ℕ)) (every : Bool) (flags : List Bool) → some_failed (shown names every flags) ≡ true → (every ≡ true) ⊎ (some_failed flags ≡ true)
shown_which names true flags some = inl refl
shown_which names false flags some = inr some

shown_same : (names : List (List ℕ)) (every : Bool) (flags : List Bool) → every ≡ false → shown names every flags ≡ flags
shown_same names true flags off = absurd cc
shown_same names false flags off = refl

-- what the parts are, from what the counts and what was told say
pub parts_show : (before now : Counts) (names : List (List ℕ)) (inputs_failed : List Bool) (out_failed : Bool) (failed : FailedParts) (some world inputs outputs : Bool) → 1 ≤ length names → some ≡ some_failed inputs_failed
    → ((world ≡ true) ↔ Rose before.world now.world) → ((inputs ≡ true) ↔ Rose before.inputs now.inputs) → ((outputs ≡ true) ↔ Rose before.outputs now.outputs) → ((failed.printing ≡ true) ↔ Rose before.printing now.printing)
    → failed.inputs.now ≡ inputs_failed → failed.every_input ≡ but inputs some → failed.out ≡ three out_failed outputs (but world some)
    → FailsWithCause before now inputs_failed out_failed → PartsShow before now names inputs_failed out_failed failed
parts_show before now names inputs_failed out_failed failed some world inputs outputs many some_is is_world is_inputs is_outputs is_printing told every_is out_is cause =
    let every = failed.every_input in
    let flags = failed.inputs.now in
    let same_some : some_failed flags ≡ some = ap some_failed told ∙ sym some_is in
    let blamed_some : some ≡ true → some_failed (flags_of names failed) ≡ true = λ on. shown_some names every flags many (same_some ∙ on) in
    let inputs_on : inputs ≡ true → (every ≡ true) ⊎ (some ≡ true) = λ on. elim (on_or_off some) [ inl yes_it ↦ inr yes_it | inr off ↦ inl (but_both inputs some every every_is on off) ] in
    let world_on : world ≡ true → (some ≡ true) ⊎ (failed.out ≡ true) = λ on. elim (on_or_off some) [ inl yes_it ↦ inl yes_it | inr off ↦ inr (three_third out_failed outputs (but world some) failed.out out_is (but_both world some (but world some) refl on off)) ] in
    let outputs_on : outputs ≡ true → failed.out ≡ true = λ on. three_second out_failed outputs (but world some) failed.out out_is on in
    let every_rose : every ≡ true → Rose before.inputs now.inputs = λ all. is_inputs.0 (but_first inputs some every every_is all) in
    let flags_rose : some_failed flags ≡ true → Rose before.world now.world ⊎ Rose before.inputs now.inputs = λ one. cause.inputs (sym some_is ∙ sym same_some ∙ one) in
    let out_rose : failed.out ≡ true → Rose before.world now.world ⊎ Rose before.outputs now.outputs = λ on. elim (three_which out_failed outputs (but world some) failed.out out_is on) [
      | inl own ↦ cause.out own
      | inr (inl out) ↦ inr (is_outputs.0 out)
      | inr (inr left) ↦ inl (is_world.0 (but_first world some (but world some) refl left))
    ] in
    record {
      causes = record {
        input_cause = λ on. elim (shown_which names every flags on) [ inl all ↦ inr (every_rose all) | inr one ↦ flags_rose one ];
        out_cause = out_rose;
        inputs_told = λ rose. elim (inputs_on (is_inputs.1 rose)) [ inl all ↦ shown_every names every flags many all | inr one ↦ blamed_some one ];
        outputs_told = λ rose. outputs_on (is_outputs.1 rose);
        world_told = λ rose. elim (world_on (is_world.1 rose)) [ inl one ↦ inl (blamed_some one) | inr out ↦ inr out ];
      };
      printing = is_printing;
      any = (
        λ risen. elim risen [
          | inl rose ↦ elim (world_on (is_world.1 rose)) [ inl one ↦ inr (inl (same_some ∙ one)) | inr out ↦ inr (inr (inl out)) ]
          | inr (inl rose) ↦ elim (inputs_on (is_inputs.1 rose)) [ inl all ↦ inl all | inr one ↦ inr (inl (same_some ∙ one)) ]
          | inr (inr (inl rose)) ↦ inr (inr (inl (outputs_on (is_outputs.1 rose))))
          | inr (inr (inr rose)) ↦ inr (inr (inr (is_printing.1 rose)))
        ],
        λ some_part. elim some_part [
          | inl all ↦ inr (inl (every_rose all))
          | inr (inl one) ↦ elim (flags_rose one) [ inl rose ↦ inl rose | inr rose ↦ inr (inl rose) ]
          | inr (inr (inl out)) ↦ elim (out_rose out) [ inl rose ↦ inl rose | inr rose ↦ inr (inr (inl rose)) ]
          | inr (inr (inr printing)) ↦ inr (inr (inr (is_printing.0 printing)))
        ],
      );
      inputs_told = λ one. blamed_some (some_is ∙ one);
      out_told = λ own. three_first out_failed outputs (but world some) failed.out out_is own;
      told = told;
      inputs_are = λ shows.
          let off : every ≡ false = elim (on_or_off every) [
            | inl on ↦ absurd (both_ways some (but_second inputs some every every_is on) (some_is ∙ shows (every_rose on)))
            | inr it ↦ it
          ] in
          shown_same names every flags off ∙ told;
      out_is = λ first second. three_none out_failed outputs (but world some) failed.out out_is (λ on. first (is_outputs.0 on))
          (λ on. elim (second (is_world.0 (but_first world some (but world some) refl on))) [
            | inl one ↦ absurd (both_ways some (but_second world some (but world some) refl on) (some_is ∙ one))
            | inr own ↦ own
          ]);
    }

-- ---- which names are blamed

pub each_blamed : (P : List ℕ → Type 0) (names : List (List ℕ)) (flags : List Bool) (behind : List (List ℕ)) → ((name : List ℕ) → some_failed flags ≡ true → Has names name → P name) → Each P behind → Each P (blamed_among names flags behind)
each_blamed P [] flags behind first last k name at = last k name at
each_blamed P (n ∷ names) [] behind first last k name at = last k name at
each_blamed P (n ∷ names) (true ∷ flags) behind first last zero name at = subst P (same_Some n name at) (first n refl (0, refl))
each_blamed P (n ∷ names) (true ∷ flags) behind first last (suc k) name at = each_blamed P names flags behind (λ x some has. first x refl (suc has.0, has.1)) last k name at
each_blamed P (n ∷ names) (false ∷ flags) behind first last k name at = each_blamed P names flags behind (λ x some has. first x some (suc has.0, has.1)) last k name at

pub some_blamed : (names : List (List ℕ)) (flags : List Bool) (behind : List (List ℕ)) → length flags ≤ length names → some_failed flags ≡ true → blamed_among names flags behind ≡ [] → ⊥
some_blamed [] [] behind few some none = absurd cc
some_blamed [] (b ∷ flags) behind few some none = absurd (omega (arith, few))
some_blamed (n ∷ names) [] behind few some none = absurd cc
some_blamed (n ∷ names) (true ∷ flags) behind few some none = absurd cc
some_blamed (n ∷ names) (false ∷ flags) behind few some none = some_blamed names flags behind (omega (arith, few)) some none

pub none_behind : (names : List (List ℕ)) (flags : List Bool) (behind : List (List ℕ)) → blamed_among names flags behind ≡ [] → behind ≡ []
none_behind [] flags behind none = none
none_behind (n ∷ names) [] behind none = none
none_behind (n ∷ names) (true ∷ flags) behind none = absurd cc
none_behind (n ∷ names) (false ∷ flags) behind none = none_behind names flags behind none
