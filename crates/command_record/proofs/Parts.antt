-- Tests of which parts of a recording failed.
use Rattle.std.proofs.Common.{◌≡◌, ◌⊎◌, ℕ, ◌≤◌, not, Bool, true, false, cond, ◌||◌, List, length, map, refl, sym, inl, inr, ◌∙◌, if◌then◌else◌}
use Rattle.command_base.specs.Outputs.{some_failed}
use Rattle.command_record.proofs.Flags.{all_blamed}

abbrev pub but : Bool → Bool → Bool
but a b = cond a (not b) false

pub on_or_off : (b : Bool) → (b ≡ true) ⊎ (b ≡ false)
on_or_off true = inl refl
on_or_off false = inr refl

pub but_both : (a b every : Bool) → every ≡ but a b → a ≡ true → b ≡ false → every ≡ true
but_both true true every is on off = absurd cc
but_both true false every is on off = is
but_both false b every is on off = absurd cc

pub but_first : (a b every : Bool) → every ≡ but a b → every ≡ true → a ≡ true
but_first true b every is on = refl
but_first false b every is on = absurd (let e = sym is ∙ on in cc)

pub but_second : (a b every : Bool) → every ≡ but a b → every ≡ true → b ≡ false
but_second true true every is on = absurd (let e = sym is ∙ on in cc)
but_second true false every is on = refl
but_second false b every is on = absurd (let e = sym is ∙ on in cc)

abbrev pub three : Bool → Bool → Bool → Bool
three a b c = a || (b || c)

three_first : (a b c out : Bool) → out ≡ three a b c → a ≡ true → out ≡ true
three_first true b c out is on = is
three_first false b c out is on = absurd cc

pub three_second : (a b c out : Bool) → out ≡ three a b c → b ≡ true → out ≡ true
three_second true b c out is on = is
three_second false true c out is on = is
three_second false false c out is on = absurd cc

pub three_third : (a b c out : Bool) → out ≡ three a b c → c ≡ true → out ≡ true
three_third true b c out is on = is
three_third false true c out is on = is
three_third false false true out is on = is
three_third false false false out is on = absurd cc

pub three_which : (a b c out : Bool) → out ≡ three a b c → out ≡ true → (a ≡ true) ⊎ ((b ≡ true) ⊎ (c ≡ true))
three_which true b c out is on = inl refl
three_which false true c out is on = inr (inl refl)
three_which false false true out is on = inr (inr refl)
three_which false false false out is on = absurd (let e = sym is ∙ on in cc)

pub three_none : (a b c out : Bool) → out ≡ three a b c → (b ≡ true → a ≡ true) → (c ≡ true → a ≡ true) → out ≡ a
three_none true b c out is first second = is
three_none false true c out is first second = absurd (let e = first refl in cc)
three_none false false true out is first second = absurd (let e = second refl in cc)
three_none false false false out is first second = is

abbrev pub shown : List (List ℕ) → Bool → List Bool → List Bool
shown feeds every flags = if every then map (λ (feed : List ℕ). true) feeds else flags

pub shown_every : (feeds : List (List ℕ)) (every : Bool) (flags : List Bool) → 1 ≤ length feeds → every ≡ true → some_failed (shown feeds every flags) ≡ true
shown_every feeds true flags many on = all_blamed feeds many
shown_every feeds false flags many on = absurd cc

pub shown_some : (feeds : List (List ℕ)) (every : Bool) (flags : List Bool) → 1 ≤ length feeds → some_failed flags ≡ true → some_failed (shown feeds every flags) ≡ true
shown_some feeds true flags many some = all_blamed feeds many
shown_some feeds false flags many some = some

pub shown_which : (feeds : List (List ℕ)) (every : Bool) (flags : List Bool) → some_failed (shown feeds every flags) ≡ true → (every ≡ true) ⊎ (some_failed flags ≡ true)
shown_which feeds true flags some = inl refl
shown_which feeds false flags some = inr some

pub shown_same : (feeds : List (List ℕ)) (every : Bool) (flags : List Bool) → every ≡ false → shown feeds every flags ≡ flags
shown_same feeds true flags off = absurd cc
shown_same feeds false flags off = refl
