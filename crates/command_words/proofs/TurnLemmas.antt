-- What a walk does at one word.
use Rattle.std.proofs.Common.{◌≡◌, ◌≢◌, ◌==◌, ◌&&◌, ℕ, zero, suc, Bool, true, false, List, [], ◌∷◌, Option, Some, None, refl, sym, ap, ◌∙◌, codes, arith, option_map}
use Rattle.std.specs.Prelude.{⊤, slice_get, fold}
use Rattle.std.specs.Char.{encode_utf8}
use Rattle.std.specs.Str.{IsUtf8, chars, encode_utf8_all}
use Rattle.std.proofs.lemmas.Str.{encodes-chars}
use Rattle.std.specs.Option.{option_map_or}
use Rattle.std.proofs.lemmas.Bool.Decides.{nat_tests}
use Rattle.clap.specs.Lexer.{name_and_value}
use Rattle.clap.specs.Kinds.{Kinds, or_else}
use Rattle.clap.specs.declared.error.kind.ErrorKind.TheVariants.{ArgumentConflict, UnknownArgument}
use Rattle.clap.specs.Walk.{Held, Row, Rule, Text, Step, Waiting, idle, option, positional, plain_word, to_positional, value as place, Walk, after_flag, after_step, arg_by_long, has_row, long_met, settled_rows, used, walked}
use Rattle.clap.specs.Simple.{Shape, new_shape}
use Rattle.clap.specs.Faults.{flags_fault, long_fault, positional_fault, stray_fault, repeat_fault, settle_fault, step_fault, turn_fault, word_fault, walk_fault}
use Rattle.command_words.specs.Synopses.{Synopsis}
use Rattle.command_words.specs.Items.{Word, IsFree, IsOption}
use Rattle.command_words.proofs.RowLemmas.{Said, no_row, no_row_has}
use Rattle.command_words.proofs.RuleLemmas.{flag_rule, named, no_short, option_found, option_rule, place_for, place_found, position_for, rest_rule, rule_for, rules_of, same_position}
use Rattle.command_words.proofs.SynopsisLemmas.{same_text}

-- a command as it is built
abbrev pub leaf : Word → Synopsis → Shape
leaf name synopsis = record (new_shape name) {
  rules = rules_of synopsis;
  no_binary_name = true;
  disable_help_flag = true;
  disable_help_subcommand = true;
  is_built = true;
}

abbrev pub Pending : Type 0
Pending = Option (Text × List Text)

abbrev pub held : List Row → Pending → Held
held rows pending = record { rows = rows; pending = pending; skip = 0 }

-- where a walk stands that met no subcommand
abbrev pub at : List Row → Pending → Waiting → ℕ → Bool → Walk
at rows pending waiting position is_trailing = record {
  held = held rows pending;
  waiting = waiting;
  position = position;
  is_trailing = is_trailing;
  stopped = None;
}

-- the rows with what is pending, and what is wrong with that
abbrev pub rows_in : Synopsis → List Row → Pending → List Row
rows_in synopsis rows pending = settled_rows (rules_of synopsis) pending rows

abbrev pub fault_in : Synopsis → List Row → Pending → Kinds
fault_in synopsis rows pending = settle_fault (rules_of synopsis) false (held rows pending)

abbrev pub walk_on : Synopsis → Walk → List Word → Walk
walk_on synopsis w words = fold (walked (rules_of synopsis) []) w words

-- the walk over the words finds nothing wrong
abbrev pub Passes : Word → Synopsis → Walk → List Word → Type 0
Passes name synopsis w words = (walk_fault (leaf name synopsis) [] w words ≡ []) × (settle_fault (rules_of synopsis) false (walk_on synopsis w words).held ≡ [])

pub first_none : (a b : Kinds) → or_else a b ≡ [] → a ≡ []
first_none [] b none = refl
first_none (k ∷ ks) b none = none

pub second_none : (a b : Kinds) → or_else a b ≡ [] → b ≡ []
second_none [] b none = none
second_none (k ∷ ks) b none = cc

pub both_none : (a b : Kinds) → a ≡ [] → b ≡ [] → or_else a b ≡ []
both_none a b none nothing = rw none nothing

pub passes_first : (name : Word) (synopsis : Synopsis) (w : Walk) (word : Word) (rest : List Word) → Passes name synopsis w (word ∷ rest)
    → (turn_fault (leaf name synopsis) [] w word ≡ []) × Passes name synopsis (walked (rules_of synopsis) [] w word) rest
unfolding walk_fault
passes_first name synopsis w word rest passes = (first_none _ _ passes.0, (second_none _ _ passes.0, passes.1))

pub passes_more : (name : Word) (synopsis : Synopsis) (w : Walk) (word : Word) (rest : List Word) → turn_fault (leaf name synopsis) [] w word ≡ []
    → Passes name synopsis (walked (rules_of synopsis) [] w word) rest → Passes name synopsis w (word ∷ rest)
unfolding walk_fault
passes_more name synopsis w word rest turn passes = (both_none _ _ turn passes.0, passes.1)

pub passes_end : (name : Word) (synopsis : Synopsis) (rows : List Row) (pending : Pending) (waiting : Waiting) (position : ℕ) (is_trailing : Bool) → fault_in synopsis rows pending ≡ [] → Passes name synopsis (at rows pending waiting position is_trailing) []
unfolding walk_fault
passes_end name synopsis rows pending waiting position is_trailing none = (refl, none)

-- ---- words that begin with `--`

abbrev pub long_walked : Synopsis → Word → Waiting → Option Rule → Option Text → List Row → Pending → ℕ → Walk
long_walked synopsis word waiting found value rows pending position =
    let met = long_met (rules_of synopsis) found value (held rows pending) in
    let step = after_flag (rules_of synopsis) waiting word met.0 met.1 in
    after_step (rules_of synopsis) word (at rows pending waiting position false) step.0 step.1

abbrev pub long_turned : Word → Synopsis → Word → Waiting → Option Rule → Option Text → List Row → Pending → ℕ → Kinds
long_turned name synopsis word waiting found value rows pending position =
    let met = long_met (rules_of synopsis) found value (held rows pending) in
    let step = after_flag (rules_of synopsis) waiting word met.0 met.1 in
    or_else (long_fault (rules_of synopsis) false found value (held rows pending)) (step_fault (leaf name synopsis) position step.0 step.1)

abbrev pub dashes : Word → Word
dashes named = 45 ∷ 45 ∷ named

long_walk : (synopsis : Synopsis) (x : ℕ) (xs : Word) (waiting : Waiting) (rows : List Row) (pending : Pending) (position : ℕ)
    → walked (rules_of synopsis) [] (at rows pending waiting position false) (dashes (x ∷ xs))
    ≡ long_walked synopsis (dashes (x ∷ xs)) waiting (arg_by_long (rules_of synopsis) (name_and_value (x ∷ xs)).0) (name_and_value (x ∷ xs)).1 rows pending position
unfolding walked
long_walk synopsis x xs idle rows pending position = refl
long_walk synopsis x xs (option id) rows pending position = refl
long_walk synopsis x xs positional rows pending position = refl

long_turn : (name : Word) (synopsis : Synopsis) (x : ℕ) (xs : Word) (waiting : Waiting) (rows : List Row) (pending : Pending) (position : ℕ)
    → turn_fault (leaf name synopsis) [] (at rows pending waiting position false) (dashes (x ∷ xs))
    ≡ long_turned name synopsis (dashes (x ∷ xs)) waiting (arg_by_long (rules_of synopsis) (name_and_value (x ∷ xs)).0) (name_and_value (x ∷ xs)).1 rows pending position
long_turn name synopsis x xs idle rows pending position = refl
long_turn name synopsis x xs (option id) rows pending position = refl
long_turn name synopsis x xs positional rows pending position = refl

abbrev pub conflict : Word → List Row → Kinds
conflict id rows = or_else (repeat_fault false id rows) []

pub no_conflict : (id : Word) (rows : List Row) → Said rows id None → conflict id rows ≡ []
no_conflict id rows none = rw (no_row_has id rows none) refl

pub conflict_none : (id : Word) (rows : List Row) → conflict id rows ≡ [] → Said rows id None
conflict_none id rows none = no_row id rows (go (has_row id rows) refl)
  where
    go : (t : Bool) → has_row id rows ≡ t → t ≡ false
    go false is = refl
    go true is = let wrong : ArgumentConflict ∷ [] ≡ [] = rw is at none in cc

-- a word that begins with `--`, cut at its first `=`
module _ (name : Word) (synopsis : Synopsis) (x : ℕ) (xs : Word) (waiting : Waiting) (rows : List Row) (pending : Pending) (position : ℕ) (n : Word) (value : Option Text) (rule : Option Rule) where
  pub long_walk_as : name_and_value (x ∷ xs) ≡ (n, value) → arg_by_long (rules_of synopsis) n ≡ rule
      → walked (rules_of synopsis) [] (at rows pending waiting position false) (dashes (x ∷ xs)) ≡ long_walked synopsis (dashes (x ∷ xs)) waiting rule value rows pending position
  long_walk_as cut found =
      long_walk synopsis x xs waiting rows pending position
      ∙ ap (λ (p : Text × Option Text). long_walked synopsis (dashes (x ∷ xs)) waiting (arg_by_long (rules_of synopsis) p.0) p.1 rows pending position) cut
      ∙ ap (λ (r : Option Rule). long_walked synopsis (dashes (x ∷ xs)) waiting r value rows pending position) found

  pub long_turn_as : name_and_value (x ∷ xs) ≡ (n, value) → arg_by_long (rules_of synopsis) n ≡ rule
      → turn_fault (leaf name synopsis) [] (at rows pending waiting position false) (dashes (x ∷ xs)) ≡ long_turned name synopsis (dashes (x ∷ xs)) waiting rule value rows pending position
  long_turn_as cut found =
      long_turn name synopsis x xs waiting rows pending position
      ∙ ap (λ (p : Text × Option Text). long_turned name synopsis (dashes (x ∷ xs)) waiting (arg_by_long (rules_of synopsis) p.0) p.1 rows pending position) cut
      ∙ ap (λ (r : Option Rule). long_turned name synopsis (dashes (x ∷ xs)) waiting r value rows pending position) found

-- what the three kinds of arguments do there
module _ (name : Word) (synopsis : Synopsis) (word : Word) (waiting : Waiting) (rows : List Row) (pending : Pending) (position : ℕ) (n : Word) where
  pub flag_walk : long_walked synopsis word waiting (Some (flag_rule n)) None rows pending position ≡ at (used (flag_rule n) [] (rows_in synopsis rows pending)) None idle position false
  flag_walk = refl

  pub flag_turn : long_turned name synopsis word waiting (Some (flag_rule n)) None rows pending position ≡ or_else (or_else (fault_in synopsis rows pending) (conflict n (rows_in synopsis rows pending))) []
  flag_turn = refl

  pub flag_valued : (value : Text) → long_turned name synopsis word waiting (Some (flag_rule n)) (Some value) rows pending position ≡ [] → ⊥
  flag_valued value none = cc

  pub joined_walk : (value : Text) → long_walked synopsis word waiting (Some (option_rule n)) (Some value) rows pending position ≡ at (used (option_rule n) (value ∷ []) (rows_in synopsis rows pending)) None idle position false
  joined_walk value = refl

  pub joined_turn : (value : Text) → long_turned name synopsis word waiting (Some (option_rule n)) (Some value) rows pending position ≡ or_else (or_else (fault_in synopsis rows pending) (conflict n (rows_in synopsis rows pending))) []
  joined_turn value = refl

  pub apart_walk : long_walked synopsis word waiting (Some (option_rule n)) None rows pending position ≡ at (rows_in synopsis rows pending) (Some (n, [])) (option n) position false
  apart_walk = refl

  pub apart_turn : long_turned name synopsis word waiting (Some (option_rule n)) None rows pending position ≡ or_else (fault_in synopsis rows pending) []
  apart_turn = refl

  pub unknown_turn : (value : Option Text) → long_turned name synopsis word waiting None value rows pending position ≡ [] → ⊥
  unknown_turn value none = cc

-- ---- words that don't begin with `-`

abbrev pub plain_step : Synopsis → Waiting → Word → List Row → Pending → Held × Step
plain_step synopsis waiting word rows pending = plain_word (rules_of synopsis) waiting word (held rows pending)

abbrev pub plain_walked : Synopsis → Waiting → Word → List Row → Pending → ℕ → Walk
plain_walked synopsis waiting word rows pending position =
    let step = plain_step synopsis waiting word rows pending in
    after_step (rules_of synopsis) word (at rows pending waiting position false) step.0 step.1

abbrev pub plain_turned : Word → Synopsis → Waiting → Word → List Row → Pending → ℕ → Kinds
plain_turned name synopsis waiting word rows pending position =
    let step = plain_step synopsis waiting word rows pending in
    step_fault (leaf name synopsis) position step.0 step.1

pub no_dash : (b : ℕ) (bs : Word) → IsFree (b ∷ bs) → (b == 45) ≡ false
no_dash b bs free = let other : b ≢ 45 = λ same. free bs (ap (λ (c : ℕ). c ∷ bs) same) in grind (arith, nat_tests)

pub plain_walk : (synopsis : Synopsis) (word : Word) (waiting : Waiting) (rows : List Row) (pending : Pending) (position : ℕ) → IsFree word
    → walked (rules_of synopsis) [] (at rows pending waiting position false) word ≡ plain_walked synopsis waiting word rows pending position
unfolding walked
plain_walk synopsis [] idle rows pending position free = refl
plain_walk synopsis [] (option id) rows pending position free = refl
plain_walk synopsis [] positional rows pending position free = refl
plain_walk synopsis (b ∷ bs) idle rows pending position free = rw (no_dash b bs free, no_dash b bs free) refl
plain_walk synopsis (b ∷ bs) (option id) rows pending position free = rw (no_dash b bs free, no_dash b bs free) refl
plain_walk synopsis (b ∷ bs) positional rows pending position free = rw (no_dash b bs free, no_dash b bs free) refl

pub plain_turn : (name : Word) (synopsis : Synopsis) (word : Word) (waiting : Waiting) (rows : List Row) (pending : Pending) (position : ℕ) → IsFree word
    → turn_fault (leaf name synopsis) [] (at rows pending waiting position false) word ≡ plain_turned name synopsis waiting word rows pending position
plain_turn name synopsis [] idle rows pending position free = refl
plain_turn name synopsis [] (option id) rows pending position free = refl
plain_turn name synopsis [] positional rows pending position free = refl
plain_turn name synopsis (b ∷ bs) idle rows pending position free = rw (no_dash b bs free, no_dash b bs free) refl
plain_turn name synopsis (b ∷ bs) (option id) rows pending position free = rw (no_dash b bs free, no_dash b bs free) refl
plain_turn name synopsis (b ∷ bs) positional rows pending position free = rw (no_dash b bs free, no_dash b bs free) refl

-- the value of an option
pub value_walk : (synopsis : Synopsis) (word : Word) (n : Word) (rows : List Row) (position : ℕ) → IsOption synopsis n → IsFree word
    → walked (rules_of synopsis) [] (at rows (Some (n, [])) (option n) position false) word ≡ at rows (Some (n, word ∷ [])) idle position false
value_walk synopsis word n rows position is free =
    plain_walk synopsis word (option n) rows (Some (n, [])) position free ∙ rw ((option_found synopsis n is).1, same_text n) refl

pub value_turn : (name : Word) (synopsis : Synopsis) (word : Word) (n : Word) (rows : List Row) (position : ℕ) → IsOption synopsis n → IsFree word
    → turn_fault (leaf name synopsis) [] (at rows (Some (n, [])) (option n) position false) word ≡ []
value_turn name synopsis word n rows position is free =
    plain_turn name synopsis word (option n) rows (Some (n, [])) position free

and_false : (b : Bool) → (b && false) ≡ false
and_false true = refl
and_false false = refl

-- what waits behind a word at a place
abbrev pub waiting_for : ℕ → Waiting
waiting_for zero = idle
waiting_for (suc n) = positional

-- no option waits for a value
abbrev pub IsCalm : Waiting → Type 0
IsCalm idle = ⊤
IsCalm (option name) = ⊥
IsCalm positional = ⊤

pub is_calm : (n : ℕ) → IsCalm (waiting_for n)
is_calm zero = tt
is_calm (suc n) = tt

-- a word at a place
abbrev placed_walk : Synopsis → Word → List Row → Pending → ℕ → Bool → Waiting → Option Rule → Walk
placed_walk synopsis word rows pending position is_trailing waiting found = to_positional (rules_of synopsis) found word (at rows pending waiting position is_trailing) (held rows pending)

last_walk : (synopsis : Synopsis) (word : Word) (rows : List Row) (pending : Pending) (position : ℕ) (is_trailing : Bool) (waiting : Waiting) (id : Word)
    → placed_walk synopsis word rows pending position is_trailing waiting (Some (rest_rule id 2)) ≡ at (rows_in synopsis rows pending) (Some (id, word ∷ [])) positional position is_trailing
last_walk synopsis word rows pending position true waiting id = rw and_false refl
last_walk synopsis word rows pending position false waiting id = rw and_false refl

rule_walk : (synopsis : Synopsis) (word : Word) (rows : List Row) (pending : Pending) (n : ℕ) (is_trailing : Bool) (waiting : Waiting) (id : Word) → place_for synopsis n ≡ Some id
    → placed_walk synopsis word rows pending (position_for synopsis n) is_trailing waiting (Some (rule_for n id)) ≡ at (rows_in synopsis rows pending) (Some (id, word ∷ [])) (waiting_for n) (position_for synopsis (suc n)) is_trailing
rule_walk synopsis word rows pending zero true waiting id is = rw and_false refl
rule_walk synopsis word rows pending zero false waiting id is = rw and_false refl
rule_walk synopsis word rows pending (suc n) is_trailing waiting id is =
    last_walk synopsis word rows pending (position_for synopsis (suc n)) is_trailing waiting id
    ∙ ap (λ (k : ℕ). at (rows_in synopsis rows pending) (Some (id, word ∷ [])) positional k is_trailing) (same_position synopsis n id is ∙ sym (same_position synopsis (suc n) id is))

pub place_walk : (synopsis : Synopsis) (word : Word) (rows : List Row) (pending : Pending) (n : ℕ) (is_trailing : Bool) (waiting : Waiting) (id : Word) → place_for synopsis n ≡ Some id
    → after_step (rules_of synopsis) word (at rows pending waiting (position_for synopsis n) is_trailing) (held rows pending) place ≡ at (rows_in synopsis rows pending) (Some (id, word ∷ [])) (waiting_for n) (position_for synopsis (suc n)) is_trailing
place_walk synopsis word rows pending n is_trailing waiting id is =
    ap (placed_walk synopsis word rows pending (position_for synopsis n) is_trailing waiting) (place_found synopsis n ∙ ap (option_map (rule_for n)) is) ∙ rule_walk synopsis word rows pending n is_trailing waiting id is

abbrev pub place_turned : Word → Synopsis → List Row → Pending → Option Rule → Kinds
place_turned name synopsis rows pending found = option_map_or (λ a. positional_fault (rules_of synopsis) false a (held rows pending)) found (stray_fault (leaf name synopsis))

rule_turn : (name : Word) (synopsis : Synopsis) (rows : List Row) (pending : Pending) (n : ℕ) (id : Word) → place_turned name synopsis rows pending (Some (rule_for n id)) ≡ fault_in synopsis rows pending
rule_turn name synopsis rows pending zero id = rw and_false refl
rule_turn name synopsis rows pending (suc n) id = rw and_false refl

pub place_turn : (name : Word) (synopsis : Synopsis) (rows : List Row) (pending : Pending) (n : ℕ) (id : Word) → place_for synopsis n ≡ Some id
    → step_fault (leaf name synopsis) (position_for synopsis n) (held rows pending) place ≡ fault_in synopsis rows pending
place_turn name synopsis rows pending n id is =
    ap (place_turned name synopsis rows pending) (place_found synopsis n ∙ ap (option_map (rule_for n)) is) ∙ rule_turn name synopsis rows pending n id

pub no_place_turn : (name : Word) (synopsis : Synopsis) (rows : List Row) (pending : Pending) (n : ℕ) → place_for synopsis n ≡ None
    → step_fault (leaf name synopsis) (position_for synopsis n) (held rows pending) place ≡ [] → ⊥
no_place_turn name synopsis rows pending n is none =
    let stray : step_fault (leaf name synopsis) (position_for synopsis n) (held rows pending) place ≡ UnknownArgument ∷ [] = ap (place_turned name synopsis rows pending) (place_found synopsis n ∙ ap (option_map (rule_for n)) is) in cc

-- a word that doesn't begin with `-` goes there where no option waits
pub free_walk : (synopsis : Synopsis) (word : Word) (waiting : Waiting) (rows : List Row) (pending : Pending) (position : ℕ) → IsFree word → IsCalm waiting
    → walked (rules_of synopsis) [] (at rows pending waiting position false) word ≡ after_step (rules_of synopsis) word (at rows pending waiting position false) (held rows pending) place
free_walk synopsis word idle rows pending position free calm = plain_walk synopsis word idle rows pending position free
free_walk synopsis word (option name) rows pending position free calm = absurd calm
free_walk synopsis word positional rows pending position free calm = plain_walk synopsis word positional rows pending position free

pub free_turn : (name : Word) (synopsis : Synopsis) (word : Word) (waiting : Waiting) (rows : List Row) (pending : Pending) (position : ℕ) → IsFree word → IsCalm waiting
    → turn_fault (leaf name synopsis) [] (at rows pending waiting position false) word ≡ step_fault (leaf name synopsis) position (held rows pending) place
free_turn name synopsis word idle rows pending position free calm = plain_turn name synopsis word idle rows pending position free
free_turn name synopsis word (option id) rows pending position free calm = absurd calm
free_turn name synopsis word positional rows pending position free calm = plain_turn name synopsis word positional rows pending position free

-- ---- `--`, and words behind it

pub end_walk : (synopsis : Synopsis) (waiting : Waiting) (rows : List Row) (pending : Pending) (position : ℕ)
    → walked (rules_of synopsis) [] (at rows pending waiting position false) (codes "--") ≡ at rows pending waiting position true
unfolding walked
end_walk synopsis idle rows pending position = refl
end_walk synopsis (option id) rows pending position = refl
end_walk synopsis positional rows pending position = refl

pub end_turn : (name : Word) (synopsis : Synopsis) (waiting : Waiting) (rows : List Row) (pending : Pending) (position : ℕ)
    → turn_fault (leaf name synopsis) [] (at rows pending waiting position false) (codes "--") ≡ []
end_turn name synopsis idle rows pending position = refl
end_turn name synopsis (option id) rows pending position = refl
end_turn name synopsis positional rows pending position = refl

pub behind_walk : (synopsis : Synopsis) (word : Word) (waiting : Waiting) (rows : List Row) (pending : Pending) (position : ℕ)
    → walked (rules_of synopsis) [] (at rows pending waiting position true) word ≡ after_step (rules_of synopsis) word (at rows pending waiting position true) (held rows pending) place
unfolding walked
behind_walk synopsis word waiting rows pending position = refl

pub behind_turn : (name : Word) (synopsis : Synopsis) (word : Word) (waiting : Waiting) (rows : List Row) (pending : Pending) (position : ℕ)
    → turn_fault (leaf name synopsis) [] (at rows pending waiting position true) word ≡ step_fault (leaf name synopsis) position (held rows pending) place
behind_turn name synopsis word waiting rows pending position = refl

-- ---- `-` and letters

pub first_letter : (b : ℕ) (bs : Word) → IsUtf8 (45 ∷ b ∷ bs) → (letter : ℕ) × (slice_get (chars (b ∷ bs)) 0 ≡ Some letter)
unfolding chars encode_utf8
first_letter b bs is = go (chars (b ∷ bs)) refl
  where
    go : (letters : List ℕ) → chars (b ∷ bs) ≡ letters → (letter : ℕ) × (slice_get (chars (b ∷ bs)) 0 ≡ Some letter)
    go [] none =
        let whole : encode_utf8_all (45 ∷ chars (b ∷ bs)) ≡ 45 ∷ b ∷ bs = encodes-chars (45 ∷ b ∷ bs) is in
        let wrong : encode_utf8_all (45 ∷ []) ≡ 45 ∷ b ∷ bs = sym (ap (λ (l : List ℕ). encode_utf8_all (45 ∷ l)) none) ∙ whole in
        let none_such : ⊥ = cc in
        absurd none_such
    go (letter ∷ more) is = (letter, rw is refl)

pub short_turn : (name : Word) (synopsis : Synopsis) (b : ℕ) (bs : Word) (waiting : Waiting) (rows : List Row) (pending : Pending) (position : ℕ) → b ≢ 45 → IsUtf8 (45 ∷ b ∷ bs)
    → turn_fault (leaf name synopsis) [] (at rows pending waiting position false) (45 ∷ b ∷ bs) ≡ [] → ⊥
unfolding flags_fault
short_turn name synopsis b bs idle rows pending position other utf none =
    let letter = first_letter b bs utf in
    let test : (b == 45) ≡ false = grind (arith, nat_tests) in
    let one : word_fault (leaf name synopsis) [] false idle (45 ∷ b ∷ bs) (held rows pending) ≡ [] = first_none _ _ none in
    let wrong : UnknownArgument ∷ [] ≡ [] = rw (test, test, letter.1, no_short synopsis letter.0) at one in cc
short_turn name synopsis b bs (option id) rows pending position other utf none =
    let letter = first_letter b bs utf in
    let test : (b == 45) ≡ false = grind (arith, nat_tests) in
    let one : word_fault (leaf name synopsis) [] false (option id) (45 ∷ b ∷ bs) (held rows pending) ≡ [] = first_none _ _ none in
    let wrong : UnknownArgument ∷ [] ≡ [] = rw (test, test, letter.1, no_short synopsis letter.0) at one in cc
short_turn name synopsis b bs positional rows pending position other utf none =
    let letter = first_letter b bs utf in
    let test : (b == 45) ≡ false = grind (arith, nat_tests) in
    let one : word_fault (leaf name synopsis) [] false positional (45 ∷ b ∷ bs) (held rows pending) ≡ [] = first_none _ _ none in
    let wrong : UnknownArgument ∷ [] ≡ [] = rw (test, test, letter.1, no_short synopsis letter.0) at one in cc
