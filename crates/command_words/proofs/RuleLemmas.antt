-- The arguments of each command, as they are built, and which of them a name or a place leads to.
use Rattle.std.proofs.Common.{◌≡◌, ◌≢◌, ◌⊎◌, ◌==◌, ◌&&◌, ◌++◌, ℕ, zero, suc, Bool, false, not, List, [], ◌∷◌, Option, Some, None, refl, sym, ap, subst, inl, inr, ◌∙◌, arith, option_map}
use Rattle.std.specs.Prelude.{◌≤◌, drop, find, is_some, map, take}
use Rattle.std.specs.Option.{option_map_or, option_to_list}
use Rattle.std.specs.Str.{bytes_eq}
use Rattle.std.proofs.lemmas.Option.{same_Some}
use Rattle.std.proofs.lemmas.Slice.Eq.{bytes_eq-Decides}
use Rattle.std.proofs.lemmas.Bool.Decides.{nat_tests}
use Rattle.clap.specs.Walk.{Rule, arg_by_id, arg_by_index, arg_by_long, arg_by_short, has_long, has_short}
use Rattle.clap.specs.Simple.{filled, new_rule, with_index}
use Rattle.clap.specs.declared.builder.action.ArgAction.TheVariants.{Append, SetTrue}
use Rattle.command_words.specs.Synopses.{IsOneOf, Synopsis, places_with}
use Rattle.command_words.specs.Items.{Word, IsFlag, IsOption}
use Rattle.command_words.specs.Matches.{AtPlaces, AtPlacesIn, TakesPositionals, HasRoomIn}
use Rattle.command_words.proofs.ItemLemmas.{flag_or_option}
use Rattle.command_words.proofs.SynopsisLemmas.{among, flag_or_place_in, is_text, option_or_place_in, or_false, same_text, two_places_in, unlike_text}

abbrev pub flag_rule : Word → Rule
flag_rule name = filled (record (new_rule name) { long = Some name; action = Some SetTrue })

abbrev pub option_rule : Word → Rule
option_rule name = filled (record (new_rule name) { long = Some name })

abbrev pub place_rule : Word → ℕ → Rule
place_rule id index = with_index index (filled (new_rule id))

abbrev pub rest_rule : Word → ℕ → Rule
rest_rule id index = with_index index (filled (record (new_rule id) { action = Some Append }))

-- the positionals of a command, numbered
abbrev pub rest_rules : Option Word → List Rule
rest_rules None = []
rest_rules (Some id) = rest_rule id 2 ∷ []

abbrev pub place_rules : Synopsis → List Rule
place_rules synopsis = place_rule synopsis.first 1 ∷ rest_rules synopsis.rest

-- the arguments of a command
abbrev pub rules_of : Synopsis → List Rule
rules_of synopsis = map flag_rule synopsis.flags ++ (map option_rule synopsis.options ++ place_rules synopsis)

-- ---- the first argument that a test finds among those of some names

module _ (test : Rule → Bool) (make : Word → Rule) where
  -- where it finds none of them
  skipped : (names : List Word) (more : List Rule) → ((n : Word) → test (make n) ≡ false) → find test (map make names ++ more) ≡ find test more
  skipped [] more tests = refl
  skipped (n ∷ names) more tests = rw (tests n) (skipped names more tests)

  module _ (name : Word) (tests : (n : Word) → test (make n) ≡ bytes_eq n name) where
    -- where it asks for one of the names
    first_named : (names : List Word) (more : List Rule) → IsOneOf names name → find test (map make names ++ more) ≡ Some (make name)
    first_named [] more is = absurd is
    first_named (n ∷ names) more is = elim (is_text n name) [
      | inl same ↦ subst (λ (w : Word). find test (make n ∷ (map make names ++ more)) ≡ Some (make w)) same (rw (tests n, (bytes_eq-Decides n name).1 same) refl)
      | inr differ ↦ elim is [
        | inl same ↦ absurd (unlike_text n name differ (sym same))
        | inr later ↦ rw (tests n, differ) (first_named names more later)
      ]
    ]

    none_named : (names : List Word) (more : List Rule) → (IsOneOf names name → ⊥) → find test (map make names ++ more) ≡ find test more
    none_named [] more none = refl
    none_named (n ∷ names) more none = elim (is_text n name) [
      | inl same ↦ absurd (none (inl (sym same)))
      | inr differ ↦ rw (tests n, differ) (none_named names more (λ later. none (inr later)))
    ]

abbrev by_long : Word → Rule → Bool
by_long name a = not (is_some a.index) && has_long a name

abbrev by_short : ℕ → Rule → Bool
by_short letter a = not (is_some a.index) && has_short a letter

abbrev by_id : Word → Rule → Bool
by_id id a = bytes_eq a.id id

abbrev by_index : ℕ → Rule → Bool
by_index i a = option_map_or (λ k. k == i) a.index false

-- ---- flags and options

no_long : (first : Word) (rest : Option Word) (name : Word) → find (by_long name) (place_rule first 1 ∷ rest_rules rest) ≡ None
no_long first None name = refl
no_long first (Some id) name = refl

no_letter : (first : Word) (rest : Option Word) (letter : ℕ) → find (by_short letter) (place_rule first 1 ∷ rest_rules rest) ≡ None
no_letter first None letter = refl
no_letter first (Some id) letter = refl

-- a name is a flag's, an option's or none
abbrev pub Named : Synopsis → Word → Type 0
Named synopsis name = IsFlag synopsis name ⊎ (IsOption synopsis name ⊎ (arg_by_long (rules_of synopsis) name ≡ None))

pub named : (synopsis : Synopsis) (name : Word) → Named synopsis name
named synopsis name =
    let flags = synopsis.flags in
    let options = synopsis.options in
    elim (among flags name) [
      | inl is ↦ inl is
      | inr no_flag ↦ elim (among options name) [
        | inl is ↦ inr (inl is)
        | inr no_option ↦ inr (inr (
            none_named (by_long name) flag_rule name (λ n. or_false (bytes_eq n name)) flags (map option_rule options ++ place_rules synopsis) no_flag
            ∙ none_named (by_long name) option_rule name (λ n. or_false (bytes_eq n name)) options (place_rules synopsis) no_option
            ∙ no_long synopsis.first synopsis.rest name))
      ]
    ]

-- by its name and by its id an argument is found
abbrev pub Found : Synopsis → Word → Rule → Type 0
Found synopsis name rule = (arg_by_long (rules_of synopsis) name ≡ Some rule) × (arg_by_id (rules_of synopsis) name ≡ Some rule)

pub flag_found : (synopsis : Synopsis) (name : Word) → IsFlag synopsis name → Found synopsis name (flag_rule name)
flag_found synopsis name is =
    let more = map option_rule synopsis.options ++ place_rules synopsis in (
      first_named (by_long name) flag_rule name (λ n. or_false (bytes_eq n name)) synopsis.flags more is,
      first_named (by_id name) flag_rule name (λ n. refl) synopsis.flags more is,
    )

pub option_found : (synopsis : Synopsis) (name : Word) → IsOption synopsis name → Found synopsis name (option_rule name)
option_found synopsis name is =
    let flags = synopsis.flags in
    let options = synopsis.options in
    let more = map option_rule options ++ place_rules synopsis in
    let no_flag : IsOneOf flags name → ⊥ = λ flag. flag_or_option synopsis name flag is in (
      none_named (by_long name) flag_rule name (λ n. or_false (bytes_eq n name)) flags more no_flag
          ∙ first_named (by_long name) option_rule name (λ n. or_false (bytes_eq n name)) options (place_rules synopsis) is,
      none_named (by_id name) flag_rule name (λ n. refl) flags more no_flag ∙ first_named (by_id name) option_rule name (λ n. refl) options (place_rules synopsis) is,
    )

pub no_short : (synopsis : Synopsis) (letter : ℕ) → arg_by_short (rules_of synopsis) letter ≡ None
no_short synopsis letter =
    skipped (by_short letter) flag_rule synopsis.flags (map option_rule synopsis.options ++ place_rules synopsis) (λ n. refl)
    ∙ skipped (by_short letter) option_rule synopsis.options (place_rules synopsis) (λ n. refl)
    ∙ no_letter synopsis.first synopsis.rest letter

-- ---- positionals

abbrev pub IsPlace : Synopsis → Word → Type 0
IsPlace synopsis id = IsOneOf (places_with synopsis.first synopsis.rest) id

abbrev pub place_in : Word → Option Word → ℕ → Option Word
place_in first rest zero = Some first
place_in first rest (suc n) = rest

-- the positional that takes a word behind so many, and where it stands
abbrev pub place_for : Synopsis → ℕ → Option Word
place_for synopsis n = place_in synopsis.first synopsis.rest n

abbrev pub later_position : Option Word → ℕ → ℕ
later_position None n = suc (suc n)
later_position (Some id) n = 2

abbrev pub position_for : Synopsis → ℕ → ℕ
position_for synopsis zero = 1
position_for synopsis (suc zero) = 2
position_for synopsis (suc (suc n)) = later_position synopsis.rest (suc n)

abbrev pub rule_for : ℕ → Word → Rule
rule_for zero id = place_rule id 1
rule_for (suc n) id = rest_rule id 2

-- behind the first positional the place stays the same where there is another
pub same_position : (synopsis : Synopsis) (n : ℕ) (id : Word) → synopsis.rest ≡ Some id → position_for synopsis (suc n) ≡ 2
same_position synopsis zero id is = refl
same_position synopsis (suc n) id is = ap (λ (rest : Option Word). later_position rest (suc n)) is

past_one : (n : ℕ) → (1 == suc (suc n)) ≡ false
past_one n = grind (arith, nat_tests)

later_found : (first : Word) (rest : Option Word) (n : ℕ) → find (by_index (later_position rest (suc n))) (place_rule first 1 ∷ rest_rules rest) ≡ option_map (rule_for (suc (suc n))) rest
later_found first None n = rw (past_one (suc n)) refl
later_found first (Some id) n = refl

second_found : (first : Word) (rest : Option Word) → find (by_index 2) (place_rule first 1 ∷ rest_rules rest) ≡ option_map (rule_for 1) rest
second_found first None = refl
second_found first (Some id) = refl

places_found : (synopsis : Synopsis) (n : ℕ) → find (by_index (position_for synopsis n)) (place_rules synopsis) ≡ option_map (rule_for n) (place_for synopsis n)
places_found synopsis zero = refl
places_found synopsis (suc zero) = second_found synopsis.first synopsis.rest
places_found synopsis (suc (suc n)) = later_found synopsis.first synopsis.rest n

pub place_found : (synopsis : Synopsis) (n : ℕ) → arg_by_index (rules_of synopsis) (position_for synopsis n) ≡ option_map (rule_for n) (place_for synopsis n)
place_found synopsis n =
    skipped (by_index (position_for synopsis n)) flag_rule synopsis.flags (map option_rule synopsis.options ++ place_rules synopsis) (λ name. refl)
    ∙ skipped (by_index (position_for synopsis n)) option_rule synopsis.options (place_rules synopsis) (λ name. refl)
    ∙ places_found synopsis n

pub place_is : (synopsis : Synopsis) (n : ℕ) (id : Word) → place_for synopsis n ≡ Some id → IsPlace synopsis id
place_is synopsis zero id is = inl (sym (same_Some synopsis.first id is))
place_is synopsis (suc n) id is = inr (subst (λ (rest : Option Word). IsOneOf (option_to_list rest) id) (sym is) (inl refl))

pub option_not_place : (synopsis : Synopsis) (name id : Word) → IsOption synopsis name → IsPlace synopsis id → name ≢ id
option_not_place synopsis name id option place same = option_or_place_in synopsis id (subst (IsOption synopsis) same option) place

pub flag_not_place : (synopsis : Synopsis) (name id : Word) → IsFlag synopsis name → IsPlace synopsis id → name ≢ id
flag_not_place synopsis name id flag place same = flag_or_place_in synopsis id (subst (IsFlag synopsis) same flag) place

pub two_places : (synopsis : Synopsis) (id : Word) → synopsis.rest ≡ Some id → synopsis.first ≢ id
two_places synopsis = two_places_in synopsis

last_by_id : (synopsis : Synopsis) (n : ℕ) (id : Word) → place_for synopsis n ≡ Some id → find (by_id id) (place_rules synopsis) ≡ Some (rule_for n id)
last_by_id synopsis zero id is =
    let same = same_Some synopsis.first id is in
    subst (λ (i : Word). find (by_id i) (place_rules synopsis) ≡ Some (place_rule i 1)) same (rw (same_text synopsis.first) refl)
last_by_id synopsis (suc n) id is = elim (is_text synopsis.first id) [
  | inl same ↦ absurd (two_places synopsis id is same)
  | inr differ ↦
      subst (λ (rest : Option Word). find (by_id id) (place_rule synopsis.first 1 ∷ rest_rules rest) ≡ Some (rest_rule id 2)) (sym is) (rw (differ, same_text id) refl)
]

pub place_by_id : (synopsis : Synopsis) (n : ℕ) (id : Word) → place_for synopsis n ≡ Some id → arg_by_id (rules_of synopsis) id ≡ Some (rule_for n id)
place_by_id synopsis n id is =
    let place = place_is synopsis n id is in
    none_named (by_id id) flag_rule id (λ name. refl) synopsis.flags (map option_rule synopsis.options ++ place_rules synopsis) (λ flag. flag_or_place_in synopsis id flag place)
    ∙ none_named (by_id id) option_rule id (λ name. refl) synopsis.options (place_rules synopsis) (λ option. option_or_place_in synopsis id option place)
    ∙ last_by_id synopsis n id is

places_turned : (first : Word) (rest : Option Word) (words : List Word) (Has Gets : Word → List Word → Type 0) → ((id : Word) (some : List Word) → IsOneOf (places_with first rest) id → Has id some → Gets id some) → AtPlacesIn first rest words Has → AtPlacesIn first rest words Gets
places_turned first None words Has Gets turn has = turn first words (inl refl) has
places_turned first (Some rest) words Has Gets turn has = (turn first (take 1 words) (inl refl) has.0, turn rest (drop 1 words) (inr (inl refl)) has.1)

-- what holds of the words of each positional holds as well of the other, where the ids are positionals'
pub places_map : (synopsis : Synopsis) (words : List Word) (Has Gets : Word → List Word → Type 0) → ((id : Word) (some : List Word) → IsPlace synopsis id → Has id some → Gets id some) → AtPlaces synopsis words Has → AtPlaces synopsis words Gets
places_map synopsis = places_turned synopsis.first synopsis.rest

-- ---- how many

room_in : (first : Word) (rest : Option Word) (n : ℕ) → HasRoomIn rest (suc n) → (id : Word) × (place_in first rest n ≡ Some id)
room_in first rest zero fits = (first, refl)
room_in first None (suc n) fits = absurd (omega (arith, fits))
room_in first (Some id) (suc n) fits = (id, refl)

pub room : (synopsis : Synopsis) (n : ℕ) → TakesPositionals synopsis (suc n) → (id : Word) × (place_for synopsis n ≡ Some id)
room synopsis = room_in synopsis.first synopsis.rest

has_room_in : (first : Word) (rest : Option Word) (n : ℕ) (id : Word) → place_in first rest n ≡ Some id → HasRoomIn rest (suc n)
has_room_in first None zero id is = omega arith
has_room_in first None (suc n) id is = cc
has_room_in first (Some rest) n id is = tt

pub has_room : (synopsis : Synopsis) (n : ℕ) (id : Word) → place_for synopsis n ≡ Some id → TakesPositionals synopsis (suc n)
has_room synopsis = has_room_in synopsis.first synopsis.rest

room_less_in : (rest : Option Word) (m n : ℕ) → m ≤ n → HasRoomIn rest n → HasRoomIn rest m
room_less_in None m n less fits = omega (arith, less, fits)
room_less_in (Some id) m n less fits = tt

pub room_less : (synopsis : Synopsis) (m n : ℕ) → m ≤ n → TakesPositionals synopsis n → TakesPositionals synopsis m
room_less synopsis = room_less_in synopsis.rest
