-- How a command is written: its name, its flags, its options and its positionals.
use Rattle.std.specs.Prelude.{◌≡◌, ◌⊎◌, ◌==◌, ◌&&◌, ◌||◌, ℕ, Bool, true, false, not, List, [], ◌∷◌, ◌++◌, Option}
use Rattle.std.specs.Option.{option_to_list}
use Rattle.std.specs.Str.{bytes_eq}
use Rattle.command_words.specs.Defaults.{Word}

-- the name is one of these
abbrev pub IsOneOf : List Word → Word → Type 0
IsOneOf [] name = ⊥
IsOneOf (other ∷ others) name = (name ≡ other) ⊎ IsOneOf others name

-- the same as a test
abbrev pub has_name : List Word → Word → Bool
has_name [] name = false
has_name (other ∷ others) name = bytes_eq other name || has_name others name

-- no two of the names are equal
abbrev pub are_distinct : List Word → Bool
are_distinct [] = true
are_distinct (name ∷ others) = not (has_name others name) && are_distinct others

-- no `=` stands in the text
abbrev pub has_no_equals : List ℕ → Bool
has_no_equals [] = true
has_no_equals (c ∷ cs) = not (c == 61) && has_no_equals cs

-- the text can stand behind `--`
abbrev pub can_name : Word → Bool
can_name [] = false
can_name (c ∷ cs) = has_no_equals (c ∷ cs)

abbrev pub can_all_name : List Word → Bool
can_all_name [] = true
can_all_name (name ∷ others) = can_name name && can_all_name others

-- the positionals, from left to right
abbrev pub places_with : Word → Option Word → List Word
places_with first rest = first ∷ option_to_list rest

-- flags and options that can be told apart, and from the positionals
abbrev pub is_unambiguous : List Word → List Word → List Word → Bool
is_unambiguous flags options places = can_all_name (flags ++ options) && are_distinct (flags ++ (options ++ places))

-- How a command is written: its name, the names that take no value and those that take one, the positional of the first word, and
-- where there may be more the positional of all the others.
pub record Synopsis : Type 0 where
  pub name : Word
  pub flags : List Word
  pub options : List Word
  pub first : Word
  pub rest : Option Word
  pub sound : is_unambiguous flags options (places_with first rest) ≡ true
