-- The words behind a command: flags, options and positionals, and behind the word `--` positionals alone.
use Rattle.std.specs.Prelude.{◌≡◌, ◌≢◌, ◌⊎◌, ◌<◌, ℕ, length, map, slice_index, List, [], ◌∷◌, ◌++◌, codes, if◌then◌else◌}
use Rattle.std.specs.Borrow.{Bor}
use Rattle.std.specs.List.{All, flat_map}
use Rattle.std.specs.Str.{bytes_eq}
pub use Rattle.command_words.specs.Defaults.{Word}
use Rattle.command_words.specs.Synopses.{IsOneOf, Synopsis}

-- What stands in front of `--`: `--name` that takes no value, an option with its value behind `=` or in the next word, or
-- a positional.
pub data Item : Type 0 where
  flag : Word → Item
  joined : Word → Word → Item
  apart : Word → Word → Item
  plain : Word → Item

-- the names that take no value
abbrev pub IsFlag : Synopsis → Word → Type 0
IsFlag synopsis name = IsOneOf synopsis.flags name

-- the names that take a value
abbrev pub IsOption : Synopsis → Word → Type 0
IsOption synopsis name = IsOneOf synopsis.options name

-- no `=` stands in the text
abbrev pub IsBare : List ℕ → Type 0
IsBare text = (i : ℕ) → i < length text → slice_index text i ≢ 61

-- the word doesn't begin with `-`
abbrev pub IsFree : Word → Type 0
IsFree word = (rest : Word) → word ≢ 45 ∷ rest

-- the command may have this item
abbrev pub IsItem : Synopsis → Item → Type 0
IsItem synopsis (flag name) = IsFlag synopsis name
IsItem synopsis (joined name value) = IsOption synopsis name × (value ≢ codes "-")
IsItem synopsis (apart name value) = IsOption synopsis name × IsFree value
IsItem synopsis (plain word) = IsFree word

-- the words of an item
abbrev pub words_of : Item → List Word
words_of (flag name) = (codes "--" ++ name) ∷ []
words_of (joined name value) = (codes "--" ++ (name ++ (codes "=" ++ value))) ∷ []
words_of (apart name value) = (codes "--" ++ name) ∷ value ∷ []
words_of (plain word) = word ∷ []

-- what ends the items: nothing, or `--` and positionals, none of which is `-`
abbrev pub EndsItems : List Word → List Word → Type 0
EndsItems tail behind =
    ((tail ≡ []) × (behind ≡ [])) ⊎ ((tail ≡ codes "--" ∷ behind) × All (λ word. word ≢ codes "-") behind)

-- the words are those of the items, and what ends them
pub record WordsAreItems (synopsis : Synopsis) (words : List Word) (items : List Item) (behind : List Word)
    : Type 0 where
  pub tail : List Word
  pub form : words ≡ flat_map words_of items ++ tail
  pub each : All (IsItem synopsis) items
  pub ends : EndsItems tail behind

-- the value that an item gives to this name, where a flag gives an empty one
abbrev pub value_given : Word → Item → List Word
value_given name (flag other) = if bytes_eq other name then [] ∷ [] else []
value_given name (joined other value) = if bytes_eq other name then value ∷ [] else []
value_given name (apart other value) = if bytes_eq other name then value ∷ [] else []
value_given name (plain word) = []

-- the values that the items give to this name, in order
abbrev pub given : Word → List Item → List Word
given name items = flat_map (value_given name) items

abbrev pub place_of : Item → List Word
place_of (flag name) = []
place_of (joined name value) = []
place_of (apart name value) = []
place_of (plain word) = word ∷ []

-- the texts behind references
abbrev pub texts : List (Bor (List ℕ)) → List Word
texts words = map (λ word. word.now) words
