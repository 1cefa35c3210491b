-- What a parse of the words behind a command found of its arguments.
use Rattle.std.specs.Prelude.{◌≡◌, ◌≢◌, ◌≤◌, ⊤, ℕ, Bool, List, [], ◌∷◌, ◌++◌, codes, drop, length, Option, Some, None, take, unwrap_or}
use Rattle.std.specs.List.{All, flat_map}
use Rattle.std.specs.Option.{option_to_list}
use Rattle.std.specs.Str.{IsUtf8}
use Rattle.clap.specs.Values.{bool_text}
use Rattle.clap.specs.Words.{Row, all_of, first_of, found_of, one_of, rows_of}
use Rattle.clap.specs.declared.parser.matches.ArgMatches.{ArgMatches}
use Rattle.command_words.specs.Synopses.{Synopsis}
use Rattle.command_words.specs.Items.{Word, Item, flag, joined, apart, plain, EndsItems, IsFlag, IsFree, IsOption, given, place_of, words_of}
use Rattle.mcap_wire.specs.Limits.{chunk_size_limit}
use Rattle.command_words.specs.Defaults.{usual_chunk_size}
use Rattle.command_words.specs.Commands.{Flags, GivesNumber, IsUnwatched, ReadsWords, feed_limit, name_of, synopsis_of}
use Rattle.command_words.specs.declared.verbs.Verb.{Verb}

-- so many positionals stand there: with another than the first any number, and else one at most
abbrev pub HasRoomIn : Option Word → ℕ → Type 0
HasRoomIn None n = n ≤ 1
HasRoomIn (Some rest) n = ⊤

-- the command takes this many positionals
abbrev pub TakesPositionals : Synopsis → ℕ → Type 0
TakesPositionals synopsis n = HasRoomIn synopsis.rest n

-- the first positional, and the other where there is one, have these of the words
abbrev pub AtPlacesIn : Word → Option Word → List Word → (Word → List Word → Type 0) → Type 0
AtPlacesIn first None words Has = Has first words
AtPlacesIn first (Some rest) words Has = Has first (take 1 words) × Has rest (drop 1 words)

-- each positional of the command has these of the words
abbrev pub AtPlaces : Synopsis → List Word → (Word → List Word → Type 0) → Type 0
AtPlaces synopsis words Has = AtPlacesIn synopsis.first synopsis.rest words Has

-- all that the rows have for a name
abbrev pub all_found : Word → List Row → List Word
all_found name rows = unwrap_or (all_of name rows) []

-- each name is given once at most, and there are no more positionals than the command takes
pub record FitsSynopsis (synopsis : Synopsis) (items : List Item) (places : List Word) : Type 0 where
  pub options : (name : Word) → IsOption synopsis name
      → (value : Option Word) × (given name items ≡ option_to_list value)
  pub flags : (name : Word) → IsFlag synopsis name → (is_there : Bool) × Flags (given name items) is_there
  pub few : TakesPositionals synopsis (length places)

-- what a parse that succeeded gives for the items and the positionals
pub record ParsesInto (synopsis : Synopsis) (items : List Item) (places : List Word) (rows : List Row) : Type 0 where
  pub options : (name : Word) → IsOption synopsis name → given name items ≡ option_to_list (first_of name rows)
  pub flags : (name : Word) → IsFlag synopsis name
      → (is_there : Bool) × Flags (given name items) is_there × (one_of name rows ≡ Some (bool_text is_there))
  pub placed : AtPlaces synopsis places (λ id words. all_found id rows ≡ words)
  pub few : TakesPositionals synopsis (length places)

-- as an item of the command, but that a value behind `=` may be `-`
abbrev pub IsLoose : Synopsis → Item → Type 0
IsLoose synopsis (flag name) = IsFlag synopsis name
IsLoose synopsis (joined name value) = IsOption synopsis name
IsLoose synopsis (apart name value) = IsOption synopsis name × IsFree value
IsLoose synopsis (plain word) = IsFree word

-- the words are those of such items, and what ends them
pub record IsLooseCut (synopsis : Synopsis) (words : List Word) (items : List Item) (behind : List Word) : Type 0 where
  pub tail : List Word
  pub form : words ≡ flat_map words_of items ++ tail
  pub each : All (IsLoose synopsis) items
  pub ends : EndsItems tail behind

-- what was found is what some items, and positionals behind `--`, give
pub record IsReading (synopsis : Synopsis) (words : List Word) (rows : List Row) : Type 0 where
  pub items : List Item
  pub behind : List Word
  pub cut : IsLooseCut synopsis words items behind
  pub shows : ParsesInto synopsis items (flat_map place_of items ++ behind) rows

-- the words are those of the subcommand that was entered, with what was found there
pub record EntersSubcommand (words : List Word) (entered : Option (Word × List Row)) : Type 0 where
  pub verb : Verb
  pub rest : List Word
  pub form : words ≡ name_of verb ∷ rest
  pub rows : List Row
  pub found : entered ≡ Some (name_of verb, rows)
  pub reading : IsReading (synopsis_of verb) rest rows

-- no command has the words, of any whose names are given once at most, with no more positionals than it takes
abbrev pub AreNoCommand : List Word → Type 0
AreNoCommand words = (verb : Verb) (rest : List Word) (items : List Item) (places : List Word)
    → words ≡ name_of verb ∷ rest → ReadsWords (synopsis_of verb) rest items places
    → FitsSynopsis (synopsis_of verb) items places → ⊥

-- texts, none of which is `-`
abbrev pub AreFine : List Word → Type 0
AreFine words = All IsUtf8 words × All (λ word. word ≢ codes "-") words

-- the rows of the matches, and the first value and all the values that they have for a name
abbrev pub rows_found : ArgMatches → List Row
rows_found found = rows_of (found_of found)

abbrev pub value_in : ArgMatches → Word → Option Word
value_in found name = first_of name (rows_found found)

abbrev pub values_in : ArgMatches → Word → List Word
values_in found name = all_found name (rows_found found)

-- it takes --start, --end and --topic
abbrev pub Selects : Synopsis → Type 0
Selects synopsis =
    IsOption synopsis (codes "start") × IsOption synopsis (codes "end") × IsOption synopsis (codes "topic")

-- what was found of --chunk, IN and OUT
pub record FindsRewriting (rows : List Row) (input out : Word) (chunk : ℕ) : Type 0 where
  pub input_is : first_of (codes "in") rows ≡ Some input
  pub out_is : all_found (codes "out") rows ≡ out ∷ []
  pub in_named : input ≢ []
  pub out_named : out ≢ []
  pub differ : input ≢ out
  pub size : Option ℕ
  pub sized : GivesNumber 1 chunk_size_limit (option_to_list (first_of (codes "chunk") rows)) size
  pub chunk_is : chunk ≡ unwrap_or size usual_chunk_size

-- they may be the names of the feeds behind OUT
abbrev pub AreFeedNames : Word → List Word → Type 0
AreFeedNames out feeds =
    (1 ≤ length feeds) × (length feeds ≤ feed_limit) × All (λ feed. (feed ≢ []) × (out ≢ feed)) feeds

-- none of the feeds is the file of one of so many watchers
abbrev pub AreUnwatched : Word → ℕ → List Word → Type 0
AreUnwatched out watchers feeds = All (IsUnwatched out watchers) feeds
