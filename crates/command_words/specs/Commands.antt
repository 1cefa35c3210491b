-- Which command the words of a command line are.
use Rattle.std.specs.Prelude.{◌≡◌, ◌≢◌, ◌≤◌, ℕ, ◌^◌, ◌*◌, ◌-◌, ⊤, Bool, true, false, List, [], ◌∷◌, ◌++◌, refl, codes, length, map, AllPairs, Option, Some, None, unwrap_or, if◌then◌else◌}
use Rattle.std.specs.List.{All, flat_map}
use Rattle.std.specs.Option.{option_to_list}
use Rattle.std.specs.Str.Parse.{IsNumeral, digits_value}
use Rattle.mcap_wire.specs.Limits.{chunk_size_limit}
use Rattle.mcap_wire.specs.RecordingLimits.{buffer_limit, profile_limit}
use Rattle.mcap_model.specs.declared.options.FileOptions.{FileOptions}
use Rattle.mcap_model.specs.declared.replay.Range.{Range}
use Rattle.command_words.specs.Synopses.{Synopsis}
use Rattle.command_words.specs.Defaults.{Word, usual_chunk_size, usual_limit, watch_name}
use Rattle.command_words.specs.Items.{Item, WordsAreItems, given, place_of}
use Rattle.command_words.specs.declared.command.Command.{Command}
use Rattle.command_words.specs.declared.command.FileCommand.{FileCommand}
use Rattle.command_words.specs.declared.command.FileFilter.{FileFilter}
use Rattle.command_words.specs.declared.command.FileMerge.{FileMerge}
use Rattle.command_words.specs.declared.command.FileRecovery.{FileRecovery}
use Rattle.command_words.specs.declared.command.FileSort.{FileSort}
use Rattle.command_words.specs.declared.command.Generation.{Generation}
use Rattle.command_words.specs.declared.command.Playing.{Playing}
use Rattle.command_words.specs.declared.command.Printing.{Printing}
use Rattle.command_words.specs.declared.command.Recording.{Recording}
use Rattle.command_words.specs.declared.command.FileCommand.TheVariants.{Info, Check}
use Rattle.command_words.specs.declared.command.Command.TheVariants.{Record, OfFile, Cat, Recover, Merge, Generate, Filter, Sort, Play}
use Rattle.command_words.specs.declared.verbs.Verb.{Verb}
use Rattle.command_words.specs.declared.verbs.Verb.TheVariants as verb

-- the word that calls a command of one file without options
abbrev pub command_name : FileCommand → Word
command_name Info = codes "info"
command_name Check = codes "check"

-- all of these
abbrev pub file_commands : List FileCommand
file_commands = Info ∷ Check ∷ []

-- how such a command is written
abbrev pub file_synopsis : Word → Synopsis
file_synopsis name = record {
  name = name;
  flags = [];
  options = [];
  first = codes "file";
  rest = None;
  sound = refl;
}

abbrev pub synopsis_of : Verb → Synopsis
synopsis_of verb.Record = record {
  name = codes "record";
  flags = codes "plain" ∷ codes "lossless" ∷ [];
  options = codes "limit" ∷ codes "chunk" ∷ codes "profile" ∷ codes "watch" ∷ codes "watchers" ∷ [];
  first = codes "out";
  rest = Some (codes "feed");
  sound = refl;
}
synopsis_of (verb.OfFile what) = file_synopsis (command_name what)
synopsis_of verb.Cat = record {
  name = codes "cat";
  flags = codes "indexed" ∷ [];
  options = codes "start" ∷ codes "end" ∷ codes "topic" ∷ [];
  first = codes "file";
  rest = None;
  sound = refl;
}
synopsis_of verb.Recover = record {
  name = codes "recover";
  flags = [];
  options = codes "chunk" ∷ [];
  first = codes "in";
  rest = Some (codes "out");
  sound = refl;
}
synopsis_of verb.Merge = record {
  name = codes "merge";
  flags = [];
  options = codes "chunk" ∷ [];
  first = codes "out";
  rest = Some (codes "in");
  sound = refl;
}
synopsis_of verb.Generate = record {
  name = codes "gen";
  flags = [];
  options = [];
  first = codes "seed";
  rest = Some (codes "rest");
  sound = refl;
}
synopsis_of verb.Filter = record {
  name = codes "filter";
  flags = [];
  options = codes "start" ∷ codes "end" ∷ codes "topic" ∷ codes "chunk" ∷ [];
  first = codes "in";
  rest = Some (codes "out");
  sound = refl;
}
synopsis_of verb.Sort = record {
  name = codes "sort";
  flags = [];
  options = codes "chunk" ∷ [];
  first = codes "in";
  rest = Some (codes "out");
  sound = refl;
}
synopsis_of verb.Play = record {
  name = codes "play";
  flags = [];
  options = codes "start" ∷ codes "end" ∷ codes "topic" ∷ [];
  first = codes "file";
  rest = Some (codes "script");
  sound = refl;
}

-- all commands
abbrev pub verbs : List Verb
verbs = verb.Record ∷ (map verb.OfFile file_commands
    ++ (verb.Cat ∷ verb.Recover ∷ verb.Merge ∷ verb.Generate ∷ verb.Filter ∷ verb.Sort ∷ verb.Play ∷ []))

abbrev pub name_of : Verb → Word
name_of verb = (synopsis_of verb).name

-- how the usage shows a command
abbrev pub usage_of : Verb → Word
usage_of verb.Record =
    codes
    "record [--plain] [--lossless] [--limit N] [--chunk N] [--profile T] [--watch START:END] [--watchers N] OUT FEED..."
usage_of (verb.OfFile what) = command_name what ++ codes " FILE"
usage_of verb.Cat = codes "cat [--indexed] [--start N] [--end N] [--topic T] FILE"
usage_of verb.Recover = codes "recover [--chunk N] IN OUT"
usage_of verb.Merge = codes "merge [--chunk N] OUT IN..."
usage_of verb.Generate = codes "gen SEED FEEDS MESSAGES OUT"
usage_of verb.Filter = codes "filter [--start N] [--end N] [--topic T] [--chunk N] IN OUT"
usage_of verb.Sort = codes "sort [--chunk N] IN OUT"
usage_of verb.Play = codes "play [--start N] [--end N] [--topic T] FILE SCRIPT"

abbrev pub usage_line : Verb → Word
usage_line verb = codes "  " ++ (usage_of verb ++ codes "\n")

abbrev pub usage_text : Word
usage_text = codes "usage: mcaprec\n" ++ flat_map usage_line verbs

-- how many feeds are recorded or generated, or files merged, at most
abbrev pub feed_limit : ℕ
feed_limit = 64

-- how many watchers a recording has at most
abbrev pub watcher_limit : ℕ
watcher_limit = 16

-- how many messages are generated at most, in all feeds
abbrev pub generated_limit : ℕ
generated_limit = 1000000

-- the largest number that messages are generated from
abbrev pub largest_seed : ℕ
largest_seed = 2 ^ 64 - 1

-- the last nanosecond that can be told
abbrev pub latest : ℕ
latest = 2 ^ 64 - 1

-- all times
abbrev pub whole_time : Range
whole_time = record { start = 0; end = None }

-- no two of the names are equal, and none is the output's
abbrev pub NamesDiffer : Word → List Word → Type 0
NamesDiffer out names = All (λ name. out ≢ name) names × AllPairs (λ a b. a ≢ b) names

-- the feed isn't the file of one of so many watchers
abbrev pub IsUnwatched : Word → ℕ → Word → Type 0
IsUnwatched out watchers feed = (j : ℕ) → 1 ≤ j → j ≤ watchers → feed ≢ watch_name out j

-- the words behind the command: these items, and these positionals from left to right
pub record ReadsWords (synopsis : Synopsis) (words : List Word) (items : List Item) (places : List Word) : Type 0 where
  pub behind : List Word
  pub cut : WordsAreItems synopsis words items behind
  pub all : places ≡ flat_map place_of items ++ behind

-- 1 to 20 decimal digits, whose value is in its range
pub record IsNumber (least most : ℕ) (word : Word) (number : ℕ) : Type 0 where
  pub digits : IsNumeral 10 word
  pub few : length word ≤ 20
  pub value : number ≡ digits_value 10 word
  pub above : least ≤ number
  pub below : number ≤ most

-- the option isn't there, or once with such a number
abbrev pub GivesNumber : ℕ → ℕ → List Word → Option ℕ → Type 0
GivesNumber least most values None = values ≡ []
GivesNumber least most values (Some number) = (word : Word) × (values ≡ word ∷ []) × IsNumber least most word number

-- the flag is there once, or not at all
abbrev pub Flags : List Word → Bool → Type 0
Flags values is_there = values ≡ (if is_there then [] ∷ [] else [])

-- the size of the chunks: none with --plain, which --chunk doesn't stand beside
abbrev pub SizesChunks : Bool → Option ℕ → Option ℕ → Type 0
SizesChunks true None chunk = chunk ≡ None
SizesChunks true (Some size) chunk = ⊥
SizesChunks false size chunk = chunk ≡ Some (unwrap_or size usual_chunk_size)

-- --plain and --chunk
pub record HasChunks (items : List Item) (chunk : Option ℕ) : Type 0 where
  pub is_plain : Bool
  pub plain : Flags (given (codes "plain") items) is_plain
  pub size : Option ℕ
  pub sized : GivesNumber 1 chunk_size_limit (given (codes "chunk") items) size
  pub sizes : SizesChunks is_plain size chunk

-- --profile
pub record HasProfile (items : List Item) (profile : Word) : Type 0 where
  pub value : Option Word
  pub once : given (codes "profile") items ≡ option_to_list value
  pub is : profile ≡ unwrap_or value []
  pub short : length profile ≤ profile_limit

-- --plain, --chunk and --profile; no word gives a span
pub record IsFileOptions (items : List Item) (file : FileOptions) : Type 0 where
  pub chunk : HasChunks items file.chunk
  pub profile : HasProfile items file.profile
  pub no_span : file.span ≡ None

-- START:END
pub record IsSpan (word : Word) (span : Range) : Type 0 where
  pub start_word : Word
  pub end_word : Word
  pub form : word ≡ start_word ++ (codes ":" ++ end_word)
  pub started : IsNumber 0 latest start_word span.start
  pub last : ℕ
  pub ended : IsNumber 0 latest end_word last
  pub bounded : span.end ≡ Some last

-- the option isn't there, or once with such times
abbrev pub GivesSpan : List Word → Option Range → Type 0
GivesSpan values None = values ≡ []
GivesSpan values (Some span) = (word : Word) × (values ≡ word ∷ []) × IsSpan word span

-- nothing is watched with --plain
abbrev pub MayWatch : Bool → Option Range → Option ℕ → Type 0
MayWatch true span number = (span ≡ None) × (number ≡ None)
MayWatch false span number = ⊤

-- as many watchers as --watchers says, and without it one where --watch stands
abbrev pub watchers_with : Option ℕ → Option Range → ℕ
watchers_with (Some number) span = number
watchers_with None (Some span) = 1
watchers_with None None = 0

-- --watch and --watchers, beside which --plain doesn't stand
pub record HasWatchers (items : List Item) (range : Range) (watchers : ℕ) : Type 0 where
  pub is_plain : Bool
  pub plain : Flags (given (codes "plain") items) is_plain
  pub span : Option Range
  pub spanned : GivesSpan (given (codes "watch") items) span
  pub number : Option ℕ
  pub numbered : GivesNumber 0 watcher_limit (given (codes "watchers") items) number
  pub may : MayWatch is_plain span number
  pub range_is : range ≡ unwrap_or span whole_time
  pub watchers_are : watchers ≡ watchers_with number span

-- record, its options, OUT and each FEED
pub record IsRecord (words : List Word) (recording : Recording) : Type 0 where
  pub items : List Item
  pub reads : ReadsWords (synopsis_of verb.Record) words items (recording.out ∷ recording.feeds)
  pub some : 1 ≤ length recording.feeds
  pub few : length recording.feeds ≤ feed_limit
  pub out_named : recording.out ≢ []
  pub feeds_named : All (λ feed. feed ≢ []) recording.feeds
  pub differ : All (λ feed. recording.out ≢ feed) recording.feeds
  pub unwatched : All (IsUnwatched recording.out recording.watchers) recording.feeds
  pub flagged : Flags (given (codes "lossless") items) recording.options.lossless
  pub options : IsFileOptions items recording.options.file
  pub size : Option ℕ
  pub sized : GivesNumber 1 buffer_limit (given (codes "limit") items) size
  pub limited : recording.options.limit ≡ unwrap_or size usual_limit
  pub watched : HasWatchers items recording.range recording.watchers

-- a command without options, and FILE
pub record IsOfFile (synopsis : Synopsis) (words : List Word) (file : Word) : Type 0 where
  pub items : List Item
  pub reads : ReadsWords synopsis words items (file ∷ [])
  pub named : file ≢ []

-- --start and --end
pub record IsRange (items : List Item) (range : Range) : Type 0 where
  pub start : Option ℕ
  pub started : GivesNumber 0 latest (given (codes "start") items) start
  pub from : range.start ≡ unwrap_or start 0
  pub ended : GivesNumber 0 latest (given (codes "end") items) range.end

-- cat, its options, and FILE
pub record IsCat (words : List Word) (printing : Printing) : Type 0 where
  pub items : List Item
  pub reads : ReadsWords (synopsis_of verb.Cat) words items (printing.file ∷ [])
  pub named : printing.file ≢ []
  pub flagged : Flags (given (codes "indexed") items) printing.indexed
  pub ranged : IsRange items printing.range
  pub topical : given (codes "topic") items ≡ option_to_list printing.topic

-- --chunk, IN and OUT of a command that writes a file of one
pub record Rewrites (synopsis : Synopsis) (words : List Word) (input out : Word) (chunk : ℕ) : Type 0 where
  pub items : List Item
  pub reads : ReadsWords synopsis words items (input ∷ out ∷ [])
  pub in_named : input ≢ []
  pub out_named : out ≢ []
  pub differ : input ≢ out
  pub size : Option ℕ
  pub sized : GivesNumber 1 chunk_size_limit (given (codes "chunk") items) size
  pub chunk_is : chunk ≡ unwrap_or size usual_chunk_size

abbrev pub IsRecover : List Word → FileRecovery → Type 0
IsRecover words recovery = Rewrites (synopsis_of verb.Recover) words recovery.input recovery.out recovery.chunk

abbrev pub IsSort : List Word → FileSort → Type 0
IsSort words sorting = Rewrites (synopsis_of verb.Sort) words sorting.input sorting.out sorting.chunk

-- filter, its options, IN and OUT
pub record IsFilter (words : List Word) (filtering : FileFilter) : Type 0 where
  pub rewrites : Rewrites (synopsis_of verb.Filter) words filtering.input filtering.out filtering.chunk
  pub ranged : IsRange rewrites.items filtering.range
  pub topical : given (codes "topic") rewrites.items ≡ option_to_list filtering.topic

-- play, its options, FILE and SCRIPT, which may be one file
pub record IsPlay (words : List Word) (playing : Playing) : Type 0 where
  pub items : List Item
  pub reads : ReadsWords (synopsis_of verb.Play) words items (playing.file ∷ playing.script ∷ [])
  pub file_named : playing.file ≢ []
  pub script_named : playing.script ≢ []
  pub ranged : IsRange items playing.range
  pub topical : given (codes "topic") items ≡ option_to_list playing.topic

-- merge, --chunk, OUT and each IN
pub record IsMerge (words : List Word) (merge : FileMerge) : Type 0 where
  pub items : List Item
  pub reads : ReadsWords (synopsis_of verb.Merge) words items (merge.out ∷ merge.inputs)
  pub some : 1 ≤ length merge.inputs
  pub few : length merge.inputs ≤ feed_limit
  pub out_named : merge.out ≢ []
  pub inputs_named : All (λ input. input ≢ []) merge.inputs
  pub differ : All (λ input. merge.out ≢ input) merge.inputs
  pub size : Option ℕ
  pub sized : GivesNumber 1 chunk_size_limit (given (codes "chunk") items) size
  pub chunk_is : merge.chunk ≡ unwrap_or size usual_chunk_size

-- FEEDS and MESSAGES: how many feeds there are, and how many messages each has
pub record AreAmounts (feeds_word messages_word : Word) (feeds messages : ℕ) : Type 0 where
  pub feeds_are : IsNumber 1 feed_limit feeds_word feeds
  pub messages_are : IsNumber 0 generated_limit messages_word messages
  pub few : feeds * messages ≤ generated_limit

-- gen, SEED, FEEDS, MESSAGES and OUT
pub record IsGenerate (words : List Word) (generation : Generation) : Type 0 where
  pub items : List Item
  pub seed_word : Word
  pub feeds_word : Word
  pub messages_word : Word
  pub reads : ReadsWords (synopsis_of verb.Generate) words items
      (seed_word ∷ feeds_word ∷ messages_word ∷ generation.out ∷ [])
  pub seeded : IsNumber 0 largest_seed seed_word generation.seed
  pub amounts : AreAmounts feeds_word messages_word generation.feeds generation.messages
  pub out_named : generation.out ≢ []

-- the words behind the command are those of this one
abbrev pub WordsMean : List Word → Command → Type 0
WordsMean words (Record recording) = IsRecord words recording
WordsMean words (OfFile inspection) = IsOfFile (file_synopsis (command_name inspection.what)) words inspection.file
WordsMean words (Cat printing) = IsCat words printing
WordsMean words (Recover recovery) = IsRecover words recovery
WordsMean words (Merge merge) = IsMerge words merge
WordsMean words (Generate generation) = IsGenerate words generation
WordsMean words (Filter filtering) = IsFilter words filtering
WordsMean words (Sort sorting) = IsSort words sorting
WordsMean words (Play playing) = IsPlay words playing

abbrev pub verb_of : Command → Verb
verb_of (Record recording) = verb.Record
verb_of (OfFile inspection) = verb.OfFile inspection.what
verb_of (Cat printing) = verb.Cat
verb_of (Recover recovery) = verb.Recover
verb_of (Merge merge) = verb.Merge
verb_of (Generate generation) = verb.Generate
verb_of (Filter filtering) = verb.Filter
verb_of (Sort sorting) = verb.Sort
verb_of (Play playing) = verb.Play

-- the words are those of the command
pub record Derives (words : List Word) (command : Command) : Type 0 where
  pub rest : List Word
  pub form : words ≡ name_of (verb_of command) ∷ rest
  pub behind : WordsMean rest command

-- no command has these words
abbrev pub AreBad : List Word → Type 0
AreBad words = (command : Command) → Derives words command → ⊥

-- no other command has these words
abbrev pub IsOnly : List Word → Command → Type 0
IsOnly words command = (other : Command) → Derives words other → other ≡ command
