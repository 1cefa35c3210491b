-- The words of each command are those of no other of its kind.
use Rattle.std.proofs.Common.{◌≡◌, ℕ, Bool, true, false, List, [], ◌∷◌, Option, Some, None, codes, refl, sym, ap, ap₂, subst, ◌∙◌, arith}
use Rattle.std.specs.Prelude.{unwrap_or}
use Rattle.std.specs.Option.{option_to_list}
use Rattle.std.specs.Str.Parse.{AllDigits, IsNumeral, digits_value}
use Rattle.std.proofs.lemmas.Str.Parse.{not_in_digits, numerals_by_value, tells_digits}
use Rattle.mcap_model.specs.declared.options.FileOptions.{FileOptions}
use Rattle.mcap_model.specs.declared.options.RecordOptions.{RecordOptions}
use Rattle.mcap_model.specs.declared.replay.Range.{Range}
use Rattle.command_words.specs.Synopses.{Synopsis}
use Rattle.command_words.specs.Items.{Word, Item, given}
use Rattle.command_words.specs.Commands.{Flags, GivesNumber, GivesSpan, HasChunks, HasProfile, HasWatchers, IsCat, IsFileOptions, IsFilter, IsGenerate, IsMerge, IsNumber, IsOfFile, IsPlay, IsRange, IsRecord, IsRecover, IsSort, IsSpan, Rewrites, SizesChunks, synopsis_of, watchers_with, whole_time}
use Rattle.command_words.specs.declared.command.FileFilter.{FileFilter}
use Rattle.command_words.specs.declared.command.FileMerge.{FileMerge}
use Rattle.command_words.specs.declared.command.FileRecovery.{FileRecovery}
use Rattle.command_words.specs.declared.command.FileSort.{FileSort}
use Rattle.command_words.specs.declared.command.Generation.{Generation}
use Rattle.command_words.specs.declared.command.Playing.{Playing}
use Rattle.command_words.specs.declared.command.Printing.{Printing}
use Rattle.command_words.specs.declared.command.Recording.{Recording}
use Rattle.command_words.specs.declared.verbs.Verb.TheVariants as verb
use Rattle.command_words.proofs.CutLemmas.{one_reading}
use Rattle.command_words.proofs.ItemLemmas.{Lacks, marked_once}

-- ---- values

abbrev options_with : Word → Option ℕ → Option ℕ → FileOptions
options_with profile chunk span = record { profile = profile; chunk = chunk; span = span }

abbrev range_with : ℕ → Option ℕ → Range
range_with start end = record { start = start; end = end }

pub one_value : (a b : Option Word) → option_to_list a ≡ option_to_list b → b ≡ a
one_value None None same = refl
one_value None (Some y) same = cc
one_value (Some x) None same = cc
one_value (Some x) (Some y) same = cc

pub one_flag : (values : List Word) (a b : Bool) → Flags values a → Flags values b → b ≡ a
one_flag values true true is other = refl
one_flag values true false is other = let wrong : [] ∷ [] ≡ [] = sym is ∙ other in cc
one_flag values false true is other = let wrong : [] ≡ [] ∷ [] = sym is ∙ other in cc
one_flag values false false is other = refl

pub one_number : (least most : ℕ) (values : List Word) (a b : Option ℕ) → GivesNumber least most values a → GivesNumber least most values b → b ≡ a
one_number least most values None None is other = refl
one_number least most values None (Some n) is (word, other, number) = cc
one_number least most values (Some m) None (word, is, number) other = cc
one_number least most values (Some m) (Some n) (word, is, number) (word', other, number') =
    let same : word' ≡ word = cc in
    ap (λ (k : ℕ). Some k) (number'.value ∙ ap (λ (w : Word). digits_value 10 w) same ∙ sym number.value)

one_size : (is_plain : Bool) (size : Option ℕ) (a b : Option ℕ) → SizesChunks is_plain size a → SizesChunks is_plain size b → b ≡ a
one_size true None a b is other = other ∙ sym is
one_size true (Some n) a b is other = absurd is
one_size false size a b is other = other ∙ sym is

one_chunk : (items : List Item) (a b : Option ℕ) → HasChunks items a → HasChunks items b → b ≡ a
one_chunk items a b is other =
    let plain = one_flag (given (codes "plain") items) is.is_plain other.is_plain is.plain other.plain in
    let size = one_number 1 67108864 (given (codes "chunk") items) is.size other.size is.sized other.sized in
    one_size is.is_plain is.size a b is.sizes
    (subst (λ (p : Bool). SizesChunks p is.size b) plain (subst (λ (n : Option ℕ). SizesChunks other.is_plain n b) size other.sizes))

one_profile : (items : List Item) (a b : Word) → HasProfile items a → HasProfile items b → b ≡ a
one_profile items a b is other = other.is ∙ ap (λ (v : Option Word). unwrap_or v []) (one_value is.value other.value (sym is.once ∙ other.once)) ∙ sym is.is

options_same : (p q : Word) (c d s t : Option ℕ) → q ≡ p → d ≡ c → t ≡ s → options_with q d t ≡ options_with p c s
options_same p q c d s t profile chunk span = cc

one_options : (items : List Item) (a b : FileOptions) → IsFileOptions items a → IsFileOptions items b → b ≡ a
one_options items a b is other =
    let chunk = one_chunk items a.chunk b.chunk is.chunk other.chunk in
    let profile = one_profile items a.profile b.profile is.profile other.profile in
    options_same a.profile b.profile a.chunk b.chunk a.span b.span profile chunk (other.no_span ∙ sym is.no_span)

pub range_same : (s t : ℕ) (e f : Option ℕ) → t ≡ s → f ≡ e → range_with t f ≡ range_with s e
range_same s t e f start end = cc

one_range : (items : List Item) (a b : Range) → IsRange items a → IsRange items b → b ≡ a
one_range items a b is other =
    let start = one_number 0 18446744073709551615 (given (codes "start") items) is.start other.start is.started other.started in
    let from : b.start ≡ a.start = other.from ∙ ap (λ (v : Option ℕ). unwrap_or v 0) start ∙ sym is.from in
    let end = one_number 0 18446744073709551615 (given (codes "end") items) a.end b.end is.ended other.ended in
    range_same a.start b.start a.end b.end from end

-- ---- times and watchers

-- no colon stands in a numeral
pub no_colon : (word : Word) → IsNumeral 10 word → Lacks 58 word
no_colon word is = not_in_digits (numerals_by_value (AllDigits 10) tells_digits) word 58 is.1 (λ in_range. omega (arith, in_range.0, in_range.1))

one_span : (word : Word) (a b : Range) → IsSpan word a → IsSpan word b → b ≡ a
one_span word a b is other =
    let parts = marked_once 58 other.start_word is.start_word other.end_word is.end_word (no_colon other.start_word other.started.digits) (no_colon is.start_word is.started.digits) (sym other.form ∙ is.form) in
    let start : b.start ≡ a.start = other.started.value ∙ ap (λ (w : Word). digits_value 10 w) parts.0 ∙ sym is.started.value in
    let last : other.last ≡ is.last = other.ended.value ∙ ap (λ (w : Word). digits_value 10 w) parts.1 ∙ sym is.ended.value in
    range_same a.start b.start a.end b.end start (other.bounded ∙ ap (λ (n : ℕ). Some n) last ∙ sym is.bounded)

pub one_given_span : (values : List Word) (a b : Option Range) → GivesSpan values a → GivesSpan values b → b ≡ a
one_given_span values None None is other = refl
one_given_span values None (Some s) is (word, other, span) = cc
one_given_span values (Some r) None (word, is, span) other = cc
one_given_span values (Some r) (Some s) (word, is, span) (word', other, span') =
    let same : word' ≡ word = cc in
    ap (λ (k : Range). Some k) (one_span word r s span (subst (λ (w : Word). IsSpan w s) same span'))

pub one_watching : (items : List Item) (range range' : Range) (count count' : ℕ) → HasWatchers items range count → HasWatchers items range' count' → (range' ≡ range) × (count' ≡ count)
one_watching items range range' count count' is other =
    let span = one_given_span (given (codes "watch") items) is.span other.span is.spanned other.spanned in
    let number = one_number 0 16 (given (codes "watchers") items) is.number other.number is.numbered other.numbered in (
      other.range_is ∙ ap (λ (s : Option Range). unwrap_or s whole_time) span ∙ sym is.range_is,
      other.watchers_are ∙ ap₂ (λ (n : Option ℕ) (s : Option Range). watchers_with n s) number span ∙ sym is.watchers_are,
    )

-- ---- commands

abbrev record_options_with : FileOptions → ℕ → Bool → RecordOptions
record_options_with file limit lossless = record { file = file; limit = limit; lossless = lossless }

record_options_same : (f g : FileOptions) (m n : ℕ) (b d : Bool) → g ≡ f → n ≡ m → d ≡ b → record_options_with g n d ≡ record_options_with f m b
record_options_same f g m n b d file limit lossless = cc

abbrev recording_with : Word → List Word → RecordOptions → Range → ℕ → Recording
recording_with out feeds options range watchers = record { out = out; feeds = feeds; options = options; range = range; watchers = watchers }

recording_same : (out out' : Word) (feeds feeds' : List Word) (c d : RecordOptions) (r s : Range) (m n : ℕ) → out' ∷ feeds' ≡ out ∷ feeds → d ≡ c → s ≡ r → n ≡ m → recording_with out' feeds' d s n ≡ recording_with out feeds c r m
recording_same out out' feeds feeds' c d r s m n places options range watchers = cc

pub one_record : (words : List Word) (a b : Recording) → IsRecord words a → IsRecord words b → b ≡ a
one_record words a b is other =
    let same = one_reading (synopsis_of verb.Record) words is.items other.items (a.out ∷ a.feeds) (b.out ∷ b.feeds) is.reads other.reads in
    let flags = one_flag (given (codes "lossless") is.items) a.options.lossless b.options.lossless is.flagged (subst (λ (l : List Item). Flags (given (codes "lossless") l) b.options.lossless) same.0 other.flagged) in
    let files = one_options is.items a.options.file b.options.file is.options (subst (λ (l : List Item). IsFileOptions l b.options.file) same.0 other.options) in
    let size = one_number 1 1073741824 (given (codes "limit") is.items) is.size other.size is.sized (subst (λ (l : List Item). GivesNumber 1 1073741824 (given (codes "limit") l) other.size) same.0 other.sized) in
    let limits : b.options.limit ≡ a.options.limit = other.limited ∙ ap (λ (v : Option ℕ). unwrap_or v 104857600) size ∙ sym is.limited in
    let watched = one_watching is.items a.range b.range a.watchers b.watchers is.watched (subst (λ (l : List Item). HasWatchers l b.range b.watchers) same.0 other.watched) in
    let options = record_options_same a.options.file b.options.file a.options.limit b.options.limit a.options.lossless b.options.lossless files limits flags in
    recording_same a.out b.out a.feeds b.feeds a.options b.options a.range b.range a.watchers b.watchers same.1 options watched.0 watched.1

pub one_file : (v : Synopsis) (words : List Word) (file file' : Word) → IsOfFile v words file → IsOfFile v words file' → file' ≡ file
one_file v words file file' is other = let same = one_reading v words is.items other.items (file ∷ []) (file' ∷ []) is.reads other.reads in let places = same.1 in cc

abbrev printing_with : Word → Bool → Range → Option Word → Printing
printing_with file indexed range topic = record { file = file; indexed = indexed; range = range; topic = topic }

printing_same : (file file' : Word) (b d : Bool) (r s : Range) (t u : Option Word) → file' ∷ [] ≡ file ∷ [] → d ≡ b → s ≡ r → u ≡ t → printing_with file' d s u ≡ printing_with file b r t
printing_same file file' b d r s t u places indexed range topic = cc

pub one_cat : (words : List Word) (a b : Printing) → IsCat words a → IsCat words b → b ≡ a
one_cat words a b is other =
    let same = one_reading (synopsis_of verb.Cat) words is.items other.items (a.file ∷ []) (b.file ∷ []) is.reads other.reads in
    let flags = one_flag (given (codes "indexed") is.items) a.indexed b.indexed is.flagged (subst (λ (l : List Item). Flags (given (codes "indexed") l) b.indexed) same.0 other.flagged) in
    let ranges = one_range is.items a.range b.range is.ranged (subst (λ (l : List Item). IsRange l b.range) same.0 other.ranged) in
    let topics = one_value a.topic b.topic (sym is.topical ∙ subst (λ (l : List Item). given (codes "topic") l ≡ option_to_list b.topic) same.0 other.topical) in
    printing_same a.file b.file a.indexed b.indexed a.range b.range a.topic b.topic same.1 flags ranges topics

abbrev recovery_with : Word → Word → ℕ → FileRecovery
recovery_with input out chunk = record { input = input; out = out; chunk = chunk }

recovery_same : (input input' out out' : Word) (m n : ℕ) → input' ∷ out' ∷ [] ≡ input ∷ out ∷ [] → n ≡ m → recovery_with input' out' n ≡ recovery_with input out m
recovery_same input input' out out' m n places chunk = cc

-- of two rewritings with the same words the items, the places and the size are the same
module _ (v : Synopsis) (words : List Word) (input out input' out' : Word) (chunk chunk' : ℕ) (is : Rewrites v words input out chunk) (other : Rewrites v words input' out' chunk') where
  rewriting_read : (other.items ≡ is.items) × (input' ∷ out' ∷ [] ≡ input ∷ out ∷ [])
  rewriting_read = one_reading v words is.items other.items (input ∷ out ∷ []) (input' ∷ out' ∷ []) is.reads other.reads

  rewriting_chunk : chunk' ≡ chunk
  rewriting_chunk =
      let size = one_number 1 67108864 (given (codes "chunk") is.items) is.size other.size is.sized (subst (λ (l : List Item). GivesNumber 1 67108864 (given (codes "chunk") l) other.size) rewriting_read.0 other.sized) in
      other.chunk_is ∙ ap (λ (v : Option ℕ). unwrap_or v 786432) size ∙ sym is.chunk_is

pub one_recover : (words : List Word) (a b : FileRecovery) → IsRecover words a → IsRecover words b → b ≡ a
one_recover words a b is other = recovery_same a.input b.input a.out b.out a.chunk b.chunk
    (rewriting_read (synopsis_of verb.Recover) words a.input a.out b.input b.out a.chunk b.chunk is other).1
    (rewriting_chunk (synopsis_of verb.Recover) words a.input a.out b.input b.out a.chunk b.chunk is other)

abbrev sorting_with : Word → Word → ℕ → FileSort
sorting_with input out chunk = record { input = input; out = out; chunk = chunk }

sorting_same : (input input' out out' : Word) (m n : ℕ) → input' ∷ out' ∷ [] ≡ input ∷ out ∷ [] → n ≡ m → sorting_with input' out' n ≡ sorting_with input out m
sorting_same input input' out out' m n places chunk = cc

pub one_sort : (words : List Word) (a b : FileSort) → IsSort words a → IsSort words b → b ≡ a
one_sort words a b is other = sorting_same a.input b.input a.out b.out a.chunk b.chunk
    (rewriting_read (synopsis_of verb.Sort) words a.input a.out b.input b.out a.chunk b.chunk is other).1
    (rewriting_chunk (synopsis_of verb.Sort) words a.input a.out b.input b.out a.chunk b.chunk is other)

abbrev filtering_with : Word → Word → Range → Option Word → ℕ → FileFilter
filtering_with input out range topic chunk = record { input = input; out = out; range = range; topic = topic; chunk = chunk }

filtering_same : (input input' out out' : Word) (r s : Range) (t u : Option Word) (m n : ℕ) → input' ∷ out' ∷ [] ≡ input ∷ out ∷ [] → s ≡ r → u ≡ t → n ≡ m → filtering_with input' out' s u n ≡ filtering_with input out r t m
filtering_same input input' out out' r s t u m n places range topic chunk = cc

pub one_filter : (words : List Word) (a b : FileFilter) → IsFilter words a → IsFilter words b → b ≡ a
one_filter words a b is other =
    let same = rewriting_read (synopsis_of verb.Filter) words a.input a.out b.input b.out a.chunk b.chunk is.rewrites other.rewrites in
    let ranges = one_range is.rewrites.items a.range b.range is.ranged (subst (λ (l : List Item). IsRange l b.range) same.0 other.ranged) in
    let topics = one_value a.topic b.topic (sym is.topical ∙ subst (λ (l : List Item). given (codes "topic") l ≡ option_to_list b.topic) same.0 other.topical) in
    let chunk = rewriting_chunk (synopsis_of verb.Filter) words a.input a.out b.input b.out a.chunk b.chunk is.rewrites other.rewrites in
    filtering_same a.input b.input a.out b.out a.range b.range a.topic b.topic a.chunk b.chunk same.1 ranges topics chunk

abbrev playing_with : Word → Word → Range → Option Word → Playing
playing_with file script range topic = record { file = file; script = script; range = range; topic = topic }

playing_same : (file file' script script' : Word) (r s : Range) (t u : Option Word) → file' ∷ script' ∷ [] ≡ file ∷ script ∷ [] → s ≡ r → u ≡ t → playing_with file' script' s u ≡ playing_with file script r t
playing_same file file' script script' r s t u places range topic = cc

pub one_play : (words : List Word) (a b : Playing) → IsPlay words a → IsPlay words b → b ≡ a
one_play words a b is other =
    let same = one_reading (synopsis_of verb.Play) words is.items other.items (a.file ∷ a.script ∷ []) (b.file ∷ b.script ∷ []) is.reads other.reads in
    let ranges = one_range is.items a.range b.range is.ranged (subst (λ (l : List Item). IsRange l b.range) same.0 other.ranged) in
    let topics = one_value a.topic b.topic (sym is.topical ∙ subst (λ (l : List Item). given (codes "topic") l ≡ option_to_list b.topic) same.0 other.topical) in
    playing_same a.file b.file a.script b.script a.range b.range a.topic b.topic same.1 ranges topics

abbrev merge_with : Word → List Word → ℕ → FileMerge
merge_with out inputs chunk = record { out = out; inputs = inputs; chunk = chunk }

merge_same : (out out' : Word) (inputs inputs' : List Word) (m n : ℕ) → out' ∷ inputs' ≡ out ∷ inputs → n ≡ m → merge_with out' inputs' n ≡ merge_with out inputs m
merge_same out out' inputs inputs' m n places chunk = cc

pub one_merge : (words : List Word) (a b : FileMerge) → IsMerge words a → IsMerge words b → b ≡ a
one_merge words a b is other =
    let same = one_reading (synopsis_of verb.Merge) words is.items other.items (a.out ∷ a.inputs) (b.out ∷ b.inputs) is.reads other.reads in
    let size = one_number 1 67108864 (given (codes "chunk") is.items) is.size other.size is.sized (subst (λ (l : List Item). GivesNumber 1 67108864 (given (codes "chunk") l) other.size) same.0 other.sized) in
    merge_same a.out b.out a.inputs b.inputs a.chunk b.chunk same.1 (other.chunk_is ∙ ap (λ (v : Option ℕ). unwrap_or v 786432) size ∙ sym is.chunk_is)

number_same : (least most : ℕ) (word word' : Word) (m n : ℕ) → word' ≡ word → IsNumber least most word m → IsNumber least most word' n → n ≡ m
number_same least most word word' m n same is other = other.value ∙ ap (λ (w : Word). digits_value 10 w) same ∙ sym is.value

abbrev generation_with : ℕ → ℕ → ℕ → Word → Generation
generation_with seed feeds messages out = record { seed = seed; feeds = feeds; messages = messages; out = out }

generation_same : (seed seed' feeds feeds' messages messages' : ℕ) (out out' : Word) → seed' ≡ seed → feeds' ≡ feeds → messages' ≡ messages → out' ≡ out → generation_with seed' feeds' messages' out' ≡ generation_with seed feeds messages out
generation_same seed seed' feeds feeds' messages messages' out out' seeds counts each last = cc

pub one_generate : (words : List Word) (a b : Generation) → IsGenerate words a → IsGenerate words b → b ≡ a
one_generate words a b is other =
    let same = one_reading (synopsis_of verb.Generate) words is.items other.items (is.seed_word ∷ is.feeds_word ∷ is.messages_word ∷ a.out ∷ []) (other.seed_word ∷ other.feeds_word ∷ other.messages_word ∷ b.out ∷ []) is.reads other.reads in
    let places : other.seed_word ∷ other.feeds_word ∷ other.messages_word ∷ b.out ∷ [] ≡ is.seed_word ∷ is.feeds_word ∷ is.messages_word ∷ a.out ∷ [] = same.1 in
    let first : other.seed_word ≡ is.seed_word = cc in
    let second : other.feeds_word ≡ is.feeds_word = cc in
    let third : other.messages_word ≡ is.messages_word = cc in
    let last : b.out ≡ a.out = cc in
    let seeds = number_same 0 18446744073709551615 is.seed_word other.seed_word a.seed b.seed first is.seeded other.seeded in
    let counts = number_same 1 64 is.feeds_word other.feeds_word a.feeds b.feeds second is.amounts.feeds_are other.amounts.feeds_are in
    let each = number_same 0 1000000 is.messages_word other.messages_word a.messages b.messages third is.amounts.messages_are other.amounts.messages_are in
    generation_same a.seed b.seed a.feeds b.feeds a.messages b.messages a.out b.out seeds counts each last
