-- From what was found to the words of each command, and back.
use Rattle.std.proofs.Common.{◌≡◌, ◌≢◌, ◌<◌, ◌≤◌, ◌+◌, ◌++◌, ℕ, Bool, true, false, List, [], ◌∷◌, Option, Some, None, refl, sym, ap, ap₂, subst, inl, inr, ◌∙◌, codes, arith, length, suc, ◌==◌}
use Rattle.std.specs.Prelude.{⊤, drop, find, get_or, option_and_then, option_map, slice_get, take, unwrap_or, if◌then◌else◌}
use Rattle.std.specs.Borrow.{Bor}
use Rattle.std.specs.List.{All, flat_map}
use Rattle.std.specs.Option.{option_to_list}
use Rattle.std.specs.Str.{bytes_eq}
use Rattle.std.proofs.lemmas.List.{length-append, length-map}
use Rattle.std.proofs.lemmas.Option.{same_Some}
use Rattle.std.proofs.lemmas.Bool.Decides.{nat_tests}
use Rattle.std.proofs.lemmas.List.Elements.{All-append, All-cons, All-head, All-map, All-nil, All-tail}
use Rattle.clap.specs.Words.{Row, first_of}
use Rattle.mcap_model.specs.declared.replay.Range.{Range}
use Rattle.command_words.specs.Synopses.{IsOneOf, Synopsis}
use Rattle.command_words.specs.Items.{Word, Item, flag, joined, apart, plain, IsFlag, IsFree, IsItem, IsOption, given, place_of, texts, words_of}
use Rattle.command_words.specs.Commands.{AreAmounts, Flags, GivesNumber, GivesSpan, HasWatchers, IsCat, IsFileOptions, IsFilter, IsGenerate, IsMerge, IsNumber, IsOfFile, IsPlay, IsRange, IsRecord, IsRecover, IsSort, ReadsWords, Rewrites, file_synopsis, synopsis_of}
use Rattle.command_words.specs.declared.command.FileFilter.{FileFilter}
use Rattle.command_words.specs.declared.command.FileMerge.{FileMerge}
use Rattle.command_words.specs.declared.command.Generation.{Generation}
use Rattle.command_words.specs.declared.command.Playing.{Playing}
use Rattle.command_words.specs.declared.command.Printing.{Printing}
use Rattle.command_words.specs.declared.command.Recording.{Recording}
use Rattle.command_words.specs.Matches.{AreFeedNames, AreUnwatched, AtPlaces, AtPlacesIn, FitsSynopsis, FindsRewriting, TakesPositionals, HasRoomIn, IsLoose, IsReading, Selects, all_found}
use Rattle.command_words.specs.declared.verbs.Verb.TheVariants as verb
use Rattle.command_words.proofs.CutLemmas.{loose_cut, one_cut}
use Rattle.command_words.proofs.OneCommand.{one_watching}
use Rattle.command_words.proofs.SynopsisLemmas.{same_text}

abbrev pub NoDash : Word → Type 0
NoDash word = word ≢ codes "-"

-- ---- items none of whose values is `-`

with_use : (b : Bool) (value : Word) (more : List Word) → All NoDash ((if b then value ∷ [] else []) ++ more) → All NoDash more
with_use true value more all = All-tail NoDash value more all
with_use false value more all = all

-- the values of the items behind the first
later : (name : Word) (item : Item) (rest : List Item) → All NoDash (given name (item ∷ rest)) → All NoDash (given name rest)
later name (flag other) rest all = with_use (bytes_eq other name) [] (given name rest) all
later name (joined other value) rest all = with_use (bytes_eq other name) value (given name rest) all
later name (apart other value) rest all = with_use (bytes_eq other name) value (given name rest) all
later name (plain word) rest all = all

clean_item : (synopsis : Synopsis) (item : Item) (rest : List Item) → IsLoose synopsis item → ((name : Word) → IsOption synopsis name → All NoDash (given name (item ∷ rest))) → IsItem synopsis item
clean_item synopsis (flag name) rest is clean = is
clean_item synopsis (joined name value) rest is clean =
    let all : All NoDash (value ∷ given name rest) = subst (λ (b : Bool). All NoDash ((if b then value ∷ [] else []) ++ given name rest)) (same_text name) (clean name is) in
    (is, All-head NoDash value (given name rest) all)
clean_item synopsis (apart name value) rest is clean = is
clean_item synopsis (plain word) rest is clean = is

clean_items : (synopsis : Synopsis) (items : List Item) → All (IsLoose synopsis) items → ((name : Word) → IsOption synopsis name → All NoDash (given name items)) → All (IsItem synopsis) items
clean_items synopsis [] each clean = All-nil (IsItem synopsis)
clean_items synopsis (item ∷ rest) each clean =
    All-cons (IsItem synopsis) item rest (clean_item synopsis item rest (All-head (IsLoose synopsis) item rest each) clean)
    (clean_items synopsis rest (All-tail (IsLoose synopsis) item rest each) (λ name is. later name item rest (clean name is)))

one_clean : (value : Option Word) → value ≢ Some (codes "-") → All NoDash (option_to_list value)
one_clean None some = All-nil NoDash
one_clean (Some v) some = All-cons NoDash v [] (λ dash. some (ap (λ (w : Word). Some w) dash)) (All-nil NoDash)

-- an option's value is never `-`
taken_clean : (b : Bool) (value : Word) (more : List Word) → NoDash value → (if b then value ∷ [] else []) ++ more ≡ codes "-" ∷ [] → (more ≡ codes "-" ∷ [] → ⊥) → ⊥
taken_clean true value more clean same bad = clean (cc)
taken_clean false value more clean same bad = bad same

free_clean : (value : Word) → IsFree value → NoDash value
free_clean value free dash = free [] dash

pub never_dash : (synopsis : Synopsis) (name : Word) (items : List Item) → IsOption synopsis name → All (IsItem synopsis) items → given name items ≡ codes "-" ∷ [] → ⊥
never_dash synopsis name [] is each same = cc
never_dash synopsis name (flag other ∷ rest) is each same =
    taken_clean (bytes_eq other name) [] (given name rest) (λ none. cc) same (never_dash synopsis name rest is (All-tail (IsItem synopsis) (flag other) rest each))
never_dash synopsis name (joined other value ∷ rest) is each same =
    taken_clean (bytes_eq other name) value (given name rest) (All-head (IsItem synopsis) (joined other value) rest each).1 same (never_dash synopsis name rest is (All-tail (IsItem synopsis) (joined other value) rest each))
never_dash synopsis name (apart other value ∷ rest) is each same =
    taken_clean (bytes_eq other name) value (given name rest) (free_clean value (All-head (IsItem synopsis) (apart other value) rest each).1) same (never_dash synopsis name rest is (All-tail (IsItem synopsis) (apart other value) rest each))
never_dash synopsis name (plain word ∷ rest) is each same = never_dash synopsis name rest is (All-tail (IsItem synopsis) (plain word) rest each) same

no_number : (least most number : ℕ) → IsNumber least most (codes "-") number → ⊥
no_number least most number is = let digit : 36 < 10 = is.digits.1.0 in absurd (omega arith)

number_clean : (least most : ℕ) (value : Option Word) (number : Option ℕ) → GivesNumber least most (option_to_list value) number → value ≢ Some (codes "-")
number_clean least most value None gives dash = let wrong : codes "-" ∷ [] ≡ [] = sym (ap option_to_list dash) ∙ gives in cc
number_clean least most value (Some n) (word, gives, is) dash =
    let same : codes "-" ∷ [] ≡ word ∷ [] = sym (ap option_to_list dash) ∙ gives in
    let is_dash : word ≡ codes "-" = cc in
    no_number least most n (subst (λ (w : Word). IsNumber least most w n) is_dash is)

dash_parts : (start rest : Word) → 0 < length start → codes "-" ≡ start ++ 58 ∷ rest → ⊥
dash_parts start rest some same =
    let lengths : 1 ≡ length start + suc (length rest) = ap length same ∙ length-append start (58 ∷ rest) in
    omega (arith, lengths, some)

span_clean : (value : Option Word) (span : Option Range) → GivesSpan (option_to_list value) span → value ≢ Some (codes "-")
span_clean value None gives dash =
    let wrong : codes "-" ∷ [] ≡ [] = sym (ap option_to_list dash) ∙ gives in cc
span_clean value (Some span) (word, gives, is) dash =
    let same : codes "-" ∷ [] ≡ word ∷ [] = sym (ap option_to_list dash) ∙ gives in
    let is_dash : codes "-" ≡ word = cc in
    dash_parts is.start_word is.end_word is.started.digits.0 (is_dash ∙ is.form)

-- ---- the reading of words

abbrev pub places_in : {synopsis : Synopsis} {words : List Word} {rows : List Row} → IsReading synopsis words rows → List Word
places_in reading = flat_map place_of reading.items ++ reading.behind

-- there is one
pub same_reading : (synopsis : Synopsis) (words : List Word) (rows : List Row) (reading : IsReading synopsis words rows) (items : List Item) (places : List Word) → ReadsWords synopsis words items places → (items ≡ reading.items) × (places ≡ places_in reading)
same_reading synopsis words rows reading items places reads =
    let both = one_cut synopsis words reading.items reading.behind items reads.behind reading.cut (loose_cut synopsis words items reads.behind reads.cut) in
    (both.0, reads.all ∙ ap₂ (λ (i : List Item) (b : List Word). flat_map place_of i ++ b) both.0 both.1)

pub exact_reading : (synopsis : Synopsis) (words : List Word) (rows : List Row) (reading : IsReading synopsis words rows) → ((name : Word) → IsOption synopsis name → first_of name rows ≢ Some (codes "-")) → ReadsWords synopsis words reading.items (places_in reading)
exact_reading synopsis words rows reading clean = record {
  behind = reading.behind;
  cut = record {
    tail = reading.cut.tail;
    form = reading.cut.form;
    each = clean_items synopsis reading.items reading.cut.each (λ name is. subst (All NoDash) (sym (reading.shows.options name is)) (one_clean (first_of name rows) (clean name is)));
    ends = reading.cut.ends;
  };
  all = refl;
}

-- the first of all the values that were found
first_all : (name : Word) (rows : List Row) → first_of name rows ≡ slice_get (all_found name rows) 0
first_all name rows = go (find (λ r. bytes_eq r.id name) rows)
  where
    go : (r : Option Row) → option_and_then (λ (r : Row). slice_get r.values 0) r ≡ slice_get (unwrap_or (option_map (λ (r : Row). r.values) r) []) 0
    go None = refl
    go (Some r) = refl

-- the command takes one positional, of this name
pub record IsOfOne (v : Synopsis) (id : Word) : Type 0 where
  pub first : v.first ≡ id
  pub alone : v.rest ≡ None

-- the command takes a positional of this name, and another for all words behind it
pub record IsOfMore (v : Synopsis) (id others : Word) : Type 0 where
  pub first : v.first ≡ id
  pub rest : v.rest ≡ Some others

one_few : (v : Synopsis) (id : Word) (n : ℕ) → IsOfOne v id → TakesPositionals v n → n ≤ 1
one_few v id n one few = subst (λ (rest : Option Word). HasRoomIn rest n) one.alone few

one_placed : (v : Synopsis) (id : Word) (places : List Word) (Has : Word → List Word → Type 0) → IsOfOne v id → AtPlaces v places Has → Has id places
one_placed v id places Has one placed =
    subst (λ (first : Word). AtPlacesIn first None places Has) one.first (subst (λ (rest : Option Word). AtPlacesIn v.first rest places Has) one.alone placed)

more_placed : (v : Synopsis) (id others : Word) (places : List Word) (Has : Word → List Word → Type 0) → IsOfMore v id others → AtPlaces v places Has → Has id (take 1 places) × Has others (drop 1 places)
more_placed v id others places Has more placed =
    subst (λ (first : Word). AtPlacesIn first (Some others) places Has) more.first (subst (λ (rest : Option Word). AtPlacesIn v.first rest places Has) more.rest placed)

one_place : (places : List Word) (a : Word) → slice_get places 0 ≡ Some a → length places ≤ 1 → places ≡ a ∷ []
one_place [] a first few = cc
one_place (x ∷ []) a first few = let same : x ≡ a = cc in ap (λ (w : Word). w ∷ []) same
one_place (x ∷ y ∷ more) a first few = absurd (omega (arith, few))

behind_first : (places : List Word) (a : Word) → slice_get (take 1 places) 0 ≡ Some a → places ≡ a ∷ drop 1 places
behind_first [] a first = cc
behind_first (x ∷ xs) a first = let same : x ≡ a = cc in ap (λ (w : Word). w ∷ xs) same

-- what stands at the places
module _ (v : Synopsis) (words : List Word) (rows : List Row) (reading : IsReading v words rows) (id : Word) where
  module _ (one : IsOfOne v id) (word : Word) where
    one_there : all_found id rows ≡ places_in reading
    one_there = one_placed v id (places_in reading) (λ name words. all_found name rows ≡ words) one reading.shows.placed

    pub one_places : first_of id rows ≡ Some word → places_in reading ≡ word ∷ []
    one_places is =
        one_place (places_in reading) word (ap (λ (l : List Word). slice_get l 0) (sym one_there) ∙ sym (first_all id rows) ∙ is) (one_few v id (length (places_in reading)) one reading.shows.few)

    pub one_is : places_in reading ≡ word ∷ [] → first_of id rows ≡ Some word
    one_is is = first_all id rows ∙ ap (λ (l : List Word). slice_get l 0) (one_there ∙ is)

  module _ (others : Word) (more : IsOfMore v id others) (word : Word) (behind : List Word) where
    more_there : (all_found id rows ≡ take 1 (places_in reading)) × (all_found others rows ≡ drop 1 (places_in reading))
    more_there = more_placed v id others (places_in reading) (λ name words. all_found name rows ≡ words) more reading.shows.placed

    pub more_places : first_of id rows ≡ Some word → all_found others rows ≡ behind → places_in reading ≡ word ∷ behind
    more_places is is2 =
        behind_first (places_in reading) word (ap (λ (l : List Word). slice_get l 0) (sym more_there.0) ∙ sym (first_all id rows) ∙ is) ∙ ap (λ (l : List Word). word ∷ l) (sym more_there.1 ∙ is2)

    pub more_are : places_in reading ≡ word ∷ behind → (first_of id rows ≡ Some word) × (all_found others rows ≡ behind)
    more_are is = (
      first_all id rows ∙ ap (λ (l : List Word). slice_get l 0) (more_there.0 ∙ ap (λ (l : List Word). take 1 l) is),
      more_there.1 ∙ ap (λ (l : List Word). drop 1 l) is,
    )

-- the positionals of the commands
abbrev recorded : IsOfMore (synopsis_of verb.Record) (codes "out") (codes "feed")
recorded = record { first = refl; rest = refl }

abbrev recovered : IsOfMore (synopsis_of verb.Recover) (codes "in") (codes "out")
recovered = record { first = refl; rest = refl }

abbrev merged : IsOfMore (synopsis_of verb.Merge) (codes "out") (codes "in")
merged = record { first = refl; rest = refl }

abbrev generated : IsOfMore (synopsis_of verb.Generate) (codes "seed") (codes "rest")
generated = record { first = refl; rest = refl }

abbrev filtered : IsOfMore (synopsis_of verb.Filter) (codes "in") (codes "out")
filtered = record { first = refl; rest = refl }

abbrev sorted : IsOfMore (synopsis_of verb.Sort) (codes "in") (codes "out")
sorted = record { first = refl; rest = refl }

abbrev played : IsOfMore (synopsis_of verb.Play) (codes "file") (codes "script")
played = record { first = refl; rest = refl }

abbrev printed : IsOfOne (synopsis_of verb.Cat) (codes "file")
printed = record { first = refl; alone = refl }

-- a command of one file, without options
abbrev pub HasOnlyFile : Synopsis → Type 0
HasOnlyFile v = (name : Word) × (v ≡ file_synopsis name)

only_one_place : (v : Synopsis) → HasOnlyFile v → IsOfOne v (codes "file")
only_one_place v only = record { first = ap (λ (s : Synopsis). s.first) only.1; alone = ap (λ (s : Synopsis). s.rest) only.1 }

no_option : (v : Synopsis) → HasOnlyFile v → (name : Word) → IsOption v name → ⊥
no_option v only name is = subst (λ (s : Synopsis). IsOneOf s.options name) only.1 is

no_flag : (v : Synopsis) → HasOnlyFile v → (name : Word) → IsFlag v name → ⊥
no_flag v only name is = subst (λ (s : Synopsis). IsOneOf s.flags name) only.1 is

-- what was found for the name isn't `-`
abbrev IsClean : List Row → Word → Type 0
IsClean rows name = first_of name rows ≢ Some (codes "-")

-- what holds of each of some names
abbrev pub AllOf : (Word → Type 0) → List Word → Type 0
AllOf P [] = ⊤
AllOf P (name ∷ names) = P name × AllOf P names

each_of : (P : Word → Type 0) (names : List Word) → AllOf P names → (name : Word) → IsOneOf names name → P name
each_of P [] all name is = absurd is
each_of P (n ∷ names) all name (inl same) = subst P (sym same) all.0
each_of P (n ∷ names) all name (inr later) = each_of P names all.1 name later

-- ---- commands

-- three texts are found behind the first
pub no_words_found : (a b c : Word) (rest : List Word) → [] ≡ a ∷ b ∷ c ∷ rest → ⊥
no_words_found a b c rest same = cc

three_long : (found : List (Bor Word)) (a b c : Word) → texts found ≡ a ∷ b ∷ c ∷ [] → length found ≡ 3
three_long found a b c same = sym (length-map found (λ word. word.now)) ∙ ap length same

three_texts : (found : List (Bor Word)) (d : Bor Word) → length found ≡ 3 → texts found ≡ (get_or found 0 d).now ∷ (get_or found 1 d).now ∷ (get_or found 2 d).now ∷ []
three_texts [] d long = absurd (omega (arith, long))
three_texts (x ∷ []) d long = absurd (omega (arith, long))
three_texts (x ∷ y ∷ []) d long = absurd (omega (arith, long))
three_texts (x ∷ y ∷ z ∷ []) d long = refl
three_texts (x ∷ y ∷ z ∷ w ∷ more) d long = absurd (omega (arith, long))

three_same : (a b c x y z : Word) → x ∷ y ∷ z ∷ [] ≡ a ∷ b ∷ c ∷ [] → (x ≡ a) × (y ≡ b) × (z ≡ c)
three_same a b c x y z same =
    let first : x ≡ a = cc in
    let second : y ≡ b = cc in
    let third : z ≡ c = cc in
    (first, second, third)

-- a text is empty, or not
full_not_empty : (n : ℕ) → (suc n == 0) ≡ true → ⊥
full_not_empty n is = let no : (suc n == 0) ≡ false = grind (arith, nat_tests) in let wrong : false ≡ true = sym no ∙ is in cc

empty_text : (w : Word) → (length w == 0) ≡ true → w ≡ []
empty_text [] is = refl
empty_text (x ∷ xs) is = absurd (full_not_empty (length xs) is)

full_text : (w : Word) → (length w == 0) ≡ false → w ≢ []
full_text w is same = let none : (length w == 0) ≡ true = ap (λ (v : Word). length v == 0) same in let wrong : false ≡ true = sym is ∙ none in cc

pub generate_is : (words : List Word) (rows : List Row) (reading : IsReading (synopsis_of verb.Generate) words rows) (seed_word : Word) (seed feeds messages : ℕ) (found : List (Bor Word)) (d : Bor Word) → first_of (codes "seed") rows ≡ Some seed_word → texts found ≡ all_found (codes "rest") rows → length found ≡ 3
    → IsNumber 0 18446744073709551615 seed_word seed → AreAmounts (get_or found 0 d).now (get_or found 1 d).now feeds messages → (length (get_or found 2 d).now == 0) ≡ false → IsGenerate words (record { seed = seed; feeds = feeds; messages = messages; out = (get_or found 2 d).now })
generate_is words rows reading seed_word seed feeds messages found d first same long seeded amounts named = record {
  items = reading.items;
  seed_word = seed_word;
  feeds_word = (get_or found 0 d).now;
  messages_word = (get_or found 1 d).now;
  reads = subst (ReadsWords (synopsis_of verb.Generate) words reading.items) (more_places (synopsis_of verb.Generate) words rows reading (codes "seed") (codes "rest") generated seed_word ((get_or found 0 d).now ∷ (get_or found 1 d).now ∷ (get_or found 2 d).now ∷ []) first (sym same ∙ three_texts found d long))
      (exact_reading (synopsis_of verb.Generate) words rows reading (λ name none. absurd none));
  seeded = seeded;
  amounts = amounts;
  out_named = full_text (get_or found 2 d).now named;
}

-- the words of a generation stand at these places
module _ (words : List Word) (rows : List Row) (reading : IsReading (synopsis_of verb.Generate) words rows) (generation : Generation) (is : IsGenerate words generation) where
  pub generate_places : (first_of (codes "seed") rows ≡ Some is.seed_word) × (all_found (codes "rest") rows ≡ is.feeds_word ∷ is.messages_word ∷ generation.out ∷ [])
  generate_places = more_are (synopsis_of verb.Generate) words rows reading (codes "seed") (codes "rest") generated is.seed_word (is.feeds_word ∷ is.messages_word ∷ generation.out ∷ [])
      (sym (same_reading (synopsis_of verb.Generate) words rows reading is.items (is.seed_word ∷ is.feeds_word ∷ is.messages_word ∷ generation.out ∷ []) is.reads).1)

  module _ (found : List (Bor Word)) (same : texts found ≡ all_found (codes "rest") rows) where
    pub generate_long : length found ≡ 3
    generate_long = three_long found is.feeds_word is.messages_word generation.out (same ∙ generate_places.1)

    -- they are those that were found
    each_same : (d : Bor Word) → ((get_or found 0 d).now ≡ is.feeds_word) × ((get_or found 1 d).now ≡ is.messages_word) × ((get_or found 2 d).now ≡ generation.out)
    each_same d = three_same is.feeds_word is.messages_word generation.out (get_or found 0 d).now (get_or found 1 d).now (get_or found 2 d).now (sym (three_texts found d generate_long) ∙ (same ∙ generate_places.1))

    pub generate_amounts : (d : Bor Word) → AreAmounts (get_or found 0 d).now (get_or found 1 d).now generation.feeds generation.messages
    generate_amounts d =
        subst (λ (w : Word). AreAmounts w (get_or found 1 d).now generation.feeds generation.messages) (sym (each_same d).0)
        (subst (λ (w : Word). AreAmounts is.feeds_word w generation.feeds generation.messages) (sym (each_same d).1) is.amounts)

    pub generate_named : (d : Bor Word) → (length (get_or found 2 d).now == 0) ≡ true → ⊥
    generate_named d empty = is.out_named (sym (each_same d).2 ∙ empty_text (get_or found 2 d).now empty)

pub merge_is : (words : List Word) (rows : List Row) (reading : IsReading (synopsis_of verb.Merge) words rows) (out : Word) (inputs : List Word) (size : Option ℕ) → first_of (codes "out") rows ≡ Some out → all_found (codes "in") rows ≡ inputs → out ≢ [] → AreFeedNames out inputs
    → GivesNumber 1 67108864 (option_to_list (first_of (codes "chunk") rows)) size → IsMerge words (record { out = out; inputs = inputs; chunk = unwrap_or size 786432 })
merge_is words rows reading out inputs size is is2 named feeding sized = record {
  items = reading.items;
  reads = subst (ReadsWords (synopsis_of verb.Merge) words reading.items) (more_places (synopsis_of verb.Merge) words rows reading (codes "out") (codes "in") merged out inputs is is2)
      (exact_reading (synopsis_of verb.Merge) words rows reading (each_of (IsClean rows) (codes "chunk" ∷ []) (number_clean 1 67108864 (first_of (codes "chunk") rows) size sized, tt)));
  some = feeding.0;
  few = feeding.1;
  out_named = named;
  inputs_named = λ i d less. (feeding.2 i d less).0;
  differ = λ i d less. (feeding.2 i d less).1;
  size = size;
  sized = subst (λ (l : List Word). GivesNumber 1 67108864 l size) (sym (reading.shows.options (codes "chunk") (inl refl))) sized;
  chunk_is = refl;
}

-- the words of a merge have these names and this size
module _ (words : List Word) (rows : List Row) (reading : IsReading (synopsis_of verb.Merge) words rows) (merge : FileMerge) (is : IsMerge words merge) where
  pub merge_names : (first_of (codes "out") rows ≡ Some merge.out) × (all_found (codes "in") rows ≡ merge.inputs)
  merge_names = more_are (synopsis_of verb.Merge) words rows reading (codes "out") (codes "in") merged merge.out merge.inputs (sym (same_reading (synopsis_of verb.Merge) words rows reading is.items (merge.out ∷ merge.inputs) is.reads).1)

  pub merge_size : GivesNumber 1 67108864 (option_to_list (first_of (codes "chunk") rows)) is.size
  merge_size =
      let same = ap (given (codes "chunk")) (same_reading (synopsis_of verb.Merge) words rows reading is.items (merge.out ∷ merge.inputs) is.reads).0 ∙ reading.shows.options (codes "chunk") (inl refl) in
      subst (λ (l : List Word). GivesNumber 1 67108864 l is.size) same is.sized

  -- the inputs are those that are found beside this output
  pub merge_fed : (name : Word) → first_of (codes "out") rows ≡ Some name → AreFeedNames name (all_found (codes "in") rows)
  merge_fed name found = subst (λ (n : Word). AreFeedNames n (all_found (codes "in") rows)) (same_Some merge.out name (sym merge_names.0 ∙ found))
      (subst (AreFeedNames merge.out) (sym merge_names.1) (is.some, is.few, λ i d less. (is.inputs_named i d less, is.differ i d less)))

-- a command that writes a file of one
module _ (v : Synopsis) (words : List Word) (rows : List Row) (reading : IsReading v words rows) (more : IsOfMore v (codes "in") (codes "out")) (chunked : IsOption v (codes "chunk")) (input out : Word) (chunk : ℕ) where
  pub chunk_clean : FindsRewriting rows input out chunk → IsClean rows (codes "chunk")
  chunk_clean finds = number_clean 1 67108864 (first_of (codes "chunk") rows) finds.size finds.sized

  -- what was found of it is what the words say
  abbrev pub rewrites_by : ((name : Word) → IsOption v name → IsClean rows name) → FindsRewriting rows input out chunk → Rewrites v words input out chunk
  rewrites_by clean finds = record {
    items = reading.items;
    reads = subst (ReadsWords v words reading.items) (more_places v words rows reading (codes "in") (codes "out") more input (out ∷ []) finds.input_is finds.out_is) (exact_reading v words rows reading clean);
    in_named = finds.in_named;
    out_named = finds.out_named;
    differ = finds.differ;
    size = finds.size;
    sized = subst (λ (l : List Word). GivesNumber 1 67108864 l finds.size) (sym (reading.shows.options (codes "chunk") chunked)) finds.sized;
    chunk_is = finds.chunk_is;
  }

  rewriting_items : (is : Rewrites v words input out chunk) → (is.items ≡ reading.items) × (input ∷ out ∷ [] ≡ places_in reading)
  rewriting_items is = same_reading v words rows reading is.items (input ∷ out ∷ []) is.reads

  -- and the other way
  pub finds_by : Rewrites v words input out chunk → FindsRewriting rows input out chunk
  finds_by is =
      let names = more_are v words rows reading (codes "in") (codes "out") more input (out ∷ []) (sym (rewriting_items is).1) in
      let same = ap (given (codes "chunk")) (rewriting_items is).0 ∙ reading.shows.options (codes "chunk") chunked in
      record {
        input_is = names.0;
        out_is = names.1;
        in_named = is.in_named;
        out_named = is.out_named;
        differ = is.differ;
        size = is.size;
        sized = subst (λ (l : List Word). GivesNumber 1 67108864 l is.size) same is.sized;
        chunk_is = is.chunk_is;
      }

-- the commands that do
module _ (words : List Word) (rows : List Row) (input out : Word) (chunk : ℕ) where
  pub recover_is : (reading : IsReading (synopsis_of verb.Recover) words rows) → FindsRewriting rows input out chunk → IsRecover words (record { input = input; out = out; chunk = chunk })
  recover_is reading finds = rewrites_by (synopsis_of verb.Recover) words rows reading recovered (inl refl) input out chunk
      (each_of (IsClean rows) (codes "chunk" ∷ []) (chunk_clean (synopsis_of verb.Recover) words rows reading recovered (inl refl) input out chunk finds, tt)) finds

  pub recover_found : (reading : IsReading (synopsis_of verb.Recover) words rows) → Rewrites (synopsis_of verb.Recover) words input out chunk → FindsRewriting rows input out chunk
  recover_found reading is = finds_by (synopsis_of verb.Recover) words rows reading recovered (inl refl) input out chunk is

  pub sort_is : (reading : IsReading (synopsis_of verb.Sort) words rows) → FindsRewriting rows input out chunk → IsSort words (record { input = input; out = out; chunk = chunk })
  sort_is reading finds = rewrites_by (synopsis_of verb.Sort) words rows reading sorted (inl refl) input out chunk
      (each_of (IsClean rows) (codes "chunk" ∷ []) (chunk_clean (synopsis_of verb.Sort) words rows reading sorted (inl refl) input out chunk finds, tt)) finds

  pub sort_found : (reading : IsReading (synopsis_of verb.Sort) words rows) → Rewrites (synopsis_of verb.Sort) words input out chunk → FindsRewriting rows input out chunk
  sort_found reading is = finds_by (synopsis_of verb.Sort) words rows reading sorted (inl refl) input out chunk is

-- what was found of a recording
module _ (words : List Word) (rows : List Row) (reading : IsReading (synopsis_of verb.Record) words rows) (recording : Recording) (size : Option ℕ) where
  pub record_is : first_of (codes "out") rows ≡ Some recording.out → all_found (codes "feed") rows ≡ recording.feeds → recording.out ≢ [] → AreFeedNames recording.out recording.feeds → Flags (given (codes "lossless") reading.items) recording.options.lossless
      → IsFileOptions reading.items recording.options.file → GivesNumber 1 1073741824 (option_to_list (first_of (codes "limit") rows)) size → recording.options.limit ≡ unwrap_or size 104857600 → IsClean rows (codes "profile")
      → AreUnwatched recording.out recording.watchers recording.feeds → HasWatchers reading.items recording.range recording.watchers → IsRecord words recording
  record_is is is2 named feeding flagged options sized limited clean unwatched watched = record {
    items = reading.items;
    reads = subst (ReadsWords (synopsis_of verb.Record) words reading.items) (more_places (synopsis_of verb.Record) words rows reading (codes "out") (codes "feed") recorded recording.out recording.feeds is is2) (exact_reading (synopsis_of verb.Record) words rows reading all_clean);
    some = feeding.0;
    few = feeding.1;
    out_named = named;
    feeds_named = λ i d less. (feeding.2 i d less).0;
    differ = λ i d less. (feeding.2 i d less).1;
    unwatched = unwatched;
    flagged = flagged;
    options = options;
    size = size;
    sized = subst (λ (l : List Word). GivesNumber 1 1073741824 l size) (sym (reading.shows.options (codes "limit") (inl refl))) sized;
    limited = limited;
    watched = watched;
  }
    where
      chunk_clean : IsClean rows (codes "chunk")
      chunk_clean = number_clean 1 67108864 (first_of (codes "chunk") rows) options.chunk.size
          (subst (λ (l : List Word). GivesNumber 1 67108864 l options.chunk.size) (reading.shows.options (codes "chunk") (inr (inl refl))) options.chunk.sized)

      watch_clean : IsClean rows (codes "watch")
      watch_clean = span_clean (first_of (codes "watch") rows) watched.span (subst (λ (l : List Word). GivesSpan l watched.span) (reading.shows.options (codes "watch") (inr (inr (inr (inl refl))))) watched.spanned)

      watchers_clean : IsClean rows (codes "watchers")
      watchers_clean = number_clean 0 16 (first_of (codes "watchers") rows) watched.number
          (subst (λ (l : List Word). GivesNumber 0 16 l watched.number) (reading.shows.options (codes "watchers") (inr (inr (inr (inr (inl refl)))))) watched.numbered)

      all_clean : (name : Word) → IsOption (synopsis_of verb.Record) name → IsClean rows name
      all_clean = each_of (IsClean rows) (synopsis_of verb.Record).options (number_clean 1 1073741824 (first_of (codes "limit") rows) size sized, (chunk_clean, (clean, (watch_clean, (watchers_clean, tt)))))

pub of_file_is : (v : Synopsis) (words : List Word) (rows : List Row) (reading : IsReading v words rows) (file : Word) → HasOnlyFile v → first_of (codes "file") rows ≡ Some file → file ≢ [] → IsOfFile v words file
of_file_is v words rows reading file only is named = record {
  items = reading.items;
  reads = subst (ReadsWords v words reading.items) (one_places v words rows reading (codes "file") (only_one_place v only) file is) (exact_reading v words rows reading (λ name option. absurd (no_option v only name option)));
  named = named;
}

-- an option that the words have isn't `-`
pub dash_bad : (v : Synopsis) (words : List Word) (rows : List Row) (reading : IsReading v words rows) (items : List Item) (places : List Word) (name : Word) → IsOption v name → first_of name rows ≡ Some (codes "-") → ReadsWords v words items places → ⊥
dash_bad v words rows reading items places name is dash reads =
    let same = (same_reading v words rows reading items places reads).0 in
    never_dash v name items is reads.cut.each (ap (given name) same ∙ reading.shows.options name is ∙ ap option_to_list dash)

-- the times that were found aren't `-`
module _ (v : Synopsis) (words : List Word) (rows : List Row) (reading : IsReading v words rows) (selects : Selects v) (range : Range) (ranged : IsRange reading.items range) where
  start_clean : IsClean rows (codes "start")
  start_clean = number_clean 0 18446744073709551615 (first_of (codes "start") rows) ranged.start
      (subst (λ (l : List Word). GivesNumber 0 18446744073709551615 l ranged.start) (reading.shows.options (codes "start") selects.0) ranged.started)

  end_clean : IsClean rows (codes "end")
  end_clean = number_clean 0 18446744073709551615 (first_of (codes "end") rows) range.end
      (subst (λ (l : List Word). GivesNumber 0 18446744073709551615 l range.end) (reading.shows.options (codes "end") selects.1) ranged.ended)

pub cat_is : (words : List Word) (rows : List Row) (reading : IsReading (synopsis_of verb.Cat) words rows) (file : Word) (indexed : Bool) (range : Range) (topic : Option Word) → first_of (codes "file") rows ≡ Some file → file ≢ [] → Flags (given (codes "indexed") reading.items) indexed
    → IsRange reading.items range → topic ≡ first_of (codes "topic") rows → IsClean rows (codes "topic") → IsCat words (record { file = file; indexed = indexed; range = range; topic = topic })
cat_is words rows reading file indexed range topic is named flagged ranged topical clean = record {
  items = reading.items;
  reads = subst (ReadsWords (synopsis_of verb.Cat) words reading.items) (one_places (synopsis_of verb.Cat) words rows reading (codes "file") printed file is) (exact_reading (synopsis_of verb.Cat) words rows reading all_clean);
  named = named;
  flagged = flagged;
  ranged = ranged;
  topical = reading.shows.options (codes "topic") (inr (inr (inl refl))) ∙ ap option_to_list (sym topical);
}
  where
    all_clean : (name : Word) → IsOption (synopsis_of verb.Cat) name → IsClean rows name
    all_clean = each_of (IsClean rows) (synopsis_of verb.Cat).options (
      start_clean (synopsis_of verb.Cat) words rows reading (inl refl, inr (inl refl), inr (inr (inl refl))) range ranged,
      (end_clean (synopsis_of verb.Cat) words rows reading (inl refl, inr (inl refl), inr (inr (inl refl))) range ranged, (clean, tt)),
    )

-- what selects the messages of a filtering and of a playing
pub filter_selects : Selects (synopsis_of verb.Filter)
filter_selects = (inl refl, inr (inl refl), inr (inr (inl refl)))

pub play_selects : Selects (synopsis_of verb.Play)
play_selects = (inl refl, inr (inl refl), inr (inr (inl refl)))

pub cat_selects : Selects (synopsis_of verb.Cat)
cat_selects = (inl refl, inr (inl refl), inr (inr (inl refl)))

module _ (words : List Word) (rows : List Row) (reading : IsReading (synopsis_of verb.Filter) words rows) (filtering : FileFilter) where
  chunk_fourth : IsOption (synopsis_of verb.Filter) (codes "chunk")
  chunk_fourth = inr (inr (inr (inl refl)))

  pub filter_is : FindsRewriting rows filtering.input filtering.out filtering.chunk → IsRange reading.items filtering.range → filtering.topic ≡ first_of (codes "topic") rows → IsClean rows (codes "topic") → IsFilter words filtering
  filter_is finds ranged topical clean = record {
    rewrites = rewrites_by (synopsis_of verb.Filter) words rows reading filtered chunk_fourth filtering.input filtering.out filtering.chunk all_clean finds;
    ranged = ranged;
    topical = reading.shows.options (codes "topic") (inr (inr (inl refl))) ∙ ap option_to_list (sym topical);
  }
    where
      all_clean : (name : Word) → IsOption (synopsis_of verb.Filter) name → IsClean rows name
      all_clean = each_of (IsClean rows) (synopsis_of verb.Filter).options (
        start_clean (synopsis_of verb.Filter) words rows reading filter_selects filtering.range ranged,
        (
          end_clean (synopsis_of verb.Filter) words rows reading filter_selects filtering.range ranged,
          (clean, (chunk_clean (synopsis_of verb.Filter) words rows reading filtered chunk_fourth filtering.input filtering.out filtering.chunk finds, tt)),
        ),
      )

  pub filter_found : IsFilter words filtering → FindsRewriting rows filtering.input filtering.out filtering.chunk
  filter_found is = finds_by (synopsis_of verb.Filter) words rows reading filtered chunk_fourth filtering.input filtering.out filtering.chunk is.rewrites

  pub filter_range : IsFilter words filtering → IsRange reading.items filtering.range
  filter_range is = subst (λ (l : List Item). IsRange l filtering.range)
      (same_reading (synopsis_of verb.Filter) words rows reading is.rewrites.items (filtering.input ∷ filtering.out ∷ []) is.rewrites.reads).0 is.ranged

  pub filter_clean : IsFilter words filtering → IsClean rows (codes "topic")
  filter_clean is dash = dash_bad (synopsis_of verb.Filter) words rows reading is.rewrites.items (filtering.input ∷ filtering.out ∷ []) (codes "topic") (inr (inr (inl refl))) dash is.rewrites.reads

module _ (words : List Word) (rows : List Row) (reading : IsReading (synopsis_of verb.Play) words rows) (playing : Playing) where
  pub play_is : first_of (codes "file") rows ≡ Some playing.file → all_found (codes "script") rows ≡ playing.script ∷ [] → playing.file ≢ [] → playing.script ≢ [] → IsRange reading.items playing.range → playing.topic ≡ first_of (codes "topic") rows → IsClean rows (codes "topic") → IsPlay words playing
  play_is is is2 named named2 ranged topical clean = record {
    items = reading.items;
    reads = subst (ReadsWords (synopsis_of verb.Play) words reading.items) (more_places (synopsis_of verb.Play) words rows reading (codes "file") (codes "script") played playing.file (playing.script ∷ []) is is2) (exact_reading (synopsis_of verb.Play) words rows reading all_clean);
    file_named = named;
    script_named = named2;
    ranged = ranged;
    topical = reading.shows.options (codes "topic") (inr (inr (inl refl))) ∙ ap option_to_list (sym topical);
  }
    where
      all_clean : (name : Word) → IsOption (synopsis_of verb.Play) name → IsClean rows name
      all_clean = each_of (IsClean rows) (synopsis_of verb.Play).options (
        start_clean (synopsis_of verb.Play) words rows reading play_selects playing.range ranged,
        (end_clean (synopsis_of verb.Play) words rows reading play_selects playing.range ranged, (clean, tt)),
      )

  pub play_names : IsPlay words playing → (first_of (codes "file") rows ≡ Some playing.file) × (all_found (codes "script") rows ≡ playing.script ∷ [])
  play_names is = more_are (synopsis_of verb.Play) words rows reading (codes "file") (codes "script") played playing.file (playing.script ∷ []) (sym (same_reading (synopsis_of verb.Play) words rows reading is.items (playing.file ∷ playing.script ∷ []) is.reads).1)

  pub play_range : IsPlay words playing → IsRange reading.items playing.range
  play_range is = subst (λ (l : List Item). IsRange l playing.range) (same_reading (synopsis_of verb.Play) words rows reading is.items (playing.file ∷ playing.script ∷ []) is.reads).0 is.ranged

  pub play_clean : IsPlay words playing → IsClean rows (codes "topic")
  play_clean is dash = dash_bad (synopsis_of verb.Play) words rows reading is.items (playing.file ∷ playing.script ∷ []) (codes "topic") (inr (inr (inl refl))) dash is.reads

-- ---- words that no command has

pub once_number : (least most : ℕ) (values : List Word) (number : Option ℕ) → GivesNumber least most values number → (value : Option Word) × (values ≡ option_to_list value)
once_number least most values None gives = (None, gives)
once_number least most values (Some n) (word, gives, is) = (Some word, gives)

once_span : (values : List Word) (span : Option Range) → GivesSpan values span → (value : Option Word) × (values ≡ option_to_list value)
once_span values None gives = (None, gives)
once_span values (Some s) (word, gives, is) = (Some word, gives)

abbrev pub Once : List Item → Word → Type 0
Once items name = (value : Option Word) × (given name items ≡ option_to_list value)

abbrev pub Flagged : List Item → Word → Type 0
Flagged items name = (is_there : Bool) × Flags (given name items) is_there

-- the words behind a command are read, and fit it
pub record Fitting (v : Synopsis) (words : List Word) : Type 0 where
  pub items : List Item
  pub places : List Word
  pub reads : ReadsWords v words items places
  pub fits : FitsSynopsis v items places

-- where each option and each flag of it is given once at most
pub fit_with : (v : Synopsis) (words : List Word) (items : List Item) (places : List Word) → ReadsWords v words items places → AllOf (Once items) v.options → AllOf (Flagged items) v.flags → TakesPositionals v (length places) → Fitting v words
fit_with v words items places reads options flags few = record {
  items = items;
  places = places;
  reads = reads;
  fits = record { options = each_of (Once items) v.options options; flags = each_of (Flagged items) v.flags flags; few = few };
}

pub fit_record : (words : List Word) (recording : Recording) → IsRecord words recording → Fitting (synopsis_of verb.Record) words
fit_record words recording is = fit_with (synopsis_of verb.Record) words is.items (recording.out ∷ recording.feeds) is.reads (
  once_number 1 1073741824 (given (codes "limit") is.items) is.size is.sized,
  (
    once_number 1 67108864 (given (codes "chunk") is.items) is.options.chunk.size is.options.chunk.sized,
    (
      (is.options.profile.value, is.options.profile.once),
      (once_span (given (codes "watch") is.items) is.watched.span is.watched.spanned, (once_number 0 16 (given (codes "watchers") is.items) is.watched.number is.watched.numbered, tt)),
    ),
  ),
)
    ((is.options.chunk.is_plain, is.options.chunk.plain), ((recording.options.lossless, is.flagged), tt)) tt

pub fit_cat : (words : List Word) (printing : Printing) → IsCat words printing → Fitting (synopsis_of verb.Cat) words
fit_cat words printing is = fit_with (synopsis_of verb.Cat) words is.items (printing.file ∷ []) is.reads (
  once_number 0 18446744073709551615 (given (codes "start") is.items) is.ranged.start is.ranged.started,
  (once_number 0 18446744073709551615 (given (codes "end") is.items) printing.range.end is.ranged.ended, ((printing.topic, is.topical), tt)),
)
    ((printing.indexed, is.flagged), tt) (omega arith)

pub fit_filter : (words : List Word) (filtering : FileFilter) → IsFilter words filtering → Fitting (synopsis_of verb.Filter) words
fit_filter words filtering is = fit_with (synopsis_of verb.Filter) words is.rewrites.items (filtering.input ∷ filtering.out ∷ []) is.rewrites.reads (
  once_number 0 18446744073709551615 (given (codes "start") is.rewrites.items) is.ranged.start is.ranged.started,
  (
    once_number 0 18446744073709551615 (given (codes "end") is.rewrites.items) filtering.range.end is.ranged.ended,
    ((filtering.topic, is.topical), (once_number 1 67108864 (given (codes "chunk") is.rewrites.items) is.rewrites.size is.rewrites.sized, tt)),
  ),
) tt tt

pub fit_play : (words : List Word) (playing : Playing) → IsPlay words playing → Fitting (synopsis_of verb.Play) words
fit_play words playing is = fit_with (synopsis_of verb.Play) words is.items (playing.file ∷ playing.script ∷ []) is.reads (
  once_number 0 18446744073709551615 (given (codes "start") is.items) is.ranged.start is.ranged.started,
  (once_number 0 18446744073709551615 (given (codes "end") is.items) playing.range.end is.ranged.ended, ((playing.topic, is.topical), tt)),
) tt tt

pub fit_file : (v : Synopsis) (words : List Word) (file : Word) → HasOnlyFile v → IsOfFile v words file → Fitting v words
fit_file v words file only is = record {
  items = is.items;
  places = file ∷ [];
  reads = is.reads;
  fits = record {
    options = λ name option. absurd (no_option v only name option);
    flags = λ name flag. absurd (no_flag v only name flag);
    few = subst (λ (rest : Option Word). HasRoomIn rest 1) (sym (only_one_place v only).alone) (omega arith);
  };
}

-- and so are words of which one is `-`
item_whole : (v : Synopsis) (item : Item) → IsItem v item → All NoDash (words_of item)
item_whole v (flag name) is = All-cons NoDash (45 ∷ 45 ∷ name) [] (λ same. cc) (All-nil NoDash)
item_whole v (joined name value) is = All-cons NoDash (45 ∷ 45 ∷ (name ++ 61 ∷ value)) [] (λ same. cc) (All-nil NoDash)
item_whole v (apart name value) is = All-cons NoDash (45 ∷ 45 ∷ name) (value ∷ []) (λ same. cc) (All-cons NoDash value [] (free_clean value is.1) (All-nil NoDash))
item_whole v (plain word) is = All-cons NoDash word [] (free_clean word is) (All-nil NoDash)

items_whole : (v : Synopsis) (items : List Item) → All (IsItem v) items → All NoDash (flat_map words_of items)
items_whole v [] each = All-nil NoDash
items_whole v (item ∷ rest) each =
    All-append NoDash (words_of item) (flat_map words_of rest) (item_whole v item (All-head (IsItem v) item rest each)) (items_whole v rest (All-tail (IsItem v) item rest each))

pub reads_whole : (v : Synopsis) (words : List Word) (items : List Item) (places : List Word) → ReadsWords v words items places → All NoDash words
reads_whole v words items places reads =
    subst (All NoDash) (sym reads.cut.form) (All-append NoDash (flat_map words_of items) reads.cut.tail (items_whole v items reads.cut.each) (elim reads.cut.ends [
      | inl ends ↦ subst (All NoDash) (sym ends.0) (All-nil NoDash)
      | inr ends ↦ subst (All NoDash) (sym ends.0) (All-cons NoDash (codes "--") reads.behind (λ same. cc) ends.1)
    ]))

-- ---- for the code that reads what was found

-- the words of a recording have these names
module _ (words : List Word) (rows : List Row) (reading : IsReading (synopsis_of verb.Record) words rows) (recording : Recording) (is : IsRecord words recording) where
  pub record_names : (first_of (codes "out") rows ≡ Some recording.out) × (all_found (codes "feed") rows ≡ recording.feeds)
  record_names = more_are (synopsis_of verb.Record) words rows reading (codes "out") (codes "feed") recorded recording.out recording.feeds (sym (same_reading (synopsis_of verb.Record) words rows reading is.items (recording.out ∷ recording.feeds) is.reads).1)

  record_feeds : AreFeedNames recording.out recording.feeds
  record_feeds = (is.some, is.few, λ i d less. (is.feeds_named i d less, is.differ i d less))

  pub record_fed : (name : Word) → first_of (codes "out") rows ≡ Some name → AreFeedNames name (all_found (codes "feed") rows)
  record_fed name found =
      let same : recording.out ≡ name = same_Some recording.out name (sym record_names.0 ∙ found) in
      subst (λ (o : Word). AreFeedNames o (all_found (codes "feed") rows)) same (subst (AreFeedNames recording.out) (sym record_names.1) record_feeds)

  pub record_watching : HasWatchers reading.items recording.range recording.watchers
  record_watching = subst (λ (l : List Item). HasWatchers l recording.range recording.watchers) (same_reading (synopsis_of verb.Record) words rows reading is.items (recording.out ∷ recording.feeds) is.reads).0 is.watched

  -- and so are the feeds that aren't watchers' files, with what is found of watchers
  pub record_unwatched : (name : Word) (times : Range) (count : ℕ) → first_of (codes "out") rows ≡ Some name → HasWatchers reading.items times count → AreUnwatched name count (all_found (codes "feed") rows)
  record_unwatched name times count found has =
      let same : recording.out ≡ name = same_Some recording.out name (sym record_names.0 ∙ found) in
      let counts : recording.watchers ≡ count = (one_watching reading.items times recording.range count recording.watchers has record_watching).1 in
      subst (λ (o : Word). AreUnwatched o count (all_found (codes "feed") rows)) same
      (subst (λ (n : ℕ). AreUnwatched recording.out n (all_found (codes "feed") rows)) counts (subst (AreUnwatched recording.out recording.watchers) (sym record_names.1) is.unwatched))

  pub record_options : IsFileOptions reading.items recording.options.file
  record_options = subst (λ (l : List Item). IsFileOptions l recording.options.file) (same_reading (synopsis_of verb.Record) words rows reading is.items (recording.out ∷ recording.feeds) is.reads).0 is.options

  pub record_limit : GivesNumber 1 1073741824 (option_to_list (first_of (codes "limit") rows)) is.size
  record_limit =
      let same = ap (given (codes "limit")) (same_reading (synopsis_of verb.Record) words rows reading is.items (recording.out ∷ recording.feeds) is.reads).0 ∙ reading.shows.options (codes "limit") (inl refl) in
      subst (λ (l : List Word). GivesNumber 1 1073741824 l is.size) same is.sized

pub file_of_cat : (words : List Word) (rows : List Row) (reading : IsReading (synopsis_of verb.Cat) words rows) (printing : Printing) → IsCat words printing → first_of (codes "file") rows ≡ Some printing.file
file_of_cat words rows reading printing is =
    one_is (synopsis_of verb.Cat) words rows reading (codes "file") printed printing.file (sym (same_reading (synopsis_of verb.Cat) words rows reading is.items (printing.file ∷ []) is.reads).1)

pub range_of_cat : (words : List Word) (rows : List Row) (reading : IsReading (synopsis_of verb.Cat) words rows) (printing : Printing) → IsCat words printing → IsRange reading.items printing.range
range_of_cat words rows reading printing is =
    subst (λ (l : List Item). IsRange l printing.range) (same_reading (synopsis_of verb.Cat) words rows reading is.items (printing.file ∷ []) is.reads).0 is.ranged

-- the feeds among the words
abbrev MayFeed : Word → Word → Type 0
MayFeed out feed = (feed ≢ []) × (out ≢ feed)

-- what holds of each text holds of what each reference shows
pub texts_each : (P : Word → Type 0) (words : List (Bor Word)) → All P (texts words) → All (λ word. P word.now) words
texts_each P [] each = All-nil (λ (word : Bor Word). P word.now)
texts_each P (word ∷ words) each = All-cons (λ (word : Bor Word). P word.now) word words (All-head P word.now (texts words) each) (texts_each P words (All-tail P word.now (texts words) each))

pub feeds_are : (out : Word) (feeds : List (Bor Word)) → 1 ≤ length feeds → length feeds ≤ 64 → All (λ feed. MayFeed out feed.now) feeds → AreFeedNames out (texts feeds)
feeds_are out feeds some few each = (omega (arith, length-map feeds (λ word. word.now), some), omega (arith, length-map feeds (λ word. word.now), few), All-map (MayFeed out) (λ word. word.now) feeds each)

pub feeds_fit : (out : Word) (feeds : List (Bor Word)) → AreFeedNames out (texts feeds) → (1 ≤ length feeds) × (length feeds ≤ 64) × All (λ feed. MayFeed out feed.now) feeds
feeds_fit out feeds are = (omega (arith, length-map feeds (λ word. word.now), are.0), omega (arith, length-map feeds (λ word. word.now), are.1), texts_each (MayFeed out) feeds are.2)

pub of_named_file : (v : Synopsis) (words : List Word) (rows : List Row) (reading : IsReading v words rows) (file : Word) → HasOnlyFile v → IsOfFile v words file → (file ≢ []) × (first_of (codes "file") rows ≡ Some file)
of_named_file v words rows reading file only is =
    (is.named, one_is v words rows reading (codes "file") (only_one_place v only) file (sym (same_reading v words rows reading is.items (file ∷ []) is.reads).1))
