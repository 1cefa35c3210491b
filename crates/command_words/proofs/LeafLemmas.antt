-- What a command that reads these words finds, behind the walk over them.
use Rattle.std.proofs.Common.{◌≡◌, ◌≢◌, ◌&&◌, ◌++◌, Bool, true, false, not, List, [], ◌∷◌, Option, Some, None, refl, sym, ap, subst, inl, inr, ◌∙◌, codes, option_map}
use Rattle.std.specs.Prelude.{⊤, find, fold, is_some, map, option_and_then, slice_get, unwrap_or, if◌then◌else◌}
use Rattle.std.specs.Str.{bytes_eq}
use Rattle.clap.specs.Kinds.{Kinds, check_kinds}
use Rattle.clap.specs.Walk.{Row, Rule, finished, has_row, is_empty, more_values, nothing_held, one_of, row_text, settled, walk, walk_from, idle, with_default}
use Rattle.clap.specs.Takes.{is_given}
use Rattle.clap.specs.Values.{bool_text}
use Rattle.std.specs.List.{list_any}
use Rattle.std.specs.Option.{option_to_list}
use Rattle.command_words.proofs.ItemLemmas.{flag_or_option}
use Rattle.clap.specs.Faults.{check_fault, default_fault, defaults_fault, level_fault, settle_fault, walk_fault}
use Rattle.clap.specs.declared.builder.value_parser.Reading.TheVariants.{AsWritten}
use Rattle.clap.specs.declared.parser.matches.ValueSource.TheVariants.{DefaultValue}
use Rattle.command_words.specs.Synopses.{IsOneOf, Synopsis, are_distinct, places_with}
use Rattle.command_words.specs.Items.{Word, Item}
use Rattle.command_words.specs.Matches.{ParsesInto, all_found}
use Rattle.command_words.proofs.RowLemmas.{Gathered, Holds, Said, row, find_more, has_is_some, no_row, no_row_has, none_there, other_text}
use Rattle.command_words.proofs.RuleLemmas.{flag_rule, option_rule, place_rule, place_rules, places_map, rest_rule, rest_rules, rules_of}
use Rattle.command_words.proofs.SynopsisLemmas.{among_left, distinct_rest, flag_or_place_in, names_distinct, not_again, or_true, same_text}
use Rattle.command_words.proofs.TurnLemmas.{Passes, at, both_none, first_none, leaf, second_none}

-- ---- what is checked behind the walk finds nothing

plain_default : (rows : List Row) (a : Rule) → is_empty a.defaults ≡ true → default_fault rows a ≡ []
plain_default rows a none = rw (none, or_true (has_row a.id rows)) refl

flag_default : (rows : List Row) (name : Word) → default_fault rows (flag_rule name) ≡ []
flag_default rows name = go (has_row name rows) refl
  where
    go : (t : Bool) → has_row name rows ≡ t → default_fault rows (flag_rule name) ≡ []
    go true is = rw is refl
    go false is = rw is refl

abbrev Passing : Rule → Type 0
Passing a = (rows : List Row) → default_fault rows a ≡ []

abbrev AllPass : List Rule → Type 0
AllPass [] = ⊤
AllPass (a ∷ rest) = Passing a × AllPass rest

defaults_pass : (rules : List Rule) (rows : List Row) → AllPass rules → defaults_fault rows rules ≡ []
unfolding defaults_fault
defaults_pass [] rows pass = refl
defaults_pass (a ∷ rest) rows pass = both_none (default_fault rows a) (defaults_fault (with_default rows a) rest) (pass.0 rows) (defaults_pass rest (with_default rows a) pass.1)

each_passes : (make : Word → Rule) → ((name : Word) → Passing (make name)) → (names : List Word) (more : List Rule) → AllPass more → AllPass (map make names ++ more)
each_passes make pass [] more rest = rest
each_passes make pass (n ∷ names) more rest = (pass n, each_passes make pass names more rest)

places_pass : (first : Word) (rest : Option Word) → AllPass (place_rule first 1 ∷ rest_rules rest)
places_pass first None = (λ rows. plain_default rows (place_rule first 1) refl, tt)
places_pass first (Some id) = (λ rows. plain_default rows (place_rule first 1) refl, (λ rows. plain_default rows (rest_rule id 2) refl, tt))

all_pass : (synopsis : Synopsis) → AllPass (rules_of synopsis)
all_pass synopsis =
    each_passes flag_rule (λ name rows. flag_default rows name) synopsis.flags (map option_rule synopsis.options ++ place_rules synopsis)
    (each_passes option_rule (λ name rows. plain_default rows (option_rule name) refl) synopsis.options (place_rules synopsis) (places_pass synopsis.first synopsis.rest))

no_defaults_fault : (synopsis : Synopsis) (rows : List Row) → defaults_fault rows (rules_of synopsis) ≡ []
no_defaults_fault synopsis rows = defaults_pass (rules_of synopsis) rows (all_pass synopsis)

-- no argument must be there
abbrev is_wanted : List Row → List Rule → Bool
is_wanted rows rules = list_any (λ a. a.required && not (is_given a.id rows)) rules

each_unwanted : (rows : List Row) (make : Word → Rule) → ((name : Word) → (make name).required ≡ false) → (names : List Word) (more : List Rule) → is_wanted rows (map make names ++ more) ≡ is_wanted rows more
each_unwanted rows make free [] more = refl
each_unwanted rows make free (n ∷ names) more = rw (free n) (each_unwanted rows make free names more)

places_unwanted : (rows : List Row) (first : Word) (rest : Option Word) → is_wanted rows (place_rule first 1 ∷ rest_rules rest) ≡ false
places_unwanted rows first None = refl
places_unwanted rows first (Some id) = refl

no_check_fault : (name : Word) (synopsis : Synopsis) (rows : List Row) → check_fault (leaf name synopsis) rows false ≡ []
no_check_fault name synopsis rows =
    ap (check_kinds false false)
    (each_unwanted rows flag_rule (λ name. refl) synopsis.flags (map option_rule synopsis.options ++ place_rules synopsis)
    ∙ each_unwanted rows option_rule (λ name. refl) synopsis.options (place_rules synopsis) ∙ places_unwanted rows synopsis.first synopsis.rest)

-- a command takes the words that its walk lets pass
abbrev pub leaf_fault : Word → Synopsis → List Word → Kinds
leaf_fault name synopsis words = level_fault (leaf name synopsis) [] nothing_held words false []

pub leaf_passes : (name : Word) (synopsis : Synopsis) (words : List Word) → leaf_fault name synopsis words ≡ [] → Passes name synopsis (at [] None idle 1 false) words
leaf_passes name synopsis words none =
    let walked : walk_fault (leaf name synopsis) [] (walk_from nothing_held) words ≡ [] = first_none _ _ none in
    let end : settle_fault (rules_of synopsis) false (walk (rules_of synopsis) [] nothing_held words).held ≡ [] = first_none _ _ (second_none (walk_fault (leaf name synopsis) [] (walk_from nothing_held) words) _ none) in
    (walked, end)

pub passes_leaf : (name : Word) (synopsis : Synopsis) (words : List Word) → Passes name synopsis (at [] None idle 1 false) words → leaf_fault name synopsis words ≡ []
passes_leaf name synopsis words passes =
    let w = walk (rules_of synopsis) [] nothing_held words in
    both_none _ _ passes.0 (both_none _ _ passes.1 (both_none _ _ (no_defaults_fault synopsis (settled (rules_of synopsis) w.held).rows) (no_check_fault name synopsis (finished (rules_of synopsis) w.held))))

-- ---- the rows with those of flags that weren't given

unlisted : (rows : List Row) (a : Rule) → a.defaults ≡ [] → with_default rows a ≡ rows
unlisted rows a none = go (has_row a.id rows) refl
  where
    go : (t : Bool) → has_row a.id rows ≡ t → with_default rows a ≡ rows
    go true is = rw is refl
    go false is = rw (is, none) refl

abbrev flagged : List Word → List Row → List Row
flagged names rows = fold with_default rows (map flag_rule names)

flags_first : (names : List Word) (more : List Rule) (rows : List Row) → fold with_default rows (map flag_rule names ++ more) ≡ fold with_default (flagged names rows) more
flags_first [] more rows = refl
flags_first (n ∷ names) more rows = flags_first names more (with_default rows (flag_rule n))

options_unlisted : (names : List Word) (more : List Rule) (rows : List Row) → fold with_default rows (map option_rule names ++ more) ≡ fold with_default rows more
options_unlisted [] more rows = refl
options_unlisted (n ∷ names) more rows = ap (λ (l : List Row). fold with_default l (map option_rule names ++ more)) (unlisted rows (option_rule n) refl) ∙ options_unlisted names more rows

places_unlisted : (first : Word) (rest : Option Word) (rows : List Row) → fold with_default rows (place_rule first 1 ∷ rest_rules rest) ≡ rows
places_unlisted first None rows = unlisted rows (place_rule first 1) refl
places_unlisted first (Some id) rows = ap (λ (l : List Row). with_default l (rest_rule id 2)) (unlisted rows (place_rule first 1) refl) ∙ unlisted rows (rest_rule id 2) refl

finished_rows : (synopsis : Synopsis) (rows : List Row) → fold with_default rows (rules_of synopsis) ≡ flagged synopsis.flags rows
finished_rows synopsis rows =
    let kept = flagged synopsis.flags rows in
    flags_first synopsis.flags (map option_rule synopsis.options ++ place_rules synopsis) rows ∙ options_unlisted synopsis.options (place_rules synopsis) kept
    ∙ places_unlisted synopsis.first synopsis.rest kept

abbrev default_row : Word → Row
default_row id = record {
  id = id;
  values = codes "false" ∷ [];
  count = None;
  source = Some DefaultValue;
  reading = AsWritten;
}

with_false : (rows : List Row) (id : Word) → Said rows id None → with_default rows (flag_rule id) ≡ rows ++ default_row id ∷ []
with_false rows id none = rw (no_row_has id rows none) (none_there id (more_values DefaultValue (codes "false" ∷ [])) (default_row id ∷ []) rows none)

kept_other : (name : Word) (rows : List Row) (r : Row) → bytes_eq r.id name ≡ false → find (λ r. bytes_eq r.id name) (rows ++ r ∷ []) ≡ find (λ r. bytes_eq r.id name) rows
kept_other name [] r other = rw other refl
kept_other name (x ∷ rows) r other = go (bytes_eq x.id name) refl (kept_other name rows r other)
  where
    go : (t : Bool) → bytes_eq x.id name ≡ t → find (λ r. bytes_eq r.id name) (rows ++ r ∷ []) ≡ find (λ r. bytes_eq r.id name) rows
        → find (λ r. bytes_eq r.id name) ((x ∷ rows) ++ r ∷ []) ≡ find (λ r. bytes_eq r.id name) (x ∷ rows)
    go true is next = rw is refl
    go false is next = rw is next

found_other : (rows : List Row) (id name : Word) → id ≢ name → find (λ r. bytes_eq r.id name) (with_default rows (flag_rule id)) ≡ find (λ r. bytes_eq r.id name) rows
found_other rows id name unlike = go (has_row id rows) refl
  where
    go : (t : Bool) → has_row id rows ≡ t → find (λ r. bytes_eq r.id name) (with_default rows (flag_rule id)) ≡ find (λ r. bytes_eq r.id name) rows
    go true is = rw is refl
    go false is = ap (find (λ r. bytes_eq r.id name)) (with_false rows id (no_row id rows is)) ∙ kept_other name rows (default_row id) (other_text id name unlike)

flag_shown : (rows : List Row) (id : Word) (is_there : Bool) → Said rows id (if is_there then Some (codes "true") else None) → one_of id (with_default rows (flag_rule id)) ≡ Some (bool_text is_there)
flag_shown rows id true said =
    let has : has_row id rows ≡ true = has_is_some id rows ∙ ap is_some said in
    let same : with_default rows (flag_rule id) ≡ rows = rw has refl in
    ap (one_of id) same ∙ ap (option_and_then row_text) said
flag_shown rows id false said =
    let last : find (λ r. bytes_eq r.id id) (rows ++ default_row id ∷ []) ≡ Some (default_row id) = find_more id rows (default_row id) ∙ rw (said, same_text id) refl in
    ap (one_of id) (with_false rows id said) ∙ ap (option_and_then row_text) last

-- a name that is no flag is found as it was
kept_found : (names : List Word) (name : Word) (rows : List Row) → (IsOneOf names name → ⊥) → find (λ r. bytes_eq r.id name) (flagged names rows) ≡ find (λ r. bytes_eq r.id name) rows
kept_found [] name rows none = refl
kept_found (n ∷ names) name rows none =
    kept_found names name (with_default rows (flag_rule n)) (λ later. none (inr later)) ∙ found_other rows n name (λ same. none (inl (sym same)))

-- and a flag is there or not
flags_shown : (names more : List Word) (name : Word) (rows : List Row) (is_there : Bool) → are_distinct (names ++ more) ≡ true → IsOneOf names name → Said rows name (if is_there then Some (codes "true") else None)
    → one_of name (flagged names rows) ≡ Some (bool_text is_there)
flags_shown [] more name rows is_there distinct is said = absurd is
flags_shown (n ∷ names) more name rows is_there distinct (inl same) said =
    let last : IsOneOf names name → ⊥ = λ later. not_again n (names ++ more) distinct (among_left names more n (subst (IsOneOf names) same later)) in
    ap (option_and_then row_text) (kept_found names name (with_default rows (flag_rule n)) last)
    ∙ subst (λ (w : Word). one_of name (with_default rows (flag_rule w)) ≡ Some (bool_text is_there)) same (flag_shown rows name is_there said)
flags_shown (n ∷ names) more name rows is_there distinct (inr later) said =
    let unlike : n ≢ name = λ same. not_again n (names ++ more) distinct (among_left names more n (subst (IsOneOf names) (sym same) later)) in
    flags_shown names more name (with_default rows (flag_rule n)) is_there (distinct_rest n (names ++ more) distinct) later (found_other rows n name unlike ∙ said)

gathered_found : (rows : List Row) (id : Word) (values : List Word) → Gathered rows id values → all_found id rows ≡ values
gathered_found rows id [] there = ap (λ (r : Option Row). unwrap_or (option_map (λ (r : Row). r.values) r) []) there
gathered_found rows id (v ∷ vs) there = ap (λ (r : Option Row). unwrap_or (option_map (λ (r : Row). r.values) r) []) there

pub holds_shows : (synopsis : Synopsis) (items : List Item) (places : List Word) (rows : List Row) → Holds synopsis items places rows → ParsesInto synopsis items places (fold with_default rows (rules_of synopsis))
holds_shows synopsis items places rows holds = subst (ParsesInto synopsis items places) (sym (finished_rows synopsis rows)) (record {
  options = λ name is.
      let one = holds.options name is in
      let found = kept_found synopsis.flags name rows (λ flag. flag_or_option synopsis name flag is) ∙ one.2 in
      one.1 ∙ sym (ap option_to_list (ap (option_and_then (λ (r : Row). slice_get r.values 0)) found ∙ first_value name one.0));
  flags = λ name is.
      let one = holds.flags name is in
      (one.0, one.1, flags_shown synopsis.flags (synopsis.options ++ places_with synopsis.first synopsis.rest) name rows one.0 (names_distinct synopsis) is one.2);
  placed = places_map synopsis places (Gathered rows) (λ id words. all_found id (flagged synopsis.flags rows) ≡ words)
      (λ id words place there. gathered_found (flagged synopsis.flags rows) id words (kept_found synopsis.flags id rows (λ flag. flag_or_place_in synopsis id flag place) ∙ there)) holds.placed;
  few = holds.few;
})
  where
    first_value : (id : Word) (value : Option Word) → option_and_then (λ (r : Row). slice_get r.values 0) (option_map (row id) value) ≡ value
    first_value id None = refl
    first_value id (Some v) = refl
