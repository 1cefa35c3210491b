-- What is found for an argument, in the rows of a walk in which each is used once at most.
use Rattle.std.proofs.Common.{◌≡◌, ◌≢◌, Bool, true, false, List, [], ◌∷◌, ◌++◌, Option, Some, None, refl, sym, ap, subst, ◌∙◌, codes, append-nil}
use Rattle.std.specs.Prelude.{find, length, option_map, is_some, if◌then◌else◌}
use Rattle.std.specs.Option.{option_to_list}
use Rattle.std.specs.Str.{bytes_eq}
use Rattle.std.proofs.lemmas.Option.{same_Some}
use Rattle.std.proofs.lemmas.Slice.Eq.{bytes_eq-Decides}
use Rattle.clap.specs.Walk.{Row, at_row, has_row, more_values, with_values, without}
use Rattle.clap.specs.declared.builder.value_parser.Reading.TheVariants.{AsWritten}
use Rattle.clap.specs.declared.parser.matches.ValueSource.TheVariants.{CommandLine}
use Rattle.command_words.specs.Synopses.{Synopsis}
use Rattle.command_words.specs.Items.{Word, Item, IsFlag, IsOption, given}
use Rattle.command_words.specs.Commands.{Flags}
use Rattle.command_words.specs.Matches.{AtPlaces, TakesPositionals}
use Rattle.command_words.proofs.SynopsisLemmas.{same_text}

-- what is found for an argument that was given once
abbrev pub row : Word → Word → Row
row id value = record {
  id = id;
  values = value ∷ [];
  count = None;
  source = Some CommandLine;
  reading = AsWritten;
}

-- what the rows have for an argument
abbrev pub Said : List Row → Word → Option Word → Type 0
Said rows id value = find (λ r. bytes_eq r.id id) rows ≡ option_map (row id) value

-- what is found for an argument with these values
abbrev pub row_with : Word → List Word → Row
row_with id values = record {
  id = id;
  values = values;
  count = None;
  source = Some CommandLine;
  reading = AsWritten;
}

abbrev pub found_with : Word → List Word → Option Row
found_with id [] = None
found_with id (value ∷ values) = Some (row_with id (value ∷ values))

-- what the rows have for a positional
abbrev pub Gathered : List Row → Word → List Word → Type 0
Gathered rows id values = find (λ r. bytes_eq r.id id) rows ≡ found_with id values

-- the rows are those of the items and the positionals
pub record Holds (synopsis : Synopsis) (items : List Item) (places : List Word) (rows : List Row) : Type 0 where
  pub options : (name : Word) → IsOption synopsis name → (value : Option Word) × (given name items ≡ option_to_list value) × Said rows name value
  pub flags : (name : Word) → IsFlag synopsis name → (is_there : Bool) × Flags (given name items) is_there × Said rows name (if is_there then Some (codes "true") else None)
  pub placed : AtPlaces synopsis places (Gathered rows)
  pub few : TakesPositionals synopsis (length places)

abbrev pub taken : Word → Word → List Row → List Row
taken id value rows = rows ++ row id value ∷ []

pub other_text : (a b : Word) → a ≢ b → bytes_eq a b ≡ false
other_text a b unlike = go (bytes_eq a b) refl
  where
    go : (t : Bool) → bytes_eq a b ≡ t → t ≡ false
    go true is = absurd (unlike ((bytes_eq-Decides a b).0 is))
    go false is = refl

pub none_there : (id : Word) (change : Row → List Row) (missing rows : List Row) → Said rows id None → at_row id change missing rows ≡ rows ++ missing
none_there id change missing [] none = refl
none_there id change missing (r ∷ rows) none = go (bytes_eq r.id id) refl (none_there id change missing rows)
  where
    go : (t : Bool) → bytes_eq r.id id ≡ t → (Said rows id None → at_row id change missing rows ≡ rows ++ missing) → at_row id change missing (r ∷ rows) ≡ (r ∷ rows) ++ missing
    go true is next = let wrong : find (λ r. bytes_eq r.id id) (r ∷ rows) ≡ Some r = rw is refl in cc
    go false is next =
        let rest : Said rows id None = rw is at none in
        rw is (ap (λ (l : List Row). r ∷ l) (next rest))

-- the rows with one value more of an argument
abbrev pub put : Word → Word → List Row → List Row
put id word rows = with_values id AsWritten CommandLine (word ∷ []) rows

-- an argument that wasn't used before
pub first_put : (id value : Word) (rows : List Row) → Said rows id None → with_values id AsWritten CommandLine (value ∷ []) (without id rows) ≡ put id value rows
first_put id value rows none = ap (put id value) (none_there id (λ _. []) [] rows none ∙ append-nil rows)

pub first_use : (id value : Word) (rows : List Row) → Said rows id None → with_values id AsWritten CommandLine (value ∷ []) (without id rows) ≡ taken id value rows
first_use id value rows none = first_put id value rows none ∙ none_there id (more_values CommandLine (value ∷ [])) (row id value ∷ []) rows none

pub has_is_some : (id : Word) (rows : List Row) → has_row id rows ≡ is_some (find (λ r. bytes_eq r.id id) rows)
has_is_some id [] = refl
has_is_some id (r ∷ rows) = go (bytes_eq r.id id) refl (has_is_some id rows)
  where
    go : (t : Bool) → bytes_eq r.id id ≡ t → has_row id rows ≡ is_some (find (λ r. bytes_eq r.id id) rows) → has_row id (r ∷ rows) ≡ is_some (find (λ r. bytes_eq r.id id) (r ∷ rows))
    go true is next = rw is refl
    go false is next = rw is next

pub no_row : (id : Word) (rows : List Row) → has_row id rows ≡ false → Said rows id None
no_row id rows none = go (find (λ r. bytes_eq r.id id) rows) refl
  where
    go : (found : Option Row) → find (λ r. bytes_eq r.id id) rows ≡ found → Said rows id None
    go None is = is
    go (Some r) is = let wrong : has_row id rows ≡ true = has_is_some id rows ∙ ap is_some is in cc

pub no_row_has : (id : Word) (rows : List Row) → Said rows id None → has_row id rows ≡ false
no_row_has id rows none = has_is_some id rows ∙ ap is_some none

pub find_more : (id : Word) (rows : List Row) (r : Row) → find (λ r. bytes_eq r.id id) (rows ++ r ∷ []) ≡ (elim (find (λ r. bytes_eq r.id id) rows) as (λ _. Option Row) [ None ↦ find (λ r. bytes_eq r.id id) (r ∷ []) | Some x ↦ Some x ])
find_more id [] r = refl
find_more id (x ∷ rows) r = go (bytes_eq x.id id) refl (find_more id rows r)
  where
    go : (t : Bool) → bytes_eq x.id id ≡ t → find (λ r. bytes_eq r.id id) (rows ++ r ∷ []) ≡ (elim (find (λ r. bytes_eq r.id id) rows) as (λ _. Option Row) [ None ↦ find (λ r. bytes_eq r.id id) (r ∷ []) | Some x ↦ Some x ])
        → find (λ r. bytes_eq r.id id) ((x ∷ rows) ++ r ∷ []) ≡ (elim (find (λ r. bytes_eq r.id id) (x ∷ rows)) as (λ _. Option Row) [ None ↦ find (λ r. bytes_eq r.id id) (r ∷ []) | Some x ↦ Some x ])
    go true is next = rw is refl
    go false is next = rw is next

-- what the rows have behind a first use
pub said_of : (id value : Word) (rows : List Row) → Said rows id None → Said (taken id value rows) id (Some value)
said_of id value rows none = find_more id rows (row id value) ∙ rw (none, same_text id) refl

pub said_others : (id value other : Word) (rows : List Row) (is : Option Word) → id ≢ other → Said rows other is → Said (taken id value rows) other is
said_others id value other rows None unlike said = find_more other rows (row id value) ∙ rw (said, other_text id other unlike) refl
said_others id value other rows (Some x) unlike said = find_more other rows (row id value) ∙ rw said refl

-- what the rows have behind one value more
pub put_others : (id value other : Word) (rows : List Row) → id ≢ other → find (λ r. bytes_eq r.id other) (put id value rows) ≡ find (λ r. bytes_eq r.id other) rows
put_others id value other [] unlike = rw (other_text id other unlike) refl
put_others id value other (r ∷ rows) unlike = go (bytes_eq r.id id) refl (put_others id value other rows unlike)
  where
    next : (t : Bool) → bytes_eq r.id id ≡ false → bytes_eq r.id other ≡ t → find (λ r. bytes_eq r.id other) (put id value rows) ≡ find (λ r. bytes_eq r.id other) rows
        → find (λ r. bytes_eq r.id other) (put id value (r ∷ rows)) ≡ find (λ r. bytes_eq r.id other) (r ∷ rows)
    next true is same rest = rw (is, same) refl
    next false is same rest = rw (is, same) rest

    go : (t : Bool) → bytes_eq r.id id ≡ t → find (λ r. bytes_eq r.id other) (put id value rows) ≡ find (λ r. bytes_eq r.id other) rows
        → find (λ r. bytes_eq r.id other) (put id value (r ∷ rows)) ≡ find (λ r. bytes_eq r.id other) (r ∷ rows)
    go true is rest =
        let same : r.id ≡ id = (bytes_eq-Decides r.id id).0 is in
        let differ : bytes_eq r.id other ≡ false = other_text r.id other (λ equal. unlike (sym same ∙ equal)) in
        rw (is, differ) refl
    go false is rest = next (bytes_eq r.id other) is refl rest

more_of : (id value : Word) (r : Row) (values : List Word) (rows : List Row) → bytes_eq r.id id ≡ true → Some r ≡ found_with id values
    → find (λ r. bytes_eq r.id id) (more_values CommandLine (value ∷ []) r ++ rows) ≡ found_with id (values ++ value ∷ [])
more_of id value r [] rows is said = let wrong : Some r ≡ None = said in cc
more_of id value r (v ∷ vs) rows is said =
    let same : r ≡ row_with id (v ∷ vs) = same_Some r (row_with id (v ∷ vs)) said in
    subst (λ (x : Row). find (λ (y : Row). bytes_eq y.id id) (more_values CommandLine (value ∷ []) x ++ rows) ≡ found_with id ((v ∷ vs) ++ value ∷ [])) (sym same) (rw (same_text id) refl)

none_of : (id : Word) (values : List Word) → None ≡ found_with id values → values ≡ []
none_of id [] said = refl
none_of id (v ∷ vs) said = let wrong : None ≡ Some (row_with id (v ∷ vs)) = said in cc

pub put_gathers : (id value : Word) (values : List Word) (rows : List Row) → Gathered rows id values → Gathered (put id value rows) id (values ++ value ∷ [])
put_gathers id value values [] said = let none = none_of id values said in rw (none, same_text id) refl
put_gathers id value values (r ∷ rows) said = go (bytes_eq r.id id) refl (put_gathers id value values rows)
  where
    go : (t : Bool) → bytes_eq r.id id ≡ t → (Gathered rows id values → Gathered (put id value rows) id (values ++ value ∷ [])) → Gathered (put id value (r ∷ rows)) id (values ++ value ∷ [])
    go true is next =
        let here : Some r ≡ found_with id values = rw is at said in
        rw is (more_of id value r values rows is here)
    go false is next =
        let rest : Gathered rows id values = rw is at said in
        rw (is, is) (next rest)
