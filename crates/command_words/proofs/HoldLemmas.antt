-- One item or one positional more.
use Rattle.std.proofs.Common.{◌≡◌, ◌≢◌, ◌++◌, suc, Bool, true, false, List, [], ◌∷◌, Option, Some, None, refl, sym, ap, subst, inl, inr, ◌∙◌, codes, arith, length, append-nil}
use Rattle.std.specs.Prelude.{if◌then◌else◌}
use Rattle.std.specs.Option.{option_to_list}
use Rattle.std.specs.Str.{bytes_eq}
use Rattle.std.proofs.lemmas.List.{flat_map_more, length_push}
use Rattle.std.proofs.lemmas.Option.{same_Some}
use Rattle.std.proofs.lemmas.Slice.Eq.{bytes_eq-Decides}
use Rattle.clap.specs.Walk.{Row}
use Rattle.command_words.specs.Synopses.{Synopsis}
use Rattle.command_words.specs.Items.{Word, Item, flag, IsFlag, IsOption, given, value_given}
use Rattle.command_words.specs.Commands.{Flags}
use Rattle.command_words.specs.Matches.{AtPlacesIn, FitsSynopsis, TakesPositionals, HasRoomIn}
use Rattle.command_words.proofs.ItemLemmas.{flag_or_option}
use Rattle.command_words.proofs.RowLemmas.{Gathered, Holds, Said, find_more, put, put_gathers, put_others, row, other_text, said_of, said_others, taken}
use Rattle.command_words.proofs.RuleLemmas.{flag_not_place, has_room, option_not_place, place_for, place_in, place_is, places_map, two_places}
use Rattle.command_words.proofs.SynopsisLemmas.{is_text, same_text}

-- ---- lists

pub given_push : (name : Word) (items : List Item) (item : Item) → given name (items ++ item ∷ []) ≡ given name items ++ value_given name item
given_push name items item = sym (flat_map_more (value_given name) [] items item)

gathered_others : (id value other : Word) (rows : List Row) (values : List Word) → id ≢ other → Gathered rows other values → Gathered (taken id value rows) other values
gathered_others id value other rows [] unlike there = said_others id value other rows None unlike there
gathered_others id value other rows (v ∷ vs) unlike there = find_more other rows (row id value) ∙ rw there refl

-- ---- what holds

nothing_placed : (first : Word) (rest : Option Word) → AtPlacesIn first rest [] (Gathered [])
nothing_placed first None = refl
nothing_placed first (Some id) = (refl, refl)

no_words : (rest : Option Word) → HasRoomIn rest 0
no_words None = omega arith
no_words (Some id) = tt

pub holds_nothing : (synopsis : Synopsis) → Holds synopsis [] [] []
holds_nothing synopsis = record {
  options = λ name is. (None, refl, refl);
  flags = λ name is. (false, refl, refl);
  placed = nothing_placed synopsis.first synopsis.rest;
  few = no_words synopsis.rest;
}

pub holds_fits : (synopsis : Synopsis) (items : List Item) (places : List Word) (rows : List Row) → Holds synopsis items places rows → FitsSynopsis synopsis items places
holds_fits synopsis items places rows holds = record {
  options = λ name is. let one = holds.options name is in (one.0, one.1);
  flags = λ name is. let one = holds.flags name is in (one.0, one.1);
  few = holds.few;
}

-- a flag more
pub holds_flag : (synopsis : Synopsis) (items : List Item) (places : List Word) (rows : List Row) (name : Word) → IsFlag synopsis name → Said rows name None → Holds synopsis items places rows
    → Holds synopsis (items ++ flag name ∷ []) places (taken name (codes "true") rows)
holds_flag synopsis items places rows name is none holds = record {
  options = λ other option.
      let unlike : name ≢ other = λ same. flag_or_option synopsis name is (subst (IsOption synopsis) (sym same) option) in
      let one = holds.options other option in
      let more : given other (items ++ flag name ∷ []) ≡ given other items = given_push other items (flag name) ∙ rw (other_text name other unlike) (append-nil (given other items)) in
      (one.0, more ∙ one.1, said_others name (codes "true") other rows one.0 unlike one.2);
  flags = λ other flagged. elim (is_text name other) [
    | inl same ↦ subst (λ n. (is_there : Bool) × Flags (given n (items ++ flag name ∷ [])) is_there × Said (taken name (codes "true") rows) n (if is_there then Some (codes "true") else None)) same (first_flag synopsis items rows name none (holds.flags name is))
    | inr unlike ↦
        let one = holds.flags other flagged in
        let differ : name ≢ other = λ same. let wrong : bytes_eq name other ≡ true = (bytes_eq-Decides name other).1 same in cc in
        let more : given other (items ++ flag name ∷ []) ≡ given other items = given_push other items (flag name) ∙ rw unlike (append-nil (given other items)) in
        (one.0, more ∙ one.1, said_others name (codes "true") other rows (if one.0 then Some (codes "true") else None) differ one.2)
  ];
  placed = places_map synopsis places (Gathered rows) (Gathered (taken name (codes "true") rows)) (λ id words place there. gathered_others name (codes "true") id rows words (flag_not_place synopsis name id is place) there) holds.placed;
  few = holds.few;
}
  where
    first_flag : (synopsis : Synopsis) (items : List Item) (rows : List Row) (name : Word) → Said rows name None → (is_there : Bool) × Flags (given name items) is_there × Said rows name (if is_there then Some (codes "true") else None)
        → (is_there : Bool) × Flags (given name (items ++ flag name ∷ [])) is_there × Said (taken name (codes "true") rows) name (if is_there then Some (codes "true") else None)
    first_flag synopsis items rows name none (true, flags, said) = let wrong : Some (row name (codes "true")) ≡ None = sym said ∙ none in cc
    first_flag synopsis items rows name none (false, flags, said) =
        (true, given_push name items (flag name) ∙ rw (flags, same_text name) refl, said_of name (codes "true") rows none)

-- an option more
pub holds_option : (synopsis : Synopsis) (items : List Item) (places : List Word) (rows : List Row) (name value : Word) (item : Item) → ((other : Word) → value_given other item ≡ (if bytes_eq name other then value ∷ [] else []))
    → IsOption synopsis name → Said rows name None → Holds synopsis items places rows → Holds synopsis (items ++ item ∷ []) places (taken name value rows)
holds_option synopsis items places rows name value item uses is none holds = record {
  options = λ other option. elim (is_text name other) [
    | inl same ↦ subst (λ n. (found : Option Word) × (given n (items ++ item ∷ []) ≡ option_to_list found) × Said (taken name value rows) n found) same (first_option (holds.options name is))
    | inr unlike ↦
        let one = holds.options other option in
        let differ : name ≢ other = λ same. let wrong : bytes_eq name other ≡ true = (bytes_eq-Decides name other).1 same in cc in
        let more : given other (items ++ item ∷ []) ≡ given other items = given_push other items item ∙ ap (λ (l : List Word). given other items ++ l) (uses other) ∙ rw unlike (append-nil (given other items)) in
        (one.0, more ∙ one.1, said_others name value other rows one.0 differ one.2)
  ];
  flags = λ other flagged.
      let unlike : name ≢ other = λ same. flag_or_option synopsis other flagged (subst (IsOption synopsis) same is) in
      let one = holds.flags other flagged in
      let more : given other (items ++ item ∷ []) ≡ given other items = given_push other items item ∙ ap (λ (l : List Word). given other items ++ l) (uses other) ∙ rw (other_text name other unlike) (append-nil (given other items)) in
      (one.0, more ∙ one.1, said_others name value other rows (if one.0 then Some (codes "true") else None) unlike one.2);
  placed = places_map synopsis places (Gathered rows) (Gathered (taken name value rows)) (λ id words place there. gathered_others name value id rows words (option_not_place synopsis name id is place) there) holds.placed;
  few = holds.few;
}
  where
    first_option : (found : Option Word) × (given name items ≡ option_to_list found) × Said rows name found
        → (found : Option Word) × (given name (items ++ item ∷ []) ≡ option_to_list found) × Said (taken name value rows) name found
    first_option (Some x, once, said) = let wrong : Some (row name x) ≡ None = sym said ∙ none in cc
    first_option (None, once, said) =
        (Some value, given_push name items item ∙ ap (λ (l : List Word). given name items ++ l) (uses name) ∙ rw (once, same_text name) refl, said_of name value rows none)

-- a positional more

put_placed : (first : Word) (rest : Option Word) → ((other : Word) → rest ≡ Some other → first ≢ other) → (places : List Word) (rows : List Row) (id word : Word) → place_in first rest (length places) ≡ Some id → AtPlacesIn first rest places (Gathered rows)
    → AtPlacesIn first rest (places ++ word ∷ []) (Gathered (put id word rows))
put_placed first None two [] rows id word is placed =
    subst (λ (i : Word). Gathered (put i word rows) first (word ∷ [])) (same_Some first id is) (put_gathers first word [] rows placed)
put_placed first None two (x ∷ xs) rows id word is placed = cc
put_placed first (Some rest) two [] rows id word is placed =
    subst (λ (i : Word). AtPlacesIn first (Some rest) (word ∷ []) (Gathered (put i word rows))) (same_Some first id is)
    (put_gathers first word [] rows placed.0, put_others first word rest rows (two rest refl) ∙ placed.1)
put_placed first (Some rest) two (x ∷ xs) rows id word is placed =
    subst (λ (i : Word). AtPlacesIn first (Some rest) (x ∷ xs ++ word ∷ []) (Gathered (put i word rows))) (same_Some rest id is)
    (put_others rest word first rows (λ same. two rest refl (sym same)) ∙ placed.0, put_gathers rest word xs rows placed.1)

pub holds_place : (synopsis : Synopsis) (items : List Item) (places : List Word) (rows : List Row) (id word : Word) → place_for synopsis (length places) ≡ Some id → Holds synopsis items places rows
    → Holds synopsis items (places ++ word ∷ []) (put id word rows)
holds_place synopsis items places rows id word at holds =
    let place = place_is synopsis (length places) id at in
    let more : suc (length places) ≡ length (places ++ word ∷ []) = omega (arith, length_push places word) in
    record {
      options = λ name is.
          let one = holds.options name is in
          (one.0, one.1, put_others id word name rows (λ same. option_not_place synopsis name id is place (sym same)) ∙ one.2);
      flags = λ name is.
          let one = holds.flags name is in
          (one.0, one.1, put_others id word name rows (λ same. flag_not_place synopsis name id is place (sym same)) ∙ one.2);
      placed = put_placed synopsis.first synopsis.rest (two_places synopsis) places rows id word at holds.placed;
      few = subst (TakesPositionals synopsis) more (has_room synopsis (length places) id at);
    }

-- the same items and positionals, in another form
pub holds_as : (synopsis : Synopsis) (items others : List Item) (places : List Word) (rows : List Row) → ((name : Word) → given name others ≡ given name items) → Holds synopsis items places rows → Holds synopsis others places rows
holds_as synopsis items others places rows same holds = record {
  options = λ name is. let one = holds.options name is in (one.0, same name ∙ one.1, one.2);
  flags = λ name is. let one = holds.flags name is in (one.0, same name ∙ one.1, one.2);
  placed = holds.placed;
  few = holds.few;
}
