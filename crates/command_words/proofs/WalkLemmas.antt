-- What a walk over the words behind a command reads, and which words it lets pass.
use Rattle.std.proofs.Common.{◌≡◌, ◌≢◌, ◌⊎◌, ◌==◌, ◌≤◌, ◌++◌, ℕ, zero, suc, Bool, true, false, List, [], ◌∷◌, Option, Some, None, refl, sym, ap, subst, inl, inr, ◌∙◌, codes, arith, length, append-nil, append_assoc}
use Rattle.std.specs.Prelude.{if◌then◌else◌}
use Rattle.std.specs.List.{All, flat_map}
use Rattle.std.specs.Option.{option_map_or, option_to_list}
use Rattle.std.specs.Str.{IsUtf8}
use Rattle.std.proofs.lemmas.Option.{same_Some}
use Rattle.std.proofs.lemmas.Bool.Decides.{nat_tests}
use Rattle.std.proofs.lemmas.List.{length-append, length_push}
use Rattle.std.proofs.lemmas.List.Elements.{All-cons, All-head, All-tail, All-nil}
use Rattle.clap.specs.Lexer.{name_and_value}
use Rattle.clap.specs.Kinds.{Kinds}
use Rattle.clap.specs.Walk.{Row, Rule, Text, Waiting, idle, option, Walk, settled, used_by_id, walked}
use Rattle.clap.specs.Faults.{turn_fault, use_fault}
use Rattle.clap.proofs.LexerLemmas.{name_and_value-at, name_and_value-without}
use Rattle.command_words.specs.Synopses.{Synopsis}
use Rattle.command_words.specs.Items.{Word, Item, flag, joined, apart, plain, EndsItems, IsBare, IsFlag, IsFree, IsItem, IsOption, given, place_of, value_given, words_of}
use Rattle.command_words.specs.Commands.{Flags}
use Rattle.command_words.specs.Matches.{AreFine, AtPlacesIn, FitsSynopsis, TakesPositionals, IsLoose, IsLooseCut}
use Rattle.command_words.proofs.SynopsisLemmas.{same_text}
use Rattle.command_words.proofs.ItemLemmas.{flag_bare, no_empty_flag, no_empty_option, option_bare}
use Rattle.command_words.proofs.RowLemmas.{Gathered, Holds, Said, first_put, first_use, put, taken}
use Rattle.command_words.proofs.RuleLemmas.{flag_found, flag_rule, named, option_found, option_rule, place_by_id, place_for, position_for, room, room_less, rule_for, rules_of}
use Rattle.command_words.proofs.HoldLemmas.{given_push, holds_as, holds_flag, holds_nothing, holds_option, holds_place}
use Rattle.command_words.proofs.TurnLemmas.{Passes, Pending, at, both_none, fault_in, first_none, leaf, no_conflict, passes_end, passes_first, passes_more, rows_in, second_none, walk_on}
use Rattle.command_words.proofs.TurnLemmas.{IsCalm, free_turn, free_walk, is_calm, waiting_for}
use Rattle.command_words.proofs.TurnLemmas.{behind_turn, behind_walk, conflict_none, dashes, end_turn, end_walk, flag_valued, long_turn_as, long_walk_as, no_place_turn, place_turn, place_walk, short_turn, unknown_turn, value_turn, value_walk, conflict, long_turned}

-- the rows at the end of a walk
abbrev pub end_rows : Synopsis → Walk → List Word → List Row
end_rows synopsis w words = (settled (rules_of synopsis) (walk_on synopsis w words).held).rows

-- ---- what waits to be noted

first_unsaid : (first : Word) (rest : Option Word) (rows : List Row) → AtPlacesIn first rest [] (Gathered rows) → Said rows first None
first_unsaid first None rows placed = placed
first_unsaid first (Some id) rows placed = placed.0

place_unsaid : (synopsis : Synopsis) (items : List Item) (rows : List Row) (id : Word) → place_for synopsis 0 ≡ Some id → Holds synopsis items [] rows → Said rows id None
place_unsaid synopsis items rows id is holds =
    subst (λ (i : Word). Said rows i None) (same_Some synopsis.first id is) (first_unsaid synopsis.first synopsis.rest rows holds.placed)

-- a word of a positional, once it is noted
used_place : (synopsis : Synopsis) (items : List Item) (places : List Word) (rows : List Row) (id word : Word) → place_for synopsis (length places) ≡ Some id → Holds synopsis items places rows
    → used_by_id (Some (rule_for (length places) id)) (word ∷ []) rows ≡ put id word rows
used_place synopsis items [] rows id word is holds = first_put id word rows (place_unsaid synopsis items rows id is holds)
used_place synopsis items (x ∷ xs) rows id word is holds = refl

place_rows : (synopsis : Synopsis) (items : List Item) (places : List Word) (rows : List Row) (id word : Word) → place_for synopsis (length places) ≡ Some id → Holds synopsis items places rows → rows_in synopsis rows (Some (id, word ∷ [])) ≡ put id word rows
place_rows synopsis items places rows id word is holds =
    ap (λ (r : Option Rule). used_by_id r (word ∷ []) rows) (place_by_id synopsis (length places) id is) ∙ used_place synopsis items places rows id word is holds

abbrev pending_fault : List Text → List Row → Option Rule → Kinds
pending_fault values rows found = option_map_or (λ a. use_fault false a values rows) found []

sound_place : (synopsis : Synopsis) (items : List Item) (places : List Word) (rows : List Row) (id word : Word) → place_for synopsis (length places) ≡ Some id → Holds synopsis items places rows
    → pending_fault (word ∷ []) rows (Some (rule_for (length places) id)) ≡ []
sound_place synopsis items [] rows id word is holds = no_conflict id rows (place_unsaid synopsis items rows id is holds)
sound_place synopsis items (x ∷ xs) rows id word is holds = refl

place_fault : (synopsis : Synopsis) (items : List Item) (places : List Word) (rows : List Row) (id word : Word) → place_for synopsis (length places) ≡ Some id → Holds synopsis items places rows → fault_in synopsis rows (Some (id, word ∷ [])) ≡ []
place_fault synopsis items places rows id word is holds = ap (pending_fault (word ∷ []) rows) (place_by_id synopsis (length places) id is) ∙ sound_place synopsis items places rows id word is holds

option_rows : (synopsis : Synopsis) (id word : Word) (rows : List Row) → IsOption synopsis id → Said rows id None → rows_in synopsis rows (Some (id, word ∷ [])) ≡ taken id word rows
option_rows synopsis id word rows is none = ap (λ (r : Option Rule). used_by_id r (word ∷ []) rows) (option_found synopsis id is).1 ∙ first_use id word rows none

option_fault : (synopsis : Synopsis) (id word : Word) (rows : List Row) → IsOption synopsis id → fault_in synopsis rows (Some (id, word ∷ [])) ≡ conflict id rows
option_fault synopsis id word rows is = ap (pending_fault (word ∷ []) rows) (option_found synopsis id is).1

unfilled : (synopsis : Synopsis) (id : Word) (rows : List Row) → IsOption synopsis id → fault_in synopsis rows (Some (id, [])) ≡ [] → ⊥
unfilled synopsis id rows is none =
    let wants = ap (pending_fault [] rows) (option_found synopsis id is).1 in
    let wrong : pending_fault [] rows (Some (option_rule id)) ≡ [] = sym wants ∙ none in cc

-- ---- words behind `--`

-- a walk that goes on has nothing wrong in what waits
behind_noted : (name : Word) (synopsis : Synopsis) (words : List Word) (rows : List Row) (pending : Pending) (waiting : Waiting) (j : ℕ) → Passes name synopsis (at rows pending waiting (position_for synopsis j) true) words → fault_in synopsis rows pending ≡ []
behind_noted name synopsis [] rows pending waiting j passes = passes.1
behind_noted name synopsis (word ∷ rest) rows pending waiting j passes = go (place_for synopsis j) refl
  where
    go : (found : Option Word) → place_for synopsis j ≡ found → fault_in synopsis rows pending ≡ []
    go None is = absurd (no_place_turn name synopsis rows pending j is (passes_first name synopsis (at rows pending waiting (position_for synopsis j) true) word rest passes).0)
    go (Some id) is = sym (place_turn name synopsis rows pending j id is) ∙ (passes_first name synopsis (at rows pending waiting (position_for synopsis j) true) word rest passes).0

there_is_place : (name : Word) (synopsis : Synopsis) (word : Word) (rest : List Word) (rows : List Row) (pending : Pending) (waiting : Waiting) (j : ℕ) → Passes name synopsis (at rows pending waiting (position_for synopsis j) true) (word ∷ rest)
    → (id : Word) × (place_for synopsis j ≡ Some id)
there_is_place name synopsis word rest rows pending waiting j passes = go (place_for synopsis j) refl
  where
    go : (found : Option Word) → place_for synopsis j ≡ found → (id : Word) × (place_for synopsis j ≡ Some id)
    go None is = absurd (no_place_turn name synopsis rows pending j is (passes_first name synopsis (at rows pending waiting (position_for synopsis j) true) word rest passes).0)
    go (Some id) is = (id, is)

-- the walk after a word at a place
one_more : (synopsis : Synopsis) (places : List Word) (word : Word) (rows : List Row) (pending : Pending) (waiting : Waiting) (is_trailing : Bool)
    → at rows pending waiting (position_for synopsis (suc (length places))) is_trailing ≡ at rows pending waiting (position_for synopsis (length (places ++ word ∷ []))) is_trailing
one_more synopsis places word rows pending waiting is_trailing =
    let more : suc (length places) ≡ length (places ++ word ∷ []) = omega (arith, length_push places word) in
    ap (λ n. at rows pending waiting (position_for synopsis n) is_trailing) more

behind_goes : (synopsis : Synopsis) (word id : Word) (places : List Word) (rows : List Row) (pending : Pending) (waiting : Waiting) → place_for synopsis (length places) ≡ Some id
    → walked (rules_of synopsis) [] (at rows pending waiting (position_for synopsis (length places)) true) word ≡ at (rows_in synopsis rows pending) (Some (id, word ∷ [])) (waiting_for (length places)) (position_for synopsis (length (places ++ word ∷ []))) true
behind_goes synopsis word id places rows pending waiting is =
    behind_walk synopsis word waiting rows pending (position_for synopsis (length places)) ∙ place_walk synopsis word rows pending (length places) true waiting id is
    ∙ one_more synopsis places word (rows_in synopsis rows pending) (Some (id, word ∷ [])) (waiting_for (length places)) true

place_held : (synopsis : Synopsis) (items : List Item) (places : List Word) (rows : List Row) (id word : Word) → place_for synopsis (length places) ≡ Some id → Holds synopsis items places rows
    → Holds synopsis items (places ++ word ∷ []) (rows_in synopsis rows (Some (id, word ∷ [])))
place_held synopsis items places rows id word is holds =
    subst (Holds synopsis items (places ++ word ∷ [])) (sym (place_rows synopsis items places rows id word is holds)) (holds_place synopsis items places rows id word is holds)

pub back_behind : (name : Word) (synopsis : Synopsis) (words : List Word) (items : List Item) (places : List Word) (rows : List Row) (pending : Pending) (waiting : Waiting) → Holds synopsis items places (rows_in synopsis rows pending)
    → Passes name synopsis (at rows pending waiting (position_for synopsis (length places)) true) words → Holds synopsis items (places ++ words) (end_rows synopsis (at rows pending waiting (position_for synopsis (length places)) true) words)
back_behind name synopsis [] items places rows pending waiting holds passes = subst (λ (l : List Word). Holds synopsis items l (rows_in synopsis rows pending)) (sym (append-nil places)) holds
back_behind name synopsis (word ∷ rest) items places rows pending waiting holds passes =
    let w = at rows pending waiting (position_for synopsis (length places)) true in
    let there = there_is_place name synopsis word rest rows pending waiting (length places) passes in
    let goes = behind_goes synopsis word there.0 places rows pending waiting there.1 in
    let next : Passes name synopsis (at (rows_in synopsis rows pending) (Some (there.0, word ∷ [])) (waiting_for (length places)) (position_for synopsis (length (places ++ word ∷ []))) true) rest =
    subst (λ (v : Walk). Passes name synopsis v rest) goes (passes_first name synopsis w word rest passes).1 in
    let more = place_held synopsis items places (rows_in synopsis rows pending) there.0 word there.1 holds in
    let end = back_behind name synopsis rest items (places ++ word ∷ []) (rows_in synopsis rows pending) (Some (there.0, word ∷ [])) (waiting_for (length places)) more next in
    subst (λ (l : List Word). Holds synopsis items l (end_rows synopsis w (word ∷ rest))) (append_assoc places (word ∷ []) rest)
    (subst (λ (v : Walk). Holds synopsis items ((places ++ word ∷ []) ++ rest) (end_rows synopsis v rest)) (sym goes) end)

pub forth_behind : (name : Word) (synopsis : Synopsis) (words : List Word) (items : List Item) (places : List Word) (rows : List Row) (pending : Pending) (waiting : Waiting) → Holds synopsis items places (rows_in synopsis rows pending)
    → TakesPositionals synopsis (length (places ++ words)) → fault_in synopsis rows pending ≡ [] → Passes name synopsis (at rows pending waiting (position_for synopsis (length places)) true) words
forth_behind name synopsis [] items places rows pending waiting holds few none = passes_end name synopsis rows pending waiting (position_for synopsis (length places)) true none
forth_behind name synopsis (word ∷ rest) items places rows pending waiting holds few none =
    let w = at rows pending waiting (position_for synopsis (length places)) true in
    let there = room synopsis (length places) (room_less synopsis (suc (length places)) (length (places ++ word ∷ rest)) (omega (arith, length-append places (word ∷ rest))) few) in
    let goes = behind_goes synopsis word there.0 places rows pending waiting there.1 in
    let more = place_held synopsis items places (rows_in synopsis rows pending) there.0 word there.1 holds in
    let end = forth_behind name synopsis rest items (places ++ word ∷ []) (rows_in synopsis rows pending) (Some (there.0, word ∷ [])) (waiting_for (length places)) more
    (subst (λ (l : List Word). TakesPositionals synopsis (length l)) (sym (append_assoc places (word ∷ []) rest)) few)
    (place_fault synopsis items places (rows_in synopsis rows pending) there.0 word there.1 holds) in
    passes_more name synopsis w word rest (behind_turn name synopsis word waiting rows pending (position_for synopsis (length places)) ∙ place_turn name synopsis rows pending (length places) there.0 there.1 ∙ none)
    (subst (λ (v : Walk). Passes name synopsis v rest) (sym goes) end)

-- ---- what a word looks like

abbrev pub WordIs : Word → Type 0
WordIs word = IsFree word ⊎ ((word ≡ codes "--") ⊎ (((x : ℕ) × (xs : Word) × (word ≡ dashes (x ∷ xs))) ⊎ ((b : ℕ) × (bs : Word) × (word ≡ 45 ∷ b ∷ bs) × (b ≢ 45))))

is_dash : (c : ℕ) → (c ≡ 45) ⊎ (c ≢ 45)
is_dash c = go (c == 45) refl
  where
    go : (t : Bool) → (c == 45) ≡ t → (c ≡ 45) ⊎ (c ≢ 45)
    go true is = inl (grind (arith, nat_tests))
    go false is = inr (λ same. grind (arith, nat_tests))

begins_other : (c : ℕ) (cs : Word) → c ≢ 45 → IsFree (c ∷ cs)
begins_other c cs other = λ rest same. other (cc)

pub word_is : (word : Word) → word ≢ codes "-" → WordIs word
word_is [] no_dash = inl (λ rest same. cc)
word_is (c ∷ []) no_dash = elim (is_dash c) [
  | inl same ↦ absurd (no_dash (ap (λ (b : ℕ). b ∷ []) same))
  | inr other ↦ inl (begins_other c [] other)
]
word_is (c ∷ d ∷ []) no_dash = elim (is_dash c) [
  | inl same ↦ elim (is_dash d) [
    | inl same2 ↦ inr (inl (cc))
    | inr other ↦ inr (inr (inr (d, [], ap (λ (b : ℕ). b ∷ d ∷ []) same, other)))
  ]
  | inr other ↦ inl (begins_other c (d ∷ []) other)
]
word_is (c ∷ d ∷ x ∷ xs) no_dash = elim (is_dash c) [
  | inl same ↦ elim (is_dash d) [
    | inl same2 ↦ inr (inr (inl (x, xs, cc)))
    | inr other ↦ inr (inr (inr (d, x ∷ xs, ap (λ (b : ℕ). b ∷ d ∷ x ∷ xs) same, other)))
  ]
  | inr other ↦ inl (begins_other c (d ∷ x ∷ xs) other)
]

-- a text has no `=`, or is cut at its first
abbrev CutIs : Word → Type 0
CutIs text = IsBare text ⊎ ((front : Word) × (back : Word) × (text ≡ front ++ 61 ∷ back) × IsBare front)

bare_more : (c : ℕ) (cs : Word) → c ≢ 61 → IsBare cs → IsBare (c ∷ cs)
bare_more c cs other bare zero less = other
bare_more c cs other bare (suc i) less = bare i (omega arith)

cut_is : (text : Word) → CutIs text
cut_is [] = inl (λ i less. absurd (omega arith))
cut_is (c ∷ cs) = go (c == 61) refl (cut_is cs)
  where
    go : (t : Bool) → (c == 61) ≡ t → CutIs cs → CutIs (c ∷ cs)
    go true is rest = let same : c ≡ 61 = grind (arith, nat_tests) in inr ([], cs, ap (λ (b : ℕ). b ∷ cs) same, λ i less. absurd (omega arith))
    go false is (inl bare) = let other : c ≢ 61 = λ same. grind (arith, nat_tests) in inl (bare_more c cs other bare)
    go false is (inr cut) = let other : c ≢ 61 = λ same. grind (arith, nat_tests) in inr (c ∷ cut.0, cut.1, ap (λ (l : Word). c ∷ l) cut.2, bare_more c cut.0 other cut.3)

cut_parts : (text front back : Word) → text ≡ front ++ 61 ∷ back → IsBare front → name_and_value text ≡ (front, Some back)
cut_parts text front back form bare = ap name_and_value form ∙ name_and_value-at front back bare

-- ---- a word that begins with `--`

-- what such a word may be where nothing is wrong
data LongIs (synopsis : Synopsis) (named : Word) (rows : List Row) (pending : Pending) (position : ℕ) (after : Walk) : Type 0 where
  is_flag : IsFlag synopsis named → Said (rows_in synopsis rows pending) named None → after ≡ at (taken named (codes "true") (rows_in synopsis rows pending)) None idle position false → LongIs synopsis named rows pending position after
  is_joined : (name value : Word) → named ≡ name ++ 61 ∷ value → IsOption synopsis name → Said (rows_in synopsis rows pending) name None → after ≡ at (taken name value (rows_in synopsis rows pending)) None idle position false
      → LongIs synopsis named rows pending position after
  is_apart : IsOption synopsis named → after ≡ at (rows_in synopsis rows pending) (Some (named, [])) (option named) position false → LongIs synopsis named rows pending position after

module _ (name : Word) (synopsis : Synopsis) (x : ℕ) (xs : Word) (waiting : Waiting) (rows : List Row) (pending : Pending) (position : ℕ) where
  abbrev here : Walk
  here = at rows pending waiting position false

  abbrev Turns : Type 0
  Turns = turn_fault (leaf name synopsis) [] here (dashes (x ∷ xs)) ≡ []

  abbrev Long : Type 0
  Long = (fault_in synopsis rows pending ≡ []) × LongIs synopsis (x ∷ xs) rows pending position (walked (rules_of synopsis) [] here (dashes (x ∷ xs)))

  bare_long : name_and_value (x ∷ xs) ≡ (x ∷ xs, None) → Turns → Long
  bare_long cut turns = elim (named synopsis (x ∷ xs)) [
    | inl is ↦
        let none : long_turned name synopsis (dashes (x ∷ xs)) waiting (Some (flag_rule (x ∷ xs))) None rows pending position ≡ [] =
        sym (long_turn_as name synopsis x xs waiting rows pending position (x ∷ xs) None (Some (flag_rule (x ∷ xs))) cut (flag_found synopsis (x ∷ xs) is).0) ∙ turns in
        let parts : conflict (x ∷ xs) (rows_in synopsis rows pending) ≡ [] = second_none (fault_in synopsis rows pending) _ (first_none _ [] none) in
        let unsaid = conflict_none (x ∷ xs) (rows_in synopsis rows pending) parts in (
          first_none (fault_in synopsis rows pending) _ (first_none _ [] none),
          is_flag is unsaid
              (long_walk_as name synopsis x xs waiting rows pending position (x ∷ xs) None (Some (flag_rule (x ∷ xs))) cut (flag_found synopsis (x ∷ xs) is).0
              ∙ ap (λ (l : List Row). at l None idle position false) (first_use (x ∷ xs) (codes "true") (rows_in synopsis rows pending) unsaid)),
        )
    | inr (inl is) ↦
        let none : long_turned name synopsis (dashes (x ∷ xs)) waiting (Some (option_rule (x ∷ xs))) None rows pending position ≡ [] =
        sym (long_turn_as name synopsis x xs waiting rows pending position (x ∷ xs) None (Some (option_rule (x ∷ xs))) cut (option_found synopsis (x ∷ xs) is).0) ∙ turns in (
          first_none (fault_in synopsis rows pending) [] none,
          is_apart is
              (long_walk_as name synopsis x xs waiting rows pending position (x ∷ xs) None (Some (option_rule (x ∷ xs))) cut (option_found synopsis (x ∷ xs) is).0),
        )
    | inr (inr is) ↦ absurd (unknown_turn name synopsis (dashes (x ∷ xs)) waiting rows pending position (x ∷ xs) None
        (sym (long_turn_as name synopsis x xs waiting rows pending position (x ∷ xs) None None cut is) ∙ turns))
  ]

  cut_long : (n value : Word) → x ∷ xs ≡ n ++ 61 ∷ value → name_and_value (x ∷ xs) ≡ (n, Some value) → Turns → Long
  cut_long n value form cut turns = elim (named synopsis n) [
    | inl is ↦ absurd (flag_valued name synopsis (dashes (x ∷ xs)) waiting rows pending position n value
        (sym (long_turn_as name synopsis x xs waiting rows pending position n (Some value) (Some (flag_rule n)) cut (flag_found synopsis n is).0) ∙ turns))
    | inr (inl is) ↦
        let none : long_turned name synopsis (dashes (x ∷ xs)) waiting (Some (option_rule n)) (Some value) rows pending position ≡ [] =
        sym (long_turn_as name synopsis x xs waiting rows pending position n (Some value) (Some (option_rule n)) cut (option_found synopsis n is).0) ∙ turns in
        let parts : conflict n (rows_in synopsis rows pending) ≡ [] = second_none (fault_in synopsis rows pending) _ (first_none _ [] none) in
        let unsaid = conflict_none n (rows_in synopsis rows pending) parts in (
          first_none (fault_in synopsis rows pending) _ (first_none _ [] none),
          is_joined n value form is unsaid
              (long_walk_as name synopsis x xs waiting rows pending position n (Some value) (Some (option_rule n)) cut (option_found synopsis n is).0
              ∙ ap (λ (l : List Row). at l None idle position false) (first_use n value (rows_in synopsis rows pending) unsaid)),
        )
    | inr (inr is) ↦ absurd (unknown_turn name synopsis (dashes (x ∷ xs)) waiting rows pending position n (Some value)
        (sym (long_turn_as name synopsis x xs waiting rows pending position n (Some value) None cut is) ∙ turns))
  ]

  long_is : Turns → Long
  long_is turns = elim (cut_is (x ∷ xs)) [
    | inl bare ↦ bare_long (name_and_value-without (x ∷ xs) bare) turns
    | inr cut ↦ cut_long cut.0 cut.1 cut.2 (cut_parts (x ∷ xs) cut.0 cut.1 cut.2 cut.3) turns
  ]

-- ---- from a walk that passes to the items

pub fine_first : (word : Word) (rest : List Word) → AreFine (word ∷ rest) → IsUtf8 word × (word ≢ codes "-")
fine_first word rest fine = (All-head IsUtf8 word rest fine.0, All-head (λ word. word ≢ codes "-") word rest fine.1)

pub fine_rest : (word : Word) (rest : List Word) → AreFine (word ∷ rest) → AreFine rest
fine_rest word rest fine = (All-tail IsUtf8 word rest fine.0, All-tail (λ word. word ≢ codes "-") word rest fine.1)

short_bad : (name : Word) (synopsis : Synopsis) (word : Word) (waiting : Waiting) (rows : List Row) (pending : Pending) (position : ℕ) (b : ℕ) (bs : Word) → word ≡ 45 ∷ b ∷ bs → b ≢ 45 → IsUtf8 word
    → turn_fault (leaf name synopsis) [] (at rows pending waiting position false) word ≡ [] → ⊥
short_bad name synopsis word waiting rows pending position b bs is other utf none =
    short_turn name synopsis b bs waiting rows pending position other (subst IsUtf8 is utf) (subst (λ (w : Word). turn_fault (leaf name synopsis) [] (at rows pending waiting position false) w ≡ []) is none)

there_is_plain : (name : Word) (synopsis : Synopsis) (word : Word) (waiting : Waiting) (rows : List Row) (pending : Pending) (j : ℕ) → IsFree word → IsCalm waiting → turn_fault (leaf name synopsis) [] (at rows pending waiting (position_for synopsis j) false) word ≡ []
    → (id : Word) × (place_for synopsis j ≡ Some id) × (fault_in synopsis rows pending ≡ [])
there_is_plain name synopsis word waiting rows pending j free calm turns = go (place_for synopsis j) refl
  where
    go : (found : Option Word) → place_for synopsis j ≡ found → (id : Word) × (place_for synopsis j ≡ Some id) × (fault_in synopsis rows pending ≡ [])
    go None is = absurd (no_place_turn name synopsis rows pending j is (sym (free_turn name synopsis word waiting rows pending (position_for synopsis j) free calm) ∙ turns))
    go (Some id) is = (id, is, sym (place_turn name synopsis rows pending j id is) ∙ sym (free_turn name synopsis word waiting rows pending (position_for synopsis j) free calm) ∙ turns)

-- a walk that goes on has nothing wrong in what waits
idle_noted : (name : Word) (synopsis : Synopsis) (words : List Word) (rows : List Row) (pending : Pending) (j : ℕ) → AreFine words → Passes name synopsis (at rows pending idle (position_for synopsis j) false) words → fault_in synopsis rows pending ≡ []
idle_noted name synopsis [] rows pending j fine passes = passes.1
idle_noted name synopsis (word ∷ rest) rows pending j fine passes =
    let w = at rows pending idle (position_for synopsis j) false in
    let first = fine_first word rest fine in
    let turn = passes_first name synopsis w word rest passes in
    elim (word_is word first.1) [
      | inl free ↦ (there_is_plain name synopsis word idle rows pending j free tt turn.0).2
      | inr (inl end) ↦ behind_noted name synopsis rest rows pending idle j
          (subst (λ (v : Walk). Passes name synopsis v rest) (ap (walked (rules_of synopsis) [] w) end ∙ end_walk synopsis idle rows pending (position_for synopsis j)) turn.1)
      | inr (inr (inl long)) ↦ (long_is name synopsis long.0 long.1 idle rows pending (position_for synopsis j) (subst (λ (t : Word). turn_fault (leaf name synopsis) [] w t ≡ []) long.2 turn.0)).0
      | inr (inr (inr short)) ↦ absurd (short_bad name synopsis word idle rows pending (position_for synopsis j) short.0 short.1 short.2 short.3 first.0 turn.0)
    ]

-- the value of an option is the next word
abbrev Valued : Word → Synopsis → Word → List Row → ℕ → List Word → Type 0
Valued name synopsis n rows j words = (value : Word) × (rest : List Word) × (words ≡ value ∷ rest) × IsFree value × Passes name synopsis (at rows (Some (n, value ∷ [])) idle (position_for synopsis j) false) rest
    × (walk_on synopsis (at rows (Some (n, [])) (option n) (position_for synopsis j) false) words ≡ walk_on synopsis (at rows (Some (n, value ∷ [])) idle (position_for synopsis j) false) rest)

back_value : (name : Word) (synopsis : Synopsis) (n : Word) (words : List Word) (rows : List Row) (j : ℕ) → IsOption synopsis n → AreFine words → Passes name synopsis (at rows (Some (n, [])) (option n) (position_for synopsis j) false) words
    → Valued name synopsis n rows j words
back_value name synopsis n [] rows j is fine passes = absurd (unfilled synopsis n rows is passes.1)
back_value name synopsis n (word ∷ rest) rows j is fine passes =
    let pending : Pending = Some (n, []) in
    let w = at rows pending (option n) (position_for synopsis j) false in
    let first = fine_first word rest fine in
    let turn = passes_first name synopsis w word rest passes in
    elim (word_is word first.1) [
      | inl free ↦
          let goes = value_walk synopsis word n rows (position_for synopsis j) is free in
          (word, rest, refl, free, subst (λ (v : Walk). Passes name synopsis v rest) goes turn.1, ap (λ (v : Walk). walk_on synopsis v rest) goes)
      | inr (inl end) ↦ absurd (unfilled synopsis n rows is (behind_noted name synopsis rest rows pending (option n) j
          (subst (λ (v : Walk). Passes name synopsis v rest) (ap (walked (rules_of synopsis) [] w) end ∙ end_walk synopsis (option n) rows pending (position_for synopsis j)) turn.1)))
      | inr (inr (inl long)) ↦ absurd (unfilled synopsis n rows is (long_is name synopsis long.0 long.1 (option n) rows pending (position_for synopsis j) (subst (λ (t : Word). turn_fault (leaf name synopsis) [] w t ≡ []) long.2 turn.0)).0)
      | inr (inr (inr short)) ↦ absurd (short_bad name synopsis word (option n) rows pending (position_for synopsis j) short.0 short.1 short.2 short.3 first.0 turn.0)
    ]

-- the items of the words, and what holds behind them
pub record Rest (synopsis : Synopsis) (words : List Word) (items : List Item) (places : List Word) (end : List Row) : Type 0 where
  pub more : List Item
  pub behind : List Word
  pub cut : IsLooseCut synopsis words more behind
  pub holds : Holds synopsis (items ++ more) (places ++ (flat_map place_of more ++ behind)) end

rest_end : (synopsis : Synopsis) (items : List Item) (places : List Word) (tail behind : List Word) (end : List Row) → EndsItems tail behind → Holds synopsis items (places ++ behind) end → Rest synopsis tail items places end
rest_end synopsis items places tail behind end ends holds = record {
  more = [];
  behind = behind;
  cut = record { tail = tail; form = refl; each = All-nil (IsLoose synopsis); ends = ends };
  holds = subst (λ (l : List Item). Holds synopsis l (places ++ behind) end) (sym (append-nil items)) holds;
}

rest_item : (synopsis : Synopsis) (words others : List Word) (items : List Item) (places : List Word) (end : List Row) (item : Item) → IsLoose synopsis item → words ≡ words_of item ++ others
    → Rest synopsis others (items ++ item ∷ []) (places ++ place_of item) end → Rest synopsis words items places end
rest_item synopsis words others items places end item is form rest =
    let all : words ≡ flat_map words_of (item ∷ rest.more) ++ rest.cut.tail =
    form ∙ ap (λ (l : List Word). words_of item ++ l) rest.cut.form ∙ sym (append_assoc (words_of item) (flat_map words_of rest.more) rest.cut.tail) in
    let names : (items ++ item ∷ []) ++ rest.more ≡ items ++ item ∷ rest.more = append_assoc items (item ∷ []) rest.more in
    let ends : (places ++ place_of item) ++ (flat_map place_of rest.more ++ rest.behind) ≡ places ++ (flat_map place_of (item ∷ rest.more) ++ rest.behind) =
    append_assoc places (place_of item) (flat_map place_of rest.more ++ rest.behind) ∙ ap (λ (l : List Word). places ++ l) (sym (append_assoc (place_of item) (flat_map place_of rest.more) rest.behind)) in
    record {
      more = item ∷ rest.more;
      behind = rest.behind;
      cut = record { tail = rest.cut.tail; form = all; each = All-cons (IsLoose synopsis) item rest.more is rest.cut.each; ends = rest.cut.ends };
      holds = subst (λ (l : List Word). Holds synopsis (items ++ item ∷ rest.more) l end) ends
          (subst (λ (l : List Item). Holds synopsis l ((places ++ place_of item) ++ (flat_map place_of rest.more ++ rest.behind)) end) names rest.holds);
    }

-- a word at a place in front of `--`
plain_goes : (synopsis : Synopsis) (word id : Word) (places : List Word) (rows : List Row) (pending : Pending) (waiting : Waiting) → IsFree word → IsCalm waiting → place_for synopsis (length places) ≡ Some id
    → walked (rules_of synopsis) [] (at rows pending waiting (position_for synopsis (length places)) false) word ≡ at (rows_in synopsis rows pending) (Some (id, word ∷ [])) (waiting_for (length places)) (position_for synopsis (length (places ++ word ∷ []))) false
plain_goes synopsis word id places rows pending waiting free calm is =
    free_walk synopsis word waiting rows pending (position_for synopsis (length places)) free calm ∙ place_walk synopsis word rows pending (length places) false waiting id is
    ∙ one_more synopsis places word (rows_in synopsis rows pending) (Some (id, word ∷ [])) (waiting_for (length places)) false

plain_held : (synopsis : Synopsis) (items : List Item) (places : List Word) (rows : List Row) (id word : Word) → place_for synopsis (length places) ≡ Some id → Holds synopsis items places rows
    → Holds synopsis (items ++ plain word ∷ []) (places ++ word ∷ []) (rows_in synopsis rows (Some (id, word ∷ [])))
plain_held synopsis items places rows id word is holds =
    holds_as synopsis items (items ++ plain word ∷ []) (places ++ word ∷ []) (rows_in synopsis rows (Some (id, word ∷ []))) (λ name. given_push name items (plain word) ∙ append-nil (given name items)) (place_held synopsis items places rows id word is holds)

apart_held : (synopsis : Synopsis) (items : List Item) (places : List Word) (rows : List Row) (n value : Word) → IsOption synopsis n → Said rows n None → Holds synopsis items places rows
    → Holds synopsis (items ++ apart n value ∷ []) places (rows_in synopsis rows (Some (n, value ∷ [])))
apart_held synopsis items places rows n value is none holds =
    subst (Holds synopsis (items ++ apart n value ∷ []) places) (sym (option_rows synopsis n value rows is none)) (holds_option synopsis items places rows n value (apart n value) (λ other. refl) is none holds)

-- what the walk from here reads, for words of at most this number
abbrev Backs : Word → Synopsis → ℕ → Type 0
Backs name synopsis fuel = (words : List Word) (items : List Item) (places : List Word) (rows : List Row) (pending : Pending) (waiting : Waiting) → length words ≤ fuel → AreFine words → IsCalm waiting → Holds synopsis items places (rows_in synopsis rows pending)
    → Passes name synopsis (at rows pending waiting (position_for synopsis (length places)) false) words → Rest synopsis words items places (end_rows synopsis (at rows pending waiting (position_for synopsis (length places)) false) words)

module _ (name : Word) (synopsis : Synopsis) (fuel : ℕ) (next : Backs name synopsis fuel) (word : Word) (rest : List Word) (items : List Item) (places : List Word) (rows : List Row) (pending : Pending) (waiting : Waiting)
    (less : length rest ≤ fuel) (fine : AreFine (word ∷ rest)) (calm : IsCalm waiting) (holds : Holds synopsis items places (rows_in synopsis rows pending)) where
  abbrev now : Walk
  now = at rows pending waiting (position_for synopsis (length places)) false

  abbrev Read : Type 0
  Read = Rest synopsis (word ∷ rest) items places (end_rows synopsis now (word ∷ rest))

  abbrev kept : List Row
  kept = rows_in synopsis rows pending

  back_plain : IsFree word → turn_fault (leaf name synopsis) [] now word ≡ [] → Passes name synopsis (walked (rules_of synopsis) [] now word) rest → Read
  back_plain free turn passes =
      let there = there_is_plain name synopsis word waiting rows pending (length places) free calm turn in
      let goes = plain_goes synopsis word there.0 places rows pending waiting free calm there.1 in
      let end = next rest (items ++ plain word ∷ []) (places ++ word ∷ []) kept (Some (there.0, word ∷ [])) (waiting_for (length places)) less (fine_rest word rest fine) (is_calm (length places)) (plain_held synopsis items places kept there.0 word there.1 holds)
      (subst (λ (v : Walk). Passes name synopsis v rest) goes passes) in
      rest_item synopsis (word ∷ rest) rest items places (end_rows synopsis now (word ∷ rest)) (plain word) free refl
      (subst (λ (v : Walk). Rest synopsis rest (items ++ plain word ∷ []) (places ++ word ∷ []) (end_rows synopsis v rest)) (sym goes) end)

  back_end : word ≡ codes "--" → Passes name synopsis (walked (rules_of synopsis) [] now word) rest → Read
  back_end is passes =
      let goes : walked (rules_of synopsis) [] now word ≡ at rows pending waiting (position_for synopsis (length places)) true = ap (walked (rules_of synopsis) [] now) is ∙ end_walk synopsis waiting rows pending (position_for synopsis (length places)) in
      let end = back_behind name synopsis rest items places rows pending waiting holds (subst (λ (v : Walk). Passes name synopsis v rest) goes passes) in
      rest_end synopsis items places (word ∷ rest) rest (end_rows synopsis now (word ∷ rest)) (inr (ap (λ (w : Word). w ∷ rest) is, (fine_rest word rest fine).1))
      (subst (λ (v : Walk). Holds synopsis items (places ++ rest) (end_rows synopsis v rest)) (sym goes) end)

  back_long : (x : ℕ) (xs : Word) → word ≡ dashes (x ∷ xs) → LongIs synopsis (x ∷ xs) rows pending (position_for synopsis (length places)) (walked (rules_of synopsis) [] now word) → Passes name synopsis (walked (rules_of synopsis) [] now word) rest → Read
  back_long x xs form (is_flag is none goes) passes =
      let end = next rest (items ++ flag (x ∷ xs) ∷ []) places (taken (x ∷ xs) (codes "true") kept) None idle less (fine_rest word rest fine) tt (holds_flag synopsis items places kept (x ∷ xs) is none holds)
      (subst (λ (v : Walk). Passes name synopsis v rest) goes passes) in
      rest_item synopsis (word ∷ rest) rest items places (end_rows synopsis now (word ∷ rest)) (flag (x ∷ xs)) is (ap (λ (w : Word). w ∷ rest) form)
      (subst (λ (l : List Word). Rest synopsis rest (items ++ flag (x ∷ xs) ∷ []) l (end_rows synopsis now (word ∷ rest))) (sym (append-nil places))
      (subst (λ (v : Walk). Rest synopsis rest (items ++ flag (x ∷ xs) ∷ []) places (end_rows synopsis v rest)) (sym goes) end))
  back_long x xs form (is_joined n value cut is none goes) passes =
      let end = next rest (items ++ joined n value ∷ []) places (taken n value kept) None idle less (fine_rest word rest fine) tt (holds_option synopsis items places kept n value (joined n value) (λ other. refl) is none holds)
      (subst (λ (v : Walk). Passes name synopsis v rest) goes passes) in
      rest_item synopsis (word ∷ rest) rest items places (end_rows synopsis now (word ∷ rest)) (joined n value) is (ap (λ (w : Word). w ∷ rest) (form ∙ ap dashes cut))
      (subst (λ (l : List Word). Rest synopsis rest (items ++ joined n value ∷ []) l (end_rows synopsis now (word ∷ rest))) (sym (append-nil places))
      (subst (λ (v : Walk). Rest synopsis rest (items ++ joined n value ∷ []) places (end_rows synopsis v rest)) (sym goes) end))
  back_long x xs form (is_apart is goes) passes =
      let n = x ∷ xs in
      let v = back_value name synopsis n rest kept (length places) is (fine_rest word rest fine) (subst (λ (v : Walk). Passes name synopsis v rest) goes passes) in
      let fine_value : AreFine (v.0 ∷ v.1) = subst AreFine v.2 (fine_rest word rest fine) in
      let shorter : length v.1 ≤ fuel = omega (arith, ap length v.2) in
      let noted = idle_noted name synopsis v.1 kept (Some (n, v.0 ∷ [])) (length places) (fine_rest v.0 v.1 fine_value) v.4 in
      let unsaid = conflict_none n kept (sym (option_fault synopsis n v.0 kept is) ∙ noted) in
      let end = next v.1 (items ++ apart n v.0 ∷ []) places kept (Some (n, v.0 ∷ [])) idle shorter (fine_rest v.0 v.1 fine_value) tt (apart_held synopsis items places kept n v.0 is unsaid holds) v.4 in
      let last : end_rows synopsis now (word ∷ rest) ≡ end_rows synopsis (at kept (Some (n, v.0 ∷ [])) idle (position_for synopsis (length places)) false) v.1 =
      ap (λ (u : Walk). end_rows synopsis u rest) goes ∙ ap (λ (u : Walk). (settled (rules_of synopsis) u.held).rows) v.5 in
      rest_item synopsis (word ∷ rest) v.1 items places (end_rows synopsis now (word ∷ rest)) (apart n v.0) (is, v.3) (ap (λ (w : Word). w ∷ rest) form ∙ ap (λ (l : List Word). dashes n ∷ l) v.2)
      (subst (λ (l : List Word). Rest synopsis v.1 (items ++ apart n v.0 ∷ []) l (end_rows synopsis now (word ∷ rest))) (sym (append-nil places))
      (subst (λ (l : List Row). Rest synopsis v.1 (items ++ apart n v.0 ∷ []) places l) (sym last) end))

back_first : (name : Word) (synopsis : Synopsis) (fuel : ℕ) → Backs name synopsis fuel → Backs name synopsis (suc fuel)
back_first name synopsis fuel next [] items places rows pending waiting less fine calm holds passes =
    rest_end synopsis items places [] [] (rows_in synopsis rows pending) (inl (refl, refl)) (subst (λ (l : List Word). Holds synopsis items l (rows_in synopsis rows pending)) (sym (append-nil places)) holds)
back_first name synopsis fuel next (word ∷ rest) items places rows pending waiting less fine calm holds passes =
    let w = at rows pending waiting (position_for synopsis (length places)) false in
    let short : length rest ≤ fuel = omega arith in
    let first = fine_first word rest fine in
    let turn = passes_first name synopsis w word rest passes in
    elim (word_is word first.1) [
      | inl free ↦ back_plain name synopsis fuel next word rest items places rows pending waiting short fine calm holds free turn.0 turn.1
      | inr (inl end) ↦ back_end name synopsis fuel next word rest items places rows pending waiting short fine calm holds end turn.1
      | inr (inr (inl long)) ↦ back_long name synopsis fuel next word rest items places rows pending waiting short fine calm holds long.0 long.1 long.2
          (subst (λ (t : Word). LongIs synopsis (long.0 ∷ long.1) rows pending (position_for synopsis (length places)) (walked (rules_of synopsis) [] w t)) (sym long.2)
          (long_is name synopsis long.0 long.1 waiting rows pending (position_for synopsis (length places)) (subst (λ (t : Word). turn_fault (leaf name synopsis) [] w t ≡ []) long.2 turn.0)).1) turn.1
      | inr (inr (inr short_one)) ↦ absurd (short_bad name synopsis word waiting rows pending (position_for synopsis (length places)) short_one.0 short_one.1 short_one.2 short_one.3 first.0 turn.0)
    ]

back_any : (name : Word) (synopsis : Synopsis) (fuel : ℕ) → Backs name synopsis fuel
back_any name synopsis zero [] items places rows pending waiting less fine calm holds passes =
    rest_end synopsis items places [] [] (rows_in synopsis rows pending) (inl (refl, refl)) (subst (λ (l : List Word). Holds synopsis items l (rows_in synopsis rows pending)) (sym (append-nil places)) holds)
back_any name synopsis zero (word ∷ rest) items places rows pending waiting less fine calm holds passes = absurd (omega arith)
back_any name synopsis (suc fuel) words items places rows pending waiting less fine calm holds passes = back_first name synopsis fuel (back_any name synopsis fuel) words items places rows pending waiting less fine calm holds passes

-- a walk that passes has read items
pub back : (name : Word) (synopsis : Synopsis) (words : List Word) → AreFine words → Passes name synopsis (at [] None idle 1 false) words → Rest synopsis words [] [] (end_rows synopsis (at [] None idle 1 false) words)
back name synopsis words fine passes = back_any name synopsis (length words) words [] [] [] None idle (omega arith) fine tt (holds_nothing synopsis) passes

-- ---- from items to a walk that passes

two_of : (a : Word) (more : List Word) (front : List Word) (found : Option Word) → front ++ a ∷ more ≡ option_to_list found → front ≡ []
two_of a more [] found same = refl
two_of a more (x ∷ []) None same = cc
two_of a more (x ∷ []) (Some y) same = cc
two_of a more (x ∷ y ∷ front) None same = cc
two_of a more (x ∷ y ∷ front) (Some z) same = cc

given_parts : (name : Word) (items : List Item) (item : Item) (more : List Item) → given name (items ++ item ∷ more) ≡ given name items ++ (value_given name item ++ given name more)
given_parts name [] item more = refl
given_parts name (x ∷ items) item more =
    ap (λ (l : List Word). value_given name x ++ l) (given_parts name items item more) ∙ sym (append_assoc (value_given name x) (given name items) (value_given name item ++ given name more))

-- an option that stands once wasn't said before
option_unsaid : (synopsis : Synopsis) (items more : List Item) (places others : List Word) (rows : List Row) (item : Item) (n value : Word) → IsOption synopsis n → value_given n item ≡ value ∷ [] → Holds synopsis items places rows
    → FitsSynopsis synopsis (items ++ item ∷ more) others → Said rows n None
option_unsaid synopsis items more places others rows item n value is uses holds fits = go (holds.options n is)
  where
    nothing : given n items ≡ []
    nothing =
        let once = fits.options n is in
        let parts : given n items ++ value ∷ given n more ≡ option_to_list once.0 = sym (given_parts n items item more ∙ ap (λ (l : List Word). given n items ++ (l ++ given n more)) uses) ∙ once.1 in
        two_of value (given n more) (given n items) once.0 parts

    go : (found : Option Word) × (given n items ≡ option_to_list found) × Said rows n found → Said rows n None
    go (None, is, said) = said
    go (Some x, is, said) = let wrong : x ∷ [] ≡ [] = sym is ∙ nothing in cc

flag_unsaid : (synopsis : Synopsis) (items more : List Item) (places others : List Word) (rows : List Row) (n : Word) → IsFlag synopsis n → Holds synopsis items places rows → FitsSynopsis synopsis (items ++ flag n ∷ more) others → Said rows n None
flag_unsaid synopsis items more places others rows n is holds fits = go (holds.flags n is)
  where
    there : (values : List Word) (is_there : Bool) → Flags values is_there → (found : Option Word) × (values ≡ option_to_list found)
    there values true same = (Some [], same)
    there values false same = (None, same)

    nothing : given n items ≡ []
    nothing =
        let flags = fits.flags n is in
        let once = there (given n (items ++ flag n ∷ more)) flags.0 flags.1 in
        let uses : value_given n (flag n) ≡ [] ∷ [] = rw (same_text n) refl in
        let parts : given n items ++ [] ∷ given n more ≡ option_to_list once.0 = sym (given_parts n items (flag n) more ∙ ap (λ (l : List Word). given n items ++ (l ++ given n more)) uses) ∙ once.1 in
        two_of [] (given n more) (given n items) once.0 parts

    go : (is_there : Bool) × Flags (given n items) is_there × Said rows n (if is_there then Some (codes "true") else None) → Said rows n None
    go (false, is, said) = said
    go (true, is, said) = let wrong : [] ∷ [] ≡ [] = sym is ∙ nothing in cc

-- a name that isn't empty
has_first : (named : Word) → named ≢ [] → (x : ℕ) × (xs : Word) × (named ≡ x ∷ xs)
has_first [] some = absurd (some refl)
has_first (x ∷ xs) some = (x, xs, refl)

some_flag : (synopsis : Synopsis) (n : Word) → IsFlag synopsis n → n ≢ []
some_flag synopsis n is = λ none. no_empty_flag synopsis (subst (IsFlag synopsis) none is)

some_option : (synopsis : Synopsis) (n : Word) → IsOption synopsis n → n ≢ []
some_option synopsis n is = λ none. no_empty_option synopsis (subst (IsOption synopsis) none is)

some_cut : (n value : Word) → n ++ 61 ∷ value ≢ []
some_cut [] value = λ none. cc
some_cut (c ∷ cs) value = λ none. cc

-- a word that begins with `--` lets the walk go on
abbrev Step : Word → Synopsis → Waiting → List Row → Pending → ℕ → Word → Walk → Type 0
Step name synopsis waiting rows pending position word after =
    (turn_fault (leaf name synopsis) [] (at rows pending waiting position false) word ≡ []) × (walked (rules_of synopsis) [] (at rows pending waiting position false) word ≡ after)

flag_steps : (name : Word) (synopsis : Synopsis) (n : Word) (waiting : Waiting) (rows : List Row) (pending : Pending) (position : ℕ) → IsFlag synopsis n → fault_in synopsis rows pending ≡ [] → Said (rows_in synopsis rows pending) n None
    → Step name synopsis waiting rows pending position (dashes n) (at (taken n (codes "true") (rows_in synopsis rows pending)) None idle position false)
flag_steps name synopsis n waiting rows pending position is none unsaid =
    let some = has_first n (some_flag synopsis n is) in
    subst (λ (m : Word). Step name synopsis waiting rows pending position (dashes m) (at (taken n (codes "true") (rows_in synopsis rows pending)) None idle position false)) (sym some.2) (
    let cut : name_and_value (some.0 ∷ some.1) ≡ (n, None) = ap name_and_value (sym some.2) ∙ name_and_value-without n (flag_bare synopsis n is) in (
      long_turn_as name synopsis some.0 some.1 waiting rows pending position n None (Some (flag_rule n)) cut (flag_found synopsis n is).0
          ∙ both_none _ [] (both_none (fault_in synopsis rows pending) (conflict n (rows_in synopsis rows pending)) none (no_conflict n (rows_in synopsis rows pending) unsaid)) refl,
      long_walk_as name synopsis some.0 some.1 waiting rows pending position n None (Some (flag_rule n)) cut (flag_found synopsis n is).0
          ∙ ap (λ (l : List Row). at l None idle position false) (first_use n (codes "true") (rows_in synopsis rows pending) unsaid),
    ))

joined_steps : (name : Word) (synopsis : Synopsis) (n value : Word) (waiting : Waiting) (rows : List Row) (pending : Pending) (position : ℕ) → IsOption synopsis n → fault_in synopsis rows pending ≡ [] → Said (rows_in synopsis rows pending) n None
    → Step name synopsis waiting rows pending position (dashes (n ++ 61 ∷ value)) (at (taken n value (rows_in synopsis rows pending)) None idle position false)
joined_steps name synopsis n value waiting rows pending position is none unsaid =
    let some = has_first (n ++ 61 ∷ value) (some_cut n value) in
    subst (λ (m : Word). Step name synopsis waiting rows pending position (dashes m) (at (taken n value (rows_in synopsis rows pending)) None idle position false)) (sym some.2) (
    let cut : name_and_value (some.0 ∷ some.1) ≡ (n, Some value) = ap name_and_value (sym some.2) ∙ name_and_value-at n value (option_bare synopsis n is) in (
      long_turn_as name synopsis some.0 some.1 waiting rows pending position n (Some value) (Some (option_rule n)) cut (option_found synopsis n is).0
          ∙ both_none _ [] (both_none (fault_in synopsis rows pending) (conflict n (rows_in synopsis rows pending)) none (no_conflict n (rows_in synopsis rows pending) unsaid)) refl,
      long_walk_as name synopsis some.0 some.1 waiting rows pending position n (Some value) (Some (option_rule n)) cut (option_found synopsis n is).0
          ∙ ap (λ (l : List Row). at l None idle position false) (first_use n value (rows_in synopsis rows pending) unsaid),
    ))

apart_steps : (name : Word) (synopsis : Synopsis) (n : Word) (waiting : Waiting) (rows : List Row) (pending : Pending) (position : ℕ) → IsOption synopsis n → fault_in synopsis rows pending ≡ []
    → Step name synopsis waiting rows pending position (dashes n) (at (rows_in synopsis rows pending) (Some (n, [])) (option n) position false)
apart_steps name synopsis n waiting rows pending position is none =
    let some = has_first n (some_option synopsis n is) in
    subst (λ (m : Word). Step name synopsis waiting rows pending position (dashes m) (at (rows_in synopsis rows pending) (Some (n, [])) (option n) position false)) (sym some.2) (
    let cut : name_and_value (some.0 ∷ some.1) ≡ (n, None) = ap name_and_value (sym some.2) ∙ name_and_value-without n (option_bare synopsis n is) in (
      long_turn_as name synopsis some.0 some.1 waiting rows pending position n None (Some (option_rule n)) cut (option_found synopsis n is).0 ∙ both_none (fault_in synopsis rows pending) [] none refl,
      long_walk_as name synopsis some.0 some.1 waiting rows pending position n None (Some (option_rule n)) cut (option_found synopsis n is).0,
    ))

-- the walk over the items' words passes
abbrev Forth : Word → Synopsis → List Item → List Item → List Word → List Row → Pending → Waiting → List Word → List Word → Type 0
Forth name synopsis more items places rows pending waiting tail behind = All (IsItem synopsis) more → EndsItems tail behind → IsCalm waiting → Holds synopsis items places (rows_in synopsis rows pending) → fault_in synopsis rows pending ≡ []
    → FitsSynopsis synopsis (items ++ more) (places ++ (flat_map place_of more ++ behind)) → Passes name synopsis (at rows pending waiting (position_for synopsis (length places)) false) (flat_map words_of more ++ tail)

fits_as : (synopsis : Synopsis) (items others : List Item) (places last : List Word) → items ≡ others → places ≡ last → FitsSynopsis synopsis items places → FitsSynopsis synopsis others last
fits_as synopsis items others places last same same2 fits = subst (λ (l : List Word). FitsSynopsis synopsis others l) same2 (subst (λ (l : List Item). FitsSynopsis synopsis l places) same fits)

-- with an item moved from those to come to those that are read
fits_moved : (synopsis : Synopsis) (items more : List Item) (item : Item) (places behind : List Word) → FitsSynopsis synopsis (items ++ item ∷ more) (places ++ (flat_map place_of (item ∷ more) ++ behind))
    → FitsSynopsis synopsis ((items ++ item ∷ []) ++ more) ((places ++ place_of item) ++ (flat_map place_of more ++ behind))
fits_moved synopsis items more item places behind fits =
    fits_as synopsis (items ++ item ∷ more) ((items ++ item ∷ []) ++ more) (places ++ (flat_map place_of (item ∷ more) ++ behind)) ((places ++ place_of item) ++ (flat_map place_of more ++ behind))
    (sym (append_assoc items (item ∷ []) more))
    (ap (λ (l : List Word). places ++ l) (append_assoc (place_of item) (flat_map place_of more) behind) ∙ sym (append_assoc places (place_of item) (flat_map place_of more ++ behind))) fits

forth_end : (name : Word) (synopsis : Synopsis) (items : List Item) (places : List Word) (rows : List Row) (pending : Pending) (waiting : Waiting) (tail behind : List Word) → EndsItems tail behind → Holds synopsis items places (rows_in synopsis rows pending) → fault_in synopsis rows pending ≡ []
    → TakesPositionals synopsis (length (places ++ behind)) → Passes name synopsis (at rows pending waiting (position_for synopsis (length places)) false) tail
forth_end name synopsis items places rows pending waiting tail behind (inl ends) holds none few =
    subst (λ (l : List Word). Passes name synopsis (at rows pending waiting (position_for synopsis (length places)) false) l) (sym ends.0) (passes_end name synopsis rows pending waiting (position_for synopsis (length places)) false none)
forth_end name synopsis items places rows pending waiting tail behind (inr ends) holds none few =
    subst (λ (l : List Word). Passes name synopsis (at rows pending waiting (position_for synopsis (length places)) false) l) (sym ends.0)
    (passes_more name synopsis (at rows pending waiting (position_for synopsis (length places)) false) (codes "--") behind (end_turn name synopsis waiting rows pending (position_for synopsis (length places)))
    (subst (λ (v : Walk). Passes name synopsis v behind) (sym (end_walk synopsis waiting rows pending (position_for synopsis (length places)))) (forth_behind name synopsis behind items places rows pending waiting holds few none)))

forth_any : (name : Word) (synopsis : Synopsis) (more items : List Item) (places : List Word) (rows : List Row) (pending : Pending) (waiting : Waiting) (tail behind : List Word) → Forth name synopsis more items places rows pending waiting tail behind
forth_any name synopsis [] items places rows pending waiting tail behind each ends calm holds none fits = forth_end name synopsis items places rows pending waiting tail behind ends holds none fits.few
forth_any name synopsis (flag n ∷ more) items places rows pending waiting tail behind each ends calm holds none fits =
    let kept = rows_in synopsis rows pending in
    let is = All-head (IsItem synopsis) (flag n) more each in
    let unsaid = flag_unsaid synopsis items more places (places ++ (flat_map place_of more ++ behind)) kept n is holds fits in
    let step = flag_steps name synopsis n waiting rows pending (position_for synopsis (length places)) is none unsaid in
    let next = forth_any name synopsis more (items ++ flag n ∷ []) places (taken n (codes "true") kept) None idle tail behind (All-tail (IsItem synopsis) (flag n) more each) ends tt (holds_flag synopsis items places kept n is unsaid holds) refl
    (fits_as synopsis (items ++ flag n ∷ more) ((items ++ flag n ∷ []) ++ more) (places ++ (flat_map place_of more ++ behind)) (places ++ (flat_map place_of more ++ behind)) (sym (append_assoc items (flag n ∷ []) more)) refl fits) in
    passes_more name synopsis (at rows pending waiting (position_for synopsis (length places)) false) (dashes n) (flat_map words_of more ++ tail) step.0 (subst (λ (v : Walk). Passes name synopsis v (flat_map words_of more ++ tail)) (sym step.1) next)
forth_any name synopsis (joined n value ∷ more) items places rows pending waiting tail behind each ends calm holds none fits =
    let kept = rows_in synopsis rows pending in
    let item = joined n value in
    let is = (All-head (IsItem synopsis) item more each).0 in
    let unsaid = option_unsaid synopsis items more places (places ++ (flat_map place_of more ++ behind)) kept item n value is (rw (same_text n) refl) holds fits in
    let step = joined_steps name synopsis n value waiting rows pending (position_for synopsis (length places)) is none unsaid in
    let next = forth_any name synopsis more (items ++ item ∷ []) places (taken n value kept) None idle tail behind (All-tail (IsItem synopsis) item more each) ends tt (holds_option synopsis items places kept n value item (λ other. refl) is unsaid holds) refl
    (fits_as synopsis (items ++ item ∷ more) ((items ++ item ∷ []) ++ more) (places ++ (flat_map place_of more ++ behind)) (places ++ (flat_map place_of more ++ behind)) (sym (append_assoc items (item ∷ []) more)) refl fits) in
    passes_more name synopsis (at rows pending waiting (position_for synopsis (length places)) false) (dashes (n ++ 61 ∷ value)) (flat_map words_of more ++ tail) step.0 (subst (λ (v : Walk). Passes name synopsis v (flat_map words_of more ++ tail)) (sym step.1) next)
forth_any name synopsis (apart n value ∷ more) items places rows pending waiting tail behind each ends calm holds none fits =
    let kept = rows_in synopsis rows pending in
    let item = apart n value in
    let is = All-head (IsItem synopsis) item more each in
    let unsaid = option_unsaid synopsis items more places (places ++ (flat_map place_of more ++ behind)) kept item n value is.0 (rw (same_text n) refl) holds fits in
    let step = apart_steps name synopsis n waiting rows pending (position_for synopsis (length places)) is.0 none in
    let next = forth_any name synopsis more (items ++ item ∷ []) places kept (Some (n, value ∷ [])) idle tail behind (All-tail (IsItem synopsis) item more each) ends tt (apart_held synopsis items places kept n value is.0 unsaid holds)
    (option_fault synopsis n value kept is.0 ∙ no_conflict n kept unsaid)
    (fits_as synopsis (items ++ item ∷ more) ((items ++ item ∷ []) ++ more) (places ++ (flat_map place_of more ++ behind)) (places ++ (flat_map place_of more ++ behind)) (sym (append_assoc items (item ∷ []) more)) refl fits) in
    let last = flat_map words_of more ++ tail in
    let wanting : Walk = at kept (Some (n, [])) (option n) (position_for synopsis (length places)) false in
    passes_more name synopsis (at rows pending waiting (position_for synopsis (length places)) false) (dashes n) (value ∷ last) step.0
    (subst (λ (v : Walk). Passes name synopsis v (value ∷ last)) (sym step.1)
    (passes_more name synopsis wanting value last (value_turn name synopsis value n kept (position_for synopsis (length places)) is.0 is.1)
    (subst (λ (v : Walk). Passes name synopsis v last) (sym (value_walk synopsis value n kept (position_for synopsis (length places)) is.0 is.1)) next)))
forth_any name synopsis (plain word ∷ more) items places rows pending waiting tail behind each ends calm holds none fits =
    let kept = rows_in synopsis rows pending in
    let item = plain word in
    let free = All-head (IsItem synopsis) item more each in
    let there = room synopsis (length places) (room_less synopsis (suc (length places)) (length (places ++ (word ∷ (flat_map place_of more ++ behind)))) (omega (arith, length-append places (word ∷ (flat_map place_of more ++ behind)))) fits.few) in
    let goes = plain_goes synopsis word there.0 places rows pending waiting free calm there.1 in
    let next = forth_any name synopsis more (items ++ item ∷ []) (places ++ word ∷ []) kept (Some (there.0, word ∷ [])) (waiting_for (length places)) tail behind (All-tail (IsItem synopsis) item more each) ends (is_calm (length places)) (plain_held synopsis items places kept there.0 word there.1 holds)
    (place_fault synopsis items places kept there.0 word there.1 holds) (fits_moved synopsis items more item places behind fits) in
    let last = flat_map words_of more ++ tail in
    passes_more name synopsis (at rows pending waiting (position_for synopsis (length places)) false) word last
    (free_turn name synopsis word waiting rows pending (position_for synopsis (length places)) free calm ∙ place_turn name synopsis rows pending (length places) there.0 there.1 ∙ none)
    (subst (λ (v : Walk). Passes name synopsis v last) (sym goes) next)

-- items that fit are read
pub forth : (name : Word) (synopsis : Synopsis) (items : List Item) (tail behind : List Word) → All (IsItem synopsis) items → EndsItems tail behind → FitsSynopsis synopsis items (flat_map place_of items ++ behind) → Passes name synopsis (at [] None idle 1 false) (flat_map words_of items ++ tail)
forth name synopsis items tail behind each ends fits = forth_any name synopsis items [] [] [] None idle tail behind each ends tt (holds_nothing synopsis) refl fits
