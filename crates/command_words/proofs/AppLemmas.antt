-- Which words the program's command takes, with its subcommands.
use Rattle.std.proofs.Common.{◌≡◌, ◌≢◌, ◌⊎◌, ◌==◌, ◌&&◌, ◌++◌, ℕ, Bool, true, false, List, [], ◌∷◌, Option, Some, None, refl, sym, ap, subst, inl, inr, ◌∙◌, codes, arith}
use Rattle.std.specs.Prelude.{find, fold, is_some, map, option_map}
use Rattle.std.specs.Option.{option_map_or}
use Rattle.std.specs.Str.{IsUtf8, bytes_eq}
use Rattle.std.proofs.lemmas.Slice.Eq.{bytes_eq-Decides}
use Rattle.std.proofs.lemmas.Bool.Decides.{nat_tests}
use Rattle.clap.specs.Kinds.{Kinds, or_else}
use Rattle.clap.specs.Walk.{Names, Text, Walk, after_step, answers_to, finished, idle, nothing_held, rows_after, settled, subcommand_met, subcommand_or_other, walk, walk_from, walked}
use Rattle.clap.specs.Simple.{App, Shape, built, entered, label_of, names_of, new_shape, rows_at, subcommand_of}
use Rattle.clap.specs.Faults.{check_fault, defaults_fault, entered_fault, fault_of, flags_fault, level_fault, other_fault, settle_fault, step_fault, is_simple_and_free, turn_fault, walk_fault}
use Rattle.clap.specs.declared.error.kind.ErrorKind.TheVariants.{InvalidSubcommand, UnknownArgument}
use Rattle.clap.proofs.WalkLemmas.{walk_stopped}
use Rattle.command_words.specs.Items.{Word, IsFree}
use Rattle.command_words.specs.Commands.{name_of, synopsis_of, verbs}
use Rattle.command_words.specs.Matches.{AreFine}
use Rattle.command_words.specs.CommandLine.{program}
use Rattle.command_words.specs.declared.verbs.Verb.{Verb}
use Rattle.command_words.proofs.RuleLemmas.{rules_of}
use Rattle.command_words.proofs.SynopsisLemmas.{is_text, or_false, unlike_text}
use Rattle.command_words.proofs.EachCommand.{IsListed, listed}
use Rattle.command_words.proofs.VerbLemmas.{one_name}
use Rattle.command_words.proofs.TurnLemmas.{both_none, dashes, first_letter, first_none, leaf, no_dash}
use Rattle.command_words.proofs.WalkLemmas.{fine_first, word_is}
use Rattle.command_words.proofs.LeafLemmas.{leaf_fault}

pub program_simple : is_simple_and_free program ≡ true
program_simple = refl

abbrev top_built : Shape
top_built = record (new_shape (codes "mcaprec")) {
  is_leaf = false;
  no_binary_name = true;
  disable_help_flag = true;
  disable_help_subcommand = true;
  subcommand_required = true;
  is_built = true;
}

abbrev leaf_of : Verb → Shape
leaf_of verb = leaf (name_of verb) (synopsis_of verb)

abbrev built_program : App
built_program = record { top = top_built; subs = map leaf_of verbs }

program_built : built program ≡ built_program
program_built = refl

abbrev program_names : Names
program_names = names_of built_program

-- ---- behind the name of a subcommand

abbrev entered_at : Text → List Text → Walk
entered_at name seen = record {
  held = nothing_held;
  waiting = idle;
  position = 1;
  is_trailing = false;
  stopped = Some (name, seen);
}

stopped_passes : (name : Text) (seen words : List Text) → walk_fault top_built program_names (entered_at name seen) words ≡ []
unfolding walk_fault walked
stopped_passes name seen [] = refl
stopped_passes name seen (word ∷ words) = stopped_passes name (seen ++ word ∷ []) words

-- ---- the subcommand of a name

abbrev label : Verb → Text × List Text
label verb = (name_of verb, [])

-- the first of some commands that answers to the name of one of them
label_found : (some : List Verb) (verb : Verb) → IsListed some verb → find (answers_to (name_of verb)) (map label some) ≡ Some (label verb)
label_found [] verb is = absurd is
label_found (v ∷ some) verb is = elim (is_text (name_of v) (name_of verb)) [
  | inl same ↦ rw (or_false (bytes_eq (name_of v) (name_of verb)), (bytes_eq-Decides (name_of v) (name_of verb)).1 same) (ap (λ (name : Word). Some (name, [])) same)
  | inr differ ↦ elim is [
    | inl same ↦ absurd (unlike_text (name_of v) (name_of verb) differ (ap name_of (sym same)))
    | inr later ↦ rw (or_false (bytes_eq (name_of v) (name_of verb)), differ) (label_found some verb later)
  ]
]

leaf_found : (some : List Verb) (verb : Verb) → IsListed some verb → find (λ s. answers_to (name_of verb) (label_of s)) (map leaf_of some) ≡ Some (leaf_of verb)
leaf_found [] verb is = absurd is
leaf_found (v ∷ some) verb is = elim (is_text (name_of v) (name_of verb)) [
  | inl same ↦ rw (or_false (bytes_eq (name_of v) (name_of verb)), (bytes_eq-Decides (name_of v) (name_of verb)).1 same) (ap (λ (u : Verb). Some (leaf_of u)) (one_name v verb same))
  | inr differ ↦ elim is [
    | inl same ↦ absurd (unlike_text (name_of v) (name_of verb) differ (ap name_of (sym same)))
    | inr later ↦ rw (or_false (bytes_eq (name_of v) (name_of verb)), differ) (leaf_found some verb later)
  ]
]

met : (verb : Verb) → subcommand_met program_names idle (name_of verb) ≡ Some (name_of verb)
met verb = ap (option_map (λ (s : Text × List Text). s.0)) (label_found verbs verb (listed verb))

abbrev walked_met : Word → Option Text → Walk
walked_met word found = let step = subcommand_or_other [] found idle 1 word nothing_held in after_step [] word (walk_from nothing_held) step.0 step.1

abbrev turned_met : Word → Option Text → Kinds
turned_met word found = let step = subcommand_or_other [] found idle 1 word nothing_held in or_else (other_fault top_built found word nothing_held) (step_fault top_built 1 step.0 step.1)

and_false : (b : Bool) → (b && false) ≡ false
and_false true = refl
and_false false = refl

name_walk : (verb : Verb) → walked [] program_names (walk_from nothing_held) (name_of verb) ≡ entered_at (name_of verb) []
unfolding walked
name_walk verb = ap (walked_met (name_of verb)) (met verb)

name_turn : (verb : Verb) → turn_fault top_built program_names (walk_from nothing_held) (name_of verb) ≡ []
name_turn verb = ap (turned_met (name_of verb)) (met verb) ∙ rw and_false refl

whole_walk : (verb : Verb) (rest : List Word) → walk [] program_names nothing_held (name_of verb ∷ rest) ≡ entered_at (name_of verb) rest
whole_walk verb rest =
    ap (λ (w : Walk). fold (walked [] program_names) w rest) (name_walk verb) ∙ sym (walk_stopped [] program_names (walk_from nothing_held) (name_of verb) [] rest)

whole_fault : (verb : Verb) (rest : List Word) → walk_fault top_built program_names (walk_from nothing_held) (name_of verb ∷ rest) ≡ []
unfolding walk_fault
whole_fault verb rest =
    both_none _ _ (name_turn verb) (subst (λ (w : Walk). walk_fault top_built program_names w rest ≡ []) (sym (name_walk verb)) (stopped_passes (name_of verb) [] rest))

abbrev at_end : Kinds → Walk → Kinds
at_end faults w = or_else faults (or_else (entered_fault built_program w.stopped) (or_else (settle_fault [] false w.held)
    (or_else (defaults_fault (settled [] w.held).rows []) (check_fault top_built (finished [] w.held) (is_some (entered built_program w.stopped))))))

abbrev end_with : List Word → Option Shape → Kinds
end_with rest found = or_else (option_map_or (λ s. level_fault s [] nothing_held rest false []) found [])
    (or_else (defaults_fault [] []) (check_fault top_built [] (is_some (option_map (λ s. rows_at s rest) found))))

verb_end : (verb : Verb) (rest : List Word) → at_end [] (entered_at (name_of verb) rest) ≡ or_else (leaf_fault (name_of verb) (synopsis_of verb) rest) []
unfolding defaults_fault
verb_end verb rest = ap (end_with rest) (leaf_found verbs verb (listed verb))

-- what is wrong is what the subcommand finds wrong
pub verb_fault : (verb : Verb) (rest : List Word) → fault_of program (name_of verb ∷ rest) ≡ or_else (leaf_fault (name_of verb) (synopsis_of verb) rest) []
verb_fault verb rest =
    ap (λ (k : Kinds). at_end k (walk [] program_names nothing_held (name_of verb ∷ rest))) (whole_fault verb rest)
    ∙ ap (at_end []) (whole_walk verb rest) ∙ verb_end verb rest

its_rows : (verb : Verb) (rest : List Word) → entered built_program (Some (name_of verb, rest)) ≡ Some (name_of verb, rows_after (rules_of (synopsis_of verb)) [] rest)
its_rows verb rest = ap (option_map (λ (s : Shape). rows_at s rest)) (leaf_found verbs verb (listed verb))

-- and what is found is what it finds
pub verb_rows : (verb : Verb) (rest : List Word) → subcommand_of program (name_of verb ∷ rest) ≡ Some (name_of verb, rows_after (rules_of (synopsis_of verb)) [] rest)
verb_rows verb rest = ap (λ (w : Walk). entered built_program w.stopped) (whole_walk verb rest) ∙ its_rows verb rest

-- ---- words that begin otherwise

abbrev IsName : Word → Type 0
IsName word = ((verb : Verb) × (word ≡ name_of verb)) ⊎ (subcommand_met program_names idle word ≡ None)

name_among : (some : List Verb) (word : Word) → ((verb : Verb) × (word ≡ name_of verb)) ⊎ (find (answers_to word) (map label some) ≡ None)
name_among [] word = inr refl
name_among (v ∷ some) word = elim (is_text (name_of v) word) [
  | inl same ↦ inl (v, sym same)
  | inr differ ↦ elim (name_among some word) [
    | inl later ↦ inl later
    | inr none ↦ inr (rw (or_false (bytes_eq (name_of v) word), differ) none)
  ]
]

is_name : (word : Word) → IsName word
is_name word = elim (name_among verbs word) [
  | inl named ↦ inl named
  | inr none ↦ inr (ap (option_map (λ (s : Text × List Text). s.0)) none)
]

-- the faults of a word that is no subcommand
abbrev stray_turned : Word → Kinds
stray_turned word =
    let met = subcommand_or_other [] None idle 1 word nothing_held in
    or_else (other_fault top_built None word nothing_held) (step_fault top_built 1 met.0 met.1)

stray_turn : (word : Word) → subcommand_met program_names idle word ≡ None → turn_fault top_built program_names (walk_from nothing_held) word ≡ stray_turned word
stray_turn word none =
    ap (λ (found : Option Text). let met = subcommand_or_other [] found idle 1 word nothing_held in or_else (other_fault top_built found word nothing_held) (step_fault top_built 1 met.0 met.1)) none

free_stray : (word : Word) → IsFree word → stray_turned word ≡ [] → ⊥
free_stray [] free none = cc
free_stray (b ∷ bs) free none = let wrong : UnknownArgument ∷ InvalidSubcommand ∷ [] ≡ [] = rw (no_dash b bs free, no_dash b bs free) at none in cc

long_stray : (x : ℕ) (xs : Word) → stray_turned (dashes (x ∷ xs)) ≡ [] → ⊥
long_stray x xs none = cc

short_stray : (b : ℕ) (bs : Word) → b ≢ 45 → IsUtf8 (45 ∷ b ∷ bs) → stray_turned (45 ∷ b ∷ bs) ≡ [] → ⊥
unfolding flags_fault
short_stray b bs other utf none =
    let letter = first_letter b bs utf in
    let test : (b == 45) ≡ false = grind (arith, nat_tests) in
    let one : other_fault top_built None (45 ∷ b ∷ bs) nothing_held ≡ [] = first_none _ _ none in
    let wrong : UnknownArgument ∷ [] ≡ [] = rw (test, test, letter.1) at one in cc

-- `--` before any subcommand
abbrev ended : Walk
ended = record {
  held = nothing_held;
  waiting = idle;
  position = 1;
  is_trailing = true;
  stopped = None;
}

end_alone : fault_of program (codes "--" ∷ []) ≡ [] → ⊥
unfolding walk_fault walked defaults_fault
end_alone none = cc

end_walks : (rest : List Word) → walk_fault top_built program_names (walk_from nothing_held) (codes "--" ∷ rest) ≡ walk_fault top_built program_names ended rest
unfolding walk_fault walked
end_walks rest = refl

end_more : (word : Word) (rest : List Word) → walk_fault top_built program_names ended (word ∷ rest) ≡ [] → ⊥
unfolding walk_fault
end_more word rest none = cc

end_stray : (rest : List Word) → fault_of program (codes "--" ∷ rest) ≡ [] → ⊥
end_stray [] none = end_alone none
end_stray (word ∷ rest) none = end_more word rest (sym (end_walks (word ∷ rest)) ∙ first_none _ _ none)

no_words : fault_of program [] ≡ [] → ⊥
unfolding walk_fault defaults_fault
no_words none = cc

first_turn : (word : Word) (rest : List Word) → fault_of program (word ∷ rest) ≡ [] → turn_fault top_built program_names (walk_from nothing_held) word ≡ []
unfolding walk_fault
first_turn word rest none =
    let walks : walk_fault top_built program_names (walk_from nothing_held) (word ∷ rest) ≡ [] = first_none _ _ none in
    first_none (turn_fault top_built program_names (walk_from nothing_held) word) (walk_fault top_built program_names (walked [] program_names (walk_from nothing_held) word) rest) walks

-- words in which nothing is wrong begin with the name of a subcommand
pub begins : (words : List Word) → AreFine words → fault_of program words ≡ [] → (verb : Verb) × (rest : List Word) × (words ≡ name_of verb ∷ rest)
begins [] fine none = absurd (no_words none)
begins (word ∷ rest) fine none = elim (is_name word) [
  | inl named ↦ (named.0, rest, ap (λ (w : Word). w ∷ rest) named.1)
  | inr no_name ↦
      let first = fine_first word rest fine in
      let turn : stray_turned word ≡ [] = sym (stray_turn word no_name) ∙ first_turn word rest none in
      absurd (elim (word_is word first.1) [
        | inl free ↦ free_stray word free turn
        | inr (inl end) ↦ end_stray rest (subst (λ (w : Word). fault_of program (w ∷ rest) ≡ []) end none)
        | inr (inr (inl long)) ↦ long_stray long.0 long.1 (subst (λ (w : Word). stray_turned w ≡ []) long.2 turn)
        | inr (inr (inr short)) ↦ short_stray short.0 short.1 short.3 (subst IsUtf8 short.2 first.0) (subst (λ (w : Word). stray_turned w ≡ []) short.2 turn)
      ])
]
