-- What was found is what the words say, in both directions.
use Rattle.std.proofs.Common.{◌≡◌, ◌≢◌, ◌++◌, List, [], ◌∷◌, true, refl, sym, ap, subst, inl, inr, ◌∙◌}
use Rattle.std.specs.List.{flat_map}
use Rattle.clap.specs.Kinds.{HasKind, Kinds}
use Rattle.clap.specs.Words.{App, HasMatchesOf, app_of, fault_of, is_simple, is_simple_and_free, kind_of, subcommand_of, subcommand_rows_of}
use Rattle.clap.specs.declared.builder.command.Command.{Command}
use Rattle.clap.specs.declared.error.Error.{Error}
use Rattle.clap.specs.declared.error.kind.ErrorKind.TheVariants.{OutOfMemory}
use Rattle.clap.specs.declared.parser.matches.ArgMatches.{ArgMatches}
use Rattle.command_words.specs.Items.{Word, place_of, words_of}
use Rattle.command_words.specs.Commands.{name_of, synopsis_of}
use Rattle.command_words.specs.Matches.{AreFine, EntersSubcommand, AreNoCommand, FitsSynopsis}
use Rattle.command_words.specs.CommandLine.{IsMade, program}
use Rattle.command_words.proofs.AppLemmas.{begins, program_simple, verb_fault, verb_rows}
use Rattle.command_words.proofs.LeafLemmas.{holds_shows, leaf_passes, passes_leaf}
use Rattle.command_words.proofs.WalkLemmas.{back, fine_rest, forth}
use Rattle.command_words.proofs.TurnLemmas.{both_none, first_none}

-- words in which nothing is wrong are read
pub are_read : (words : List Word) → AreFine words → fault_of program words ≡ [] → EntersSubcommand words (subcommand_of program words)
are_read words fine none =
    let start = begins words fine none in
    let verb = start.0 in
    let rest = start.1 in
    let fault = subst (λ (l : List Word). fault_of program l ≡ []) start.2 none in
    let passes = leaf_passes (name_of verb) (synopsis_of verb) rest (first_none _ [] (sym (verb_fault verb rest) ∙ fault)) in
    let read = back (name_of verb) (synopsis_of verb) rest (fine_rest (name_of verb) rest (subst AreFine start.2 fine)) passes in
    record {
      verb = verb;
      rest = rest;
      form = start.2;
      rows = _;
      found = ap (subcommand_of program) start.2 ∙ verb_rows verb rest;
      reading = record { items = read.more; behind = read.behind; cut = read.cut; shows = holds_shows (synopsis_of verb) read.more (flat_map place_of read.more ++ read.behind) _ read.holds };
    }

-- and words that fit a command have nothing wrong
pub are_unread : (words : List Word) → (fault_of program words ≡ [] → ⊥) → AreNoCommand words
are_unread words bad verb rest items places form reads fits =
    let cut = reads.cut in
    let passes = forth (name_of verb) (synopsis_of verb) items cut.tail reads.behind cut.each cut.ends (subst (FitsSynopsis (synopsis_of verb) items) reads.all fits) in
    let leaf = passes_leaf (name_of verb) (synopsis_of verb) (flat_map words_of items ++ cut.tail) passes in
    let whole = verb_fault verb (flat_map words_of items ++ cut.tail) ∙ both_none _ [] leaf refl in
    bad (ap (fault_of program) (form ∙ ap (λ (l : List Word). name_of verb ∷ l) cut.form) ∙ whole)

-- ---- what a parse answers

pub found_is : (command : Command) (words : List Word) (found : ArgMatches) → IsMade program command → AreFine words → (is_simple_and_free (app_of command) ≡ true → fault_of (app_of command) words ≡ []) → HasMatchesOf (app_of command) words found
    → EntersSubcommand words (subcommand_rows_of found)
found_is command words found made fine kinds matches =
    let none = subst (λ (a : App). fault_of a words ≡ []) made.is (kinds (ap is_simple_and_free made.is ∙ program_simple)) in
    let simple : is_simple program ≡ true = refl in
    let same = (matches (ap is_simple made.is ∙ simple)).1 ∙ ap (λ (a : App). subcommand_of a words) made.is in
    subst (EntersSubcommand words) (sym same) (are_read words fine none)

only_memory : (kinds : Kinds) (e : Error) → HasKind kinds e → kinds ≡ [] → kind_of e ≡ OutOfMemory
only_memory [] e (inl is) none = is
only_memory [] e (inr is) none = absurd is
only_memory (k ∷ kinds) e is none = cc

pub refused_is : (command : Command) (words : List Word) (e : Error) → IsMade program command → kind_of e ≢ OutOfMemory → (is_simple_and_free (app_of command) ≡ true → HasKind (fault_of (app_of command) words) e) → AreNoCommand words
refused_is command words e made more kinds =
    let has = subst (λ (a : App). HasKind (fault_of a words) e) made.is (kinds (ap is_simple_and_free made.is ∙ program_simple)) in
    are_unread words (λ none. more (only_memory (fault_of program words) e has none))
