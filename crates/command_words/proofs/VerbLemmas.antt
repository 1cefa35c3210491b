-- What holds of all commands: no two have one name, and words are those of one at most.
use Rattle.std.proofs.Common.{◌≡◌, ◌≢◌, true, List, [], ◌∷◌, Option, Some, None, Ok, Err, refl, sym, ap, subst, inl, inr, ◌∙◌, codes, map, option_map}
use Rattle.std.specs.Prelude.{IfOk}
use Rattle.std.specs.List.{All}
use Rattle.std.specs.declared.result.Result.{Result}
use Rattle.std.proofs.lemmas.List.Elements.{All-cons}
use Rattle.clap.specs.Words.{Row, subcommand_name_of, subcommand_rows_of}
use Rattle.clap.specs.declared.parser.matches.ArgMatches.{ArgMatches}
use Rattle.clap.specs.declared.parser.matches.ArgMatches.TheViews.{out-ArgMatches}
use Rattle.command_words.specs.Synopses.{IsOneOf, are_distinct}
use Rattle.command_words.specs.Items.{Word}
use Rattle.command_words.specs.Commands.{AreBad, WordsMean, Derives, IsOnly, name_of, synopsis_of, verb_of, verbs}
use Rattle.command_words.specs.Matches.{EntersSubcommand, AreNoCommand, IsReading}
use Rattle.command_words.specs.declared.command.Command.{Command}
use Rattle.command_words.specs.declared.command.WordsRefused.{WordsRefused}
use Rattle.command_words.specs.declared.verbs.Verb.{Verb}
use Rattle.command_words.proofs.SynopsisLemmas.{distinct_rest, not_again}
use Rattle.command_words.proofs.CommandLemmas.{NoDash, reads_whole}
use Rattle.command_words.proofs.EachCommand.{IsListed, fitting, listed, one_behind}

name_listed : (some : List Verb) (v : Verb) → IsListed some v → IsOneOf (map name_of some) (name_of v)
name_listed [] v is = absurd is
name_listed (u ∷ some) v (inl same) = inl (ap name_of same)
name_listed (u ∷ some) v (inr later) = inr (name_listed some v later)

-- one of them that has the name of the first is the first
one_of_name : (some : List Verb) (a b : Verb) → are_distinct (map name_of some) ≡ true → IsListed some a → IsListed some b → name_of a ≡ name_of b → a ≡ b
one_of_name [] a b distinct is other same = absurd is
one_of_name (u ∷ some) a b distinct (inl is) (inl other) same = is ∙ sym other
one_of_name (u ∷ some) a b distinct (inl is) (inr other) same =
    absurd (not_again (name_of u) (map name_of some) distinct (subst (IsOneOf (map name_of some)) (sym same ∙ ap name_of is) (name_listed some b other)))
one_of_name (u ∷ some) a b distinct (inr is) (inl other) same =
    absurd (not_again (name_of u) (map name_of some) distinct (subst (IsOneOf (map name_of some)) (same ∙ ap name_of other) (name_listed some a is)))
one_of_name (u ∷ some) a b distinct (inr is) (inr other) same = one_of_name some a b (distinct_rest (name_of u) (map name_of some) distinct) is other same

-- two commands have two names
pub one_name : (a b : Verb) → name_of a ≡ name_of b → a ≡ b
one_name a b same = one_of_name verbs a b refl (listed a) (listed b) same

-- and none is named `-`
pub name_whole : (v : Verb) → name_of v ≢ codes "-"
name_whole v same = not_again (codes "-") (map name_of verbs) refl (subst (IsOneOf (map name_of verbs)) same (name_listed verbs v (listed v)))

-- ---- words

-- words that fit no command are bad
pub unread_bad : (words : List Word) → AreNoCommand words → AreBad words
unread_bad words unread command is = let fit = fitting is.rest command is.behind in unread (verb_of command) is.rest fit.items fit.places is.form fit.reads fit.fits

-- and so are words of which one is `-`
pub derived_whole : (words : List Word) (command : Command) → Derives words command → All (λ word. word ≢ codes "-") words
derived_whole words command is =
    let fit = fitting is.rest command is.behind in
    subst (All NoDash) (sym is.form) (All-cons NoDash (name_of (verb_of command)) is.rest (name_whole (verb_of command)) (reads_whole (synopsis_of (verb_of command)) is.rest fit.items fit.places fit.reads))

pub one_command : (words : List Word) (a : Command) → Derives words a → IsOnly words a
one_command words a is b other =
    let form : name_of (verb_of a) ∷ is.rest ≡ name_of (verb_of b) ∷ other.rest = sym is.form ∙ other.form in
    let rest : other.rest ≡ is.rest = cc in
    let names : name_of (verb_of a) ≡ name_of (verb_of b) = cc in
    one_behind is.rest a b (one_name (verb_of b) (verb_of a) (sym names)) is.behind (subst (λ (l : List Word). WordsMean l b) rest other.behind)

pub only_one : (words : List Word) (result : Result Command WordsRefused) → IfOk result (λ command. Derives words command) → IfOk result (λ command. IsOnly words command)
only_one words (Ok command) is = one_command words command is
only_one words (Err refused) is = is

-- ---- the command that was entered

name_first : (found : ArgMatches) → subcommand_name_of found ≡ option_map (λ (p : Word × List Row). p.0) (subcommand_rows_of found)
name_first found = go (out-ArgMatches found).subcommand refl
  where
    go : (inner : _) → (out-ArgMatches found).subcommand ≡ inner → subcommand_name_of found ≡ option_map (λ (p : Word × List Row). p.0) (subcommand_rows_of found)
    go None is = rw is refl
    go (Some b) is = rw is refl

-- what stands where a subcommand was entered
pub entered_name : (found : ArgMatches) (name : Word) (rows : List Row) (entered : Option Word) → subcommand_rows_of found ≡ Some (name, rows) → entered ≡ subcommand_name_of found → entered ≡ Some name
entered_name found name rows entered is same = same ∙ name_first found ∙ ap (option_map (λ (p : Word × List Row). p.0)) is

pub entered_rows : (found : ArgMatches) (name : Word) (rows : List Row) (entered : Option (List Row)) → subcommand_rows_of found ≡ Some (name, rows) → entered ≡ option_map (λ (p : Word × List Row). p.1) (subcommand_rows_of found) → entered ≡ Some rows
entered_rows found name rows entered is same = same ∙ ap (option_map (λ (p : Word × List Row). p.1)) is

-- the command that was entered, and no other
module _ (words : List Word) (found : ArgMatches) (read : EntersSubcommand words (subcommand_rows_of found)) where
  pub read_name : (entered : Option Word) → entered ≡ subcommand_name_of found → entered ≡ Some (name_of read.verb)
  read_name entered same = entered_name found (name_of read.verb) read.rows entered read.found same

  pub read_rows : (entered : Option (List Row)) → entered ≡ option_map (λ (p : Word × List Row). p.1) (subcommand_rows_of found) → entered ≡ Some read.rows
  read_rows entered same = entered_rows found (name_of read.verb) read.rows entered read.found same

  -- the reading of the words behind the name that stands there
  pub read_behind : (v : Verb) (rows : List Row) → v ≡ read.verb → rows ≡ read.rows → IsReading (synopsis_of v) read.rest rows
  read_behind v rows same same2 = subst (λ (u : Verb). IsReading (synopsis_of u) read.rest rows) (sym same) (subst (λ (l : List Row). IsReading (synopsis_of read.verb) read.rest l) (sym same2) read.reading)

  pub read_derives : (v : Verb) → v ≡ read.verb → (command : Command) → WordsMean read.rest command × (verb_of command ≡ v) → Derives words command
  read_derives v same command is = record { rest = read.rest; form = read.form ∙ ap (λ (u : Verb). name_of u ∷ read.rest) (sym (is.1 ∙ same)); behind = is.0 }

  pub read_bad : (v : Verb) → v ≡ read.verb → ((command : Command) → verb_of command ≡ v → WordsMean read.rest command → ⊥) → AreBad words
  read_bad v same bad command is =
      let form : name_of (verb_of command) ∷ is.rest ≡ name_of read.verb ∷ read.rest = sym is.form ∙ read.form in
      let rest : is.rest ≡ read.rest = cc in
      let named : name_of (verb_of command) ≡ name_of read.verb = cc in
      bad command (one_name (verb_of command) read.verb named ∙ sym same) (subst (λ (l : List Word). WordsMean l command) rest is.behind)
