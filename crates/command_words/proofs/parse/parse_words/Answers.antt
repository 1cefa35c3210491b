-- The command is the one that was found, and words in which nothing is found are bad.
use Rattle.std.proofs.Common.{◌≡◌, ◌≢◌, ◌∙◌, List, ap, codes, rules, subst, sym}
use Rattle.std.specs.List.{All}
use Rattle.clap.specs.Words.{subcommand_rows_of}
use Rattle.command_words.specs.Items.{Word, texts}
use Rattle.command_words.specs.Matches.{AreFine, EntersSubcommand, AreNoCommand}
use Rattle.command_words.proofs.VerbLemmas.{derived_whole, only_one, unread_bad}
use Rattle.command_words.proofs.parse.parse_words.Goals as goal

pub returns-then-not-are_whole-clause-bad : goal.returns-then-not-are_whole-clause-bad
returns-then-not-are_whole-clause-bad c = λ why command is. let whole = c.are_whole.ensures.1 (derived_whole c.args.words.now command is) in search rules

pub read_words-requires : goal.read_words-requires
read_words-requires c =
    let same : texts c.deref.result.now ≡ c.args.words.now = ap texts c.deref.ensures.value ∙ c.in-Ok.ensures.same in
    let whole : All (λ word. word ≢ codes "-") c.args.words.now = search rules in
    let fine : AreFine c.args.words.now = (c.in-Ok.ensures.utf8, whole) in
    subst AreFine (sym same) fine

pub returns-in-Ok-read_words-clause-command : goal.returns-in-Ok-read_words-clause-command
returns-in-Ok-read_words-clause-command c =
    let same : texts c.deref.result.now ≡ c.args.words.now = ap texts c.deref.ensures.value ∙ c.in-Ok.ensures.same in
    c.found_command.ensures.command c.args.words.now (subst (λ (l : List Word). EntersSubcommand l (subcommand_rows_of c.in-Ok-read_words.found)) same c.in-Ok-read_words.ensures.read)

pub returns-in-Ok-read_words-clause-only : goal.returns-in-Ok-read_words-clause-only
returns-in-Ok-read_words-clause-only c =
    let same : texts c.deref.result.now ≡ c.args.words.now = ap texts c.deref.ensures.value ∙ c.in-Ok.ensures.same in
    only_one c.args.words.now c.found_command.result
    (c.found_command.ensures.command c.args.words.now (subst (λ (l : List Word). EntersSubcommand l (subcommand_rows_of c.in-Ok-read_words.found)) same c.in-Ok-read_words.ensures.read))

pub returns-in-Ok-read_words-clause-bad : goal.returns-in-Ok-read_words-clause-bad
returns-in-Ok-read_words-clause-bad c =
    let same : texts c.deref.result.now ≡ c.args.words.now = ap texts c.deref.ensures.value ∙ c.in-Ok.ensures.same in
    c.found_command.ensures.bad c.args.words.now (subst (λ (l : List Word). EntersSubcommand l (subcommand_rows_of c.in-Ok-read_words.found)) same c.in-Ok-read_words.ensures.read)

pub returns-in-Err-clause-bad : goal.returns-in-Err-clause-bad
returns-in-Err-clause-bad c = λ why.
    let same : texts c.deref.result.now ≡ c.args.words.now = ap texts c.deref.ensures.value ∙ c.in-Ok.ensures.same in
    unread_bad c.args.words.now (subst AreNoCommand same (c.in-Err.ensures.bad (cc)))
