-- The command is the one that was entered.
use Rattle.std.proofs.Common.{◌≡◌, Err, None, Some, refl, subst}
use Rattle.std.specs.Prelude.{IfErr}
use Rattle.std.specs.declared.result.Result.{Result}
use Rattle.std.proofs.lemmas.Result.{IfOk-weaker}
use Rattle.command_words.specs.Commands.{WordsMean, name_of, verb_of}
use Rattle.command_words.specs.Matches.{rows_found}
use Rattle.command_words.specs.declared.command.Command.{Command}
use Rattle.command_words.specs.declared.command.WordsRefused.{WordsRefused}
use Rattle.command_words.specs.declared.command.WordsRefused.TheVariants.{BadWords}
use Rattle.command_words.proofs.VerbLemmas.{one_name, read_bad, read_behind, read_derives, read_name, read_rows}
use Rattle.command_words.proofs.parse.found_command.Goals as goal

-- what is promised of a refusal holds of this one
refused_by : (result : Result Command WordsRefused) (P : WordsRefused → Type 0) → result ≡ Err BadWords → IfErr result P → P BadWords
refused_by result P is holds = subst (λ (r : Result Command WordsRefused). IfErr r P) is holds

pub returns-in_default-clause-bad : goal.returns-in_default-clause-bad
returns-in_default-clause-bad c = λ words read why command is.
    let wrong : None ≡ Some (name_of read.verb) = read_name words c.args.found.now read None c.in_default.ensures.name in cc

pub returns-in-Some-named_verb-clause-command : goal.returns-in-Some-named_verb-clause-command
returns-in-Some-named_verb-clause-command c = λ words read.
    let named : Some c.in-Some.name.now ≡ Some (name_of read.verb) = read_name words c.args.found.now read (Some c.in-Some.name.now) c.in-Some.ensures.name in
    let rows : Some (rows_found c.in-Some.below.now) ≡ Some read.rows = read_rows words c.args.found.now read (Some (rows_found c.in-Some.below.now)) c.in-Some.ensures.rows in
    let names : name_of c.in-Some-named_verb.verb ≡ name_of read.verb = cc (c.in-Some-named_verb.ensures) in
    let same = one_name c.in-Some-named_verb.verb read.verb names in
    let reading = read_behind words c.args.found.now read c.in-Some-named_verb.verb (rows_found c.in-Some.below.now) same (cc) in
    IfOk-weaker c.command_of.result _ _ (λ command is. read_derives words c.args.found.now read c.in-Some-named_verb.verb same command is) (c.command_of.ensures.command read.rest reading)

pub returns-in-Some-named_verb-clause-bad : goal.returns-in-Some-named_verb-clause-bad
returns-in-Some-named_verb-clause-bad c = λ words read why.
    let named : Some c.in-Some.name.now ≡ Some (name_of read.verb) = read_name words c.args.found.now read (Some c.in-Some.name.now) c.in-Some.ensures.name in
    let rows : Some (rows_found c.in-Some.below.now) ≡ Some read.rows = read_rows words c.args.found.now read (Some (rows_found c.in-Some.below.now)) c.in-Some.ensures.rows in
    let names : name_of c.in-Some-named_verb.verb ≡ name_of read.verb = cc (c.in-Some-named_verb.ensures) in
    let same = one_name c.in-Some-named_verb.verb read.verb names in
    let reading = read_behind words c.args.found.now read c.in-Some-named_verb.verb (rows_found c.in-Some.below.now) same (cc) in
    read_bad words c.args.found.now read c.in-Some-named_verb.verb same
    (refused_by c.command_of.result (λ refused. refused ≡ BadWords → (command : Command) → verb_of command ≡ c.in-Some-named_verb.verb → WordsMean read.rest command → ⊥) why (c.command_of.ensures.bad read.rest reading) refl)

pub returns-in-None-clause-bad : goal.returns-in-None-clause-bad
returns-in-None-clause-bad c = λ words read why command is.
    let named : Some c.in-Some.name.now ≡ Some (name_of read.verb) = read_name words c.args.found.now read (Some c.in-Some.name.now) c.in-Some.ensures.name in
    c.in-None.ensures read.verb (cc)
