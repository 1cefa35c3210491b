-- The command is that of the verb.
use Rattle.std.proofs.Common.{◌≡◌, IfOk, List, refl, subst, sym}
use Rattle.std.specs.Prelude.{IfErr}
use Rattle.std.specs.declared.result.Result.{Result}
use Rattle.std.proofs.lemmas.Result.{IfErr-weaker}
use Rattle.clap.specs.Words.{Row}
use Rattle.command_words.specs.Items.{Word}
use Rattle.command_words.specs.Commands.{WordsMean, command_name, file_synopsis, synopsis_of, verb_of}
use Rattle.command_words.specs.Matches.{IsReading, rows_found}
use Rattle.command_words.specs.declared.command.Command.{Command}
use Rattle.command_words.specs.declared.command.WordsRefused.{WordsRefused}
use Rattle.command_words.specs.declared.command.WordsRefused.TheVariants.{BadWords}
use Rattle.command_words.specs.declared.verbs.Verb.{Verb}
use Rattle.command_words.specs.declared.verbs.Verb.TheVariants as verb
use Rattle.command_words.proofs.CommandLemmas.{of_file_is, of_named_file}
use Rattle.command_words.proofs.EachCommand.{of_verb}
use Rattle.command_words.proofs.parse.command_of.Goals as goal

-- what is promised of a verb
abbrev Gives : List Row → Result Command WordsRefused → Verb → Type 0
Gives rows result v = (words : List Word) → IsReading (synopsis_of v) words rows → IfOk result (λ command. WordsMean words command × (verb_of command ≡ v))

abbrev Refuses : List Row → Result Command WordsRefused → Verb → Type 0
Refuses rows result v = (words : List Word) → IsReading (synopsis_of v) words rows → IfErr result (λ refused. refused ≡ BadWords → (command : Command) → verb_of command ≡ v → WordsMean words command → ⊥)

pub returns-in-Record-clause-command : goal.returns-in-Record-clause-command
returns-in-Record-clause-command c = subst (Gives (rows_found c.args.found.now) c.record_of.result) (sym c.in-Record.is) c.record_of.ensures.command

pub returns-in-Record-clause-bad : goal.returns-in-Record-clause-bad
returns-in-Record-clause-bad c = subst (Refuses (rows_found c.args.found.now) c.record_of.result) (sym c.in-Record.is)
    (λ words reading. IfErr-weaker c.record_of.result _ _ (λ refused bad why. of_verb verb.Record (λ command. WordsMean words command → ⊥) (bad why)) (c.record_of.ensures.bad words reading))

pub returns-in-Ok-clause-command : goal.returns-in-Ok-clause-command
returns-in-Ok-clause-command c = λ words reading.
    let what = c.in-OfFile.what in
    let here = subst (λ (v : Verb). IsReading (synopsis_of v) words (rows_found c.args.found.now)) c.in-OfFile.is reading in
    (of_file_is (file_synopsis (command_name what)) words (rows_found c.args.found.now) here c.in-Ok.file (command_name what, refl) c.in-Ok.ensures.file.1 c.in-Ok.ensures.file.0, sym c.in-OfFile.is)

pub returns-in-Err-clause-bad : goal.returns-in-Err-clause-bad
returns-in-Err-clause-bad c = λ words reading why command same.
    let what = c.in-OfFile.what in
    let here = subst (λ (v : Verb). IsReading (synopsis_of v) words (rows_found c.args.found.now)) c.in-OfFile.is reading in
    of_verb (verb.OfFile what) (λ command. WordsMean words command → ⊥)
    (λ file is. let named = of_named_file (file_synopsis (command_name what)) words (rows_found c.args.found.now) here file (command_name what, refl) is in c.in-Err.ensures.bad why file named.0 named.1) command
    (subst (λ (v : Verb). verb_of command ≡ v) c.in-OfFile.is same)

pub returns-in-Cat-clause-command : goal.returns-in-Cat-clause-command
returns-in-Cat-clause-command c = subst (Gives (rows_found c.args.found.now) c.cat_of.result) (sym c.in-Cat.is) c.cat_of.ensures.command

pub returns-in-Cat-clause-bad : goal.returns-in-Cat-clause-bad
returns-in-Cat-clause-bad c = subst (Refuses (rows_found c.args.found.now) c.cat_of.result) (sym c.in-Cat.is)
    (λ words reading. IfErr-weaker c.cat_of.result _ _ (λ refused bad why. of_verb verb.Cat (λ command. WordsMean words command → ⊥) (bad why)) (c.cat_of.ensures.bad words reading))

pub returns-in-Recover-clause-command : goal.returns-in-Recover-clause-command
returns-in-Recover-clause-command c = subst (Gives (rows_found c.args.found.now) c.recover_of.result) (sym c.in-Recover.is) c.recover_of.ensures.command

pub returns-in-Recover-clause-bad : goal.returns-in-Recover-clause-bad
returns-in-Recover-clause-bad c = subst (Refuses (rows_found c.args.found.now) c.recover_of.result) (sym c.in-Recover.is)
    (λ words reading. IfErr-weaker c.recover_of.result _ _ (λ refused bad why. of_verb verb.Recover (λ command. WordsMean words command → ⊥) (bad why)) (c.recover_of.ensures.bad words reading))

pub returns-in-Merge-clause-command : goal.returns-in-Merge-clause-command
returns-in-Merge-clause-command c = subst (Gives (rows_found c.args.found.now) c.merge_of.result) (sym c.in-Merge.is) c.merge_of.ensures.command

pub returns-in-Merge-clause-bad : goal.returns-in-Merge-clause-bad
returns-in-Merge-clause-bad c = subst (Refuses (rows_found c.args.found.now) c.merge_of.result) (sym c.in-Merge.is)
    (λ words reading. IfErr-weaker c.merge_of.result _ _ (λ refused bad why. of_verb verb.Merge (λ command. WordsMean words command → ⊥) (bad why)) (c.merge_of.ensures.bad words reading))

pub returns-in-Generate-clause-command : goal.returns-in-Generate-clause-command
returns-in-Generate-clause-command c = subst (Gives (rows_found c.args.found.now) c.generate_of.result) (sym c.in-Generate.is) c.generate_of.ensures.command

pub returns-in-Generate-clause-bad : goal.returns-in-Generate-clause-bad
returns-in-Generate-clause-bad c = subst (Refuses (rows_found c.args.found.now) c.generate_of.result) (sym c.in-Generate.is)
    (λ words reading. IfErr-weaker c.generate_of.result _ _ (λ refused bad why. of_verb verb.Generate (λ command. WordsMean words command → ⊥) (bad why)) (c.generate_of.ensures.bad words reading))

pub returns-in-Filter-clause-command : goal.returns-in-Filter-clause-command
returns-in-Filter-clause-command c = subst (Gives (rows_found c.args.found.now) c.filter_of.result) (sym c.in-Filter.is) c.filter_of.ensures.command

pub returns-in-Filter-clause-bad : goal.returns-in-Filter-clause-bad
returns-in-Filter-clause-bad c = subst (Refuses (rows_found c.args.found.now) c.filter_of.result) (sym c.in-Filter.is)
    (λ words reading. IfErr-weaker c.filter_of.result _ _ (λ refused bad why. of_verb verb.Filter (λ command. WordsMean words command → ⊥) (bad why)) (c.filter_of.ensures.bad words reading))

pub returns-in-Sort-clause-command : goal.returns-in-Sort-clause-command
returns-in-Sort-clause-command c = subst (Gives (rows_found c.args.found.now) c.sort_of.result) (sym c.in-Sort.is) c.sort_of.ensures.command

pub returns-in-Sort-clause-bad : goal.returns-in-Sort-clause-bad
returns-in-Sort-clause-bad c = subst (Refuses (rows_found c.args.found.now) c.sort_of.result) (sym c.in-Sort.is)
    (λ words reading. IfErr-weaker c.sort_of.result _ _ (λ refused bad why. of_verb verb.Sort (λ command. WordsMean words command → ⊥) (bad why)) (c.sort_of.ensures.bad words reading))

pub returns-in-Play-clause-command : goal.returns-in-Play-clause-command
returns-in-Play-clause-command c = subst (Gives (rows_found c.args.found.now) c.play_of.result) (sym c.in-Play.is) c.play_of.ensures.command

pub returns-in-Play-clause-bad : goal.returns-in-Play-clause-bad
returns-in-Play-clause-bad c = subst (Refuses (rows_found c.args.found.now) c.play_of.result) (sym c.in-Play.is)
    (λ words reading. IfErr-weaker c.play_of.result _ _ (λ refused bad why. of_verb verb.Play (λ command. WordsMean words command → ⊥) (bad why)) (c.play_of.ensures.bad words reading))
