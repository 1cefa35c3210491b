-- The program has its commands.
use Rattle.command_words.specs.CommandLine.{bare_top, verb_app}
use Rattle.command_words.specs.declared.verbs.Verb.TheVariants as verb
use Rattle.command_words.proofs.command_line.program_command.Goals as goal

pub returns : goal.returns
returns c =
    let record_in = c.with_verb-command.ensures bare_top (verb_app verb.Record) c.bare_program.ensures c.record.ensures in
    let files_in = c.with_file_commands-command.ensures _ record_in in
    let cat_in = c.with_verb-command-2.ensures _ (verb_app verb.Cat) files_in c.cat.ensures in
    let recover_in = c.with_verb-command-3.ensures _ (verb_app verb.Recover) cat_in c.recover.ensures in
    let merge_in = c.with_verb-command-4.ensures _ (verb_app verb.Merge) recover_in c.merge.ensures in
    let generate_in = c.with_verb-command-5.ensures _ (verb_app verb.Generate) merge_in c.generate.ensures in
    let filter_in = c.with_verb-command-6.ensures _ (verb_app verb.Filter) generate_in c.filter.ensures in
    let sort_in = c.with_verb-command-7.ensures _ (verb_app verb.Sort) filter_in c.sort.ensures in
    c.with_verb.ensures _ (verb_app verb.Play) sort_in c.play.ensures
