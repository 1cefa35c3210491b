-- The program has no commands yet.
use Rattle.command_words.proofs.LineLemmas.{made_top}
use Rattle.command_words.proofs.command_line.bare_program.Goals as goal

pub returns : goal.returns
returns c = made_top c.new.result c.no_binary_name.result c.disable_help_flag.result c.disable_help_subcommand.result c.subcommand_required.result c.new.ensures.app c.new.ensures.local
    c.no_binary_name.ensures c.disable_help_flag.ensures c.disable_help_subcommand.ensures c.subcommand_required.ensures
