-- The command has the arguments of a sorting.
use Rattle.std.proofs.Common.{codes}
use Rattle.clap.specs.Words.{new_app}
use Rattle.command_words.specs.CommandLine.{IsMade}
use Rattle.command_words.proofs.command_line.sort.Goals as goal

pub returns : goal.returns
returns c =
    let new : IsMade (new_app (codes "sort")) c.new.result = record { is = c.new.ensures.app; alone = c.new.ensures.local } in
    let chunk = c.with_option-command.ensures (new_app (codes "sort")) new in
    let input = c.with_place-command.ensures _ chunk in
    c.with_rest.ensures _ input
