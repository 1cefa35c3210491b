-- The command has the arguments of a filtering.
use Rattle.std.proofs.Common.{codes}
use Rattle.clap.specs.Words.{new_app}
use Rattle.command_words.specs.CommandLine.{IsMade}
use Rattle.command_words.proofs.command_line.filter.Goals as goal

pub returns : goal.returns
returns c =
    let new : IsMade (new_app (codes "filter")) c.new.result = record { is = c.new.ensures.app; alone = c.new.ensures.local } in
    let start = c.with_option-command.ensures (new_app (codes "filter")) new in
    let end = c.with_option-command-2.ensures _ start in
    let topic = c.with_option-command-3.ensures _ end in
    let chunk = c.with_option-command-4.ensures _ topic in
    let input = c.with_place-command.ensures _ chunk in
    c.with_rest.ensures _ input
