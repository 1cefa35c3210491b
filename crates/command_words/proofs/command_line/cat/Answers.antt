-- The command has the arguments of a printing.
use Rattle.std.proofs.Common.{codes}
use Rattle.clap.specs.Words.{new_app}
use Rattle.command_words.specs.CommandLine.{IsMade}
use Rattle.command_words.proofs.command_line.cat.Goals as goal

pub returns : goal.returns
returns c =
    let new : IsMade (new_app (codes "cat")) c.new.result = record { is = c.new.ensures.app; alone = c.new.ensures.local } in
    let indexed = c.with_flag-command.ensures (new_app (codes "cat")) new in
    let start = c.with_option-command.ensures _ indexed in
    let end = c.with_option-command-2.ensures _ start in
    let topic = c.with_option-command-3.ensures _ end in
    c.with_place.ensures _ topic
