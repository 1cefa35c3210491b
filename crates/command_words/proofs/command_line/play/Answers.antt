-- The command has the arguments of a playing.
use Rattle.std.proofs.Common.{codes}
use Rattle.clap.specs.Words.{new_app}
use Rattle.command_words.specs.CommandLine.{IsMade}
use Rattle.command_words.proofs.command_line.play.Goals as goal

pub returns : goal.returns
returns c =
    let new : IsMade (new_app (codes "play")) c.new.result = record { is = c.new.ensures.app; alone = c.new.ensures.local } in
    let start = c.with_option-command.ensures (new_app (codes "play")) new in
    let end = c.with_option-command-2.ensures _ start in
    let topic = c.with_option-command-3.ensures _ end in
    let file = c.with_place-command.ensures _ topic in
    c.with_rest.ensures _ file
