-- The command has the arguments of a generation.
use Rattle.std.proofs.Common.{codes}
use Rattle.clap.specs.Words.{new_app}
use Rattle.command_words.specs.CommandLine.{IsMade}
use Rattle.command_words.proofs.command_line.generate.Goals as goal

pub returns : goal.returns
returns c =
    let new : IsMade (new_app (codes "gen")) c.new.result = record { is = c.new.ensures.app; alone = c.new.ensures.local } in
    let seed = c.with_place-command.ensures (new_app (codes "gen")) new in
    c.with_rest.ensures _ seed
