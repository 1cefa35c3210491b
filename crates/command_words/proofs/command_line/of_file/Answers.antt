-- The command has the argument of a file.
use Rattle.std.proofs.Common.{◌≡◌, subst}
use Rattle.clap.specs.Words.{new_app}
use Rattle.command_words.specs.CommandLine.{IsMade}
use Rattle.command_words.specs.Commands.{command_name}
use Rattle.command_words.specs.Items.{Word}
use Rattle.command_words.proofs.command_line.of_file.Goals as goal

pub returns : goal.returns
returns c =
    let called : c.name-name.result.now ≡ command_name c.args.what = c.name-name.ensures in
    let new : IsMade (new_app c.name-name.result.now) c.new.result = record { is = c.new.ensures.app; alone = c.new.ensures.local } in
    c.with_place.ensures (new_app (command_name c.args.what)) (subst (λ (name : Word). IsMade (new_app name) c.new.result) called new)
