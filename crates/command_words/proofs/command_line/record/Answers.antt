-- The command has the arguments of a recording.
use Rattle.std.proofs.Common.{codes}
use Rattle.clap.specs.Words.{new_app}
use Rattle.command_words.specs.CommandLine.{IsMade}
use Rattle.command_words.proofs.command_line.record.Goals as goal

pub returns : goal.returns
returns c =
    let new : IsMade (new_app (codes "record")) c.new.result = record { is = c.new.ensures.app; alone = c.new.ensures.local } in
    let plain = c.with_flag-command.ensures (new_app (codes "record")) new in
    let lossless = c.with_flag-command-2.ensures _ plain in
    let limit = c.with_option-command.ensures _ lossless in
    let chunk = c.with_option-command-2.ensures _ limit in
    let profile = c.with_option-command-3.ensures _ chunk in
    let watch = c.with_option-command-4.ensures _ profile in
    let watchers = c.with_option-command-5.ensures _ watch in
    let out = c.with_place-command.ensures _ watchers in
    c.with_rest.ensures _ out
