-- The line of the moment is put, and the lines of the messages after it.
use Rattle.std.proofs.Common.{arith, ap, ◌∙◌, ◌++◌}
use Rattle.time_player.specs.Messages.{messages_in}
use Rattle.time_player.proofs.Printed.{ready_on}
use Rattle.time_player.proofs.Stretched.{stretch_put, stretch_cut, stretch_is}
use Rattle.time_player.proofs.timed_lines.put_stretch.Goals as goal

pub returns-clause-puts : goal.returns-clause-puts
returns-clause-puts g c =
    stretch_put _ _ _ c.args.piece.now.items c.add_bytes.new.out.items _ _ c.as_bytes.result.now _ _ _ c.add_bytes.ensures.items c.in-Ok.ensures.puts c.put_lines.ensures.puts
    (stretch_is c.args.quoted.now (messages_in c.args.messages.now) c.args.stretch.now c.as_bytes.result.now (c.as_bytes.ensures ∙ c.line_of_moment-line.ensures.text))

pub returns-in-Err-clause-puts : goal.returns-in-Err-clause-puts
returns-in-Err-clause-puts g c =
    stretch_cut _ _ c.args.piece.now.items c.add_bytes.new.out.items c.as_bytes.result.now _ _ c.add_bytes.ensures.items c.in-Err.ensures.puts
    (stretch_is c.args.quoted.now (messages_in c.args.messages.now) c.args.stretch.now c.as_bytes.result.now (c.as_bytes.ensures ∙ c.line_of_moment-line.ensures.text))
