-- The longest line so far stays the longest, or the next one is.
use Rattle.std.proofs.Common.{arith}
use Rattle.mcap_model.proofs.Places.{at_within}
use Rattle.time_player.specs.Lent.{shown_of}
use Rattle.time_player.specs.Messages.{messages_in}
use Rattle.time_player.proofs.Printed.{longest_more}
use Rattle.time_player.proofs.printer.longest_line.Goals as goal

pub messages-preserved : goal.messages-preserved
messages-preserved c =
    longest_more (messages_in c.args.messages.now) c.args.quoted.now c.messages.i c.messages.longest c.in-Some.room c.max-longest.result (shown_of c.get-message.result) c.spelled.result.now c.get-message.ensures (c.spelled.ensures.first c.requires) c.in-Some.ensures
    (omega (arith, c.max-longest.ensures)) (omega (arith, c.max-longest.ensures)) c.messages.invariant

pub returns : goal.returns
returns c = λ n s at. c.messages.invariant n s (let within = at_within (messages_in c.args.messages.now) n s at in omega (arith, within, c.messages-test.false, c.len-i-end.ensures)) at
