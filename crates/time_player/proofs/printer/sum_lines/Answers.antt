-- The line of each message is summed behind the others.
use Rattle.std.proofs.Common.{arith}
use Rattle.time_player.specs.Lent.{shown_of}
use Rattle.time_player.specs.Messages.{messages_in}
use Rattle.time_player.proofs.Printed.{ready_on, room_on, summed_on, summed_all}
use Rattle.time_player.proofs.printer.sum_lines.Goals as goal

pub write_line-requires : goal.write_line-requires
write_line-requires c =
    let fits = room_on c.args.quoted.now (messages_in c.args.messages.now) c.messages.i (shown_of c.get-message.result) c.spelled.result.now 0 _ c.messages.invariant.ready c.get-message.ensures (c.spelled.ensures.first c.requires.apart) (omega arith) in
    omega (arith, fits, c.clear.ensures.len, c.clear.ensures.capacity)

pub messages-preserved : goal.messages-preserved
messages-preserved c = record {
  summed = summed_on c.args.quoted.now (messages_in c.args.messages.now) c.messages.i _ _ (shown_of c.get-message.result) c.spelled.result.now _ c.clear.new.self.items c.deref.result.now c.messages.invariant.summed c.get-message.ensures
      (c.spelled.ensures.first c.requires.apart) c.clear.ensures.items c.write_line.ensures.items c.deref.ensures.value c.update.ensures;
  ready = ready_on c.args.quoted.now (messages_in c.args.messages.now) _ _ c.messages.invariant.ready (omega (arith, c.clear.ensures.capacity, c.write_line.ensures.capacity));
}

pub returns : goal.returns
returns c = c.value.ensures.remainder _ (summed_all c.args.quoted.now (messages_in c.args.messages.now) c.messages.i _ c.messages.invariant.summed (omega (arith, c.messages-test.false, c.len-i-end.ensures)))
