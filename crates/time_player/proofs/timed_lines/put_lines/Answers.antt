-- A message's line is put after the others, and the piece is written where it is long.
use Rattle.std.proofs.Common.{arith}
use Rattle.time_player.specs.Lent.{shown_of}
use Rattle.time_player.specs.Messages.{messages_in}
use Rattle.time_player.proofs.Printed.{ready_on, room_on}
use Rattle.time_player.proofs.Stretched.{line_put, line_cut, lines_end}
use Rattle.time_player.proofs.timed_lines.put_lines.Goals as goal

pub write_line-requires : goal.write_line-requires
write_line-requires g c =
    let i = c.messages.invariant in
    room_on c.args.quoted.now (messages_in c.args.messages.now) c.messages.i (shown_of c.get-message.result) c.spelled.result.now _ _ i.room c.get-message.ensures (c.spelled.ensures.first c.requires.room.apart) i.short

pub messages-preserved : goal.messages-preserved
messages-preserved g c =
    let i = c.messages.invariant in
    record {
      above = omega (arith, i.above);
      below = omega (arith, c.messages-test.true);
      puts = line_put _ _ _ _ c.messages.piece.items c.write_line.new.out.items _ c.args.quoted.now (messages_in c.args.messages.now) c.args.from c.messages.i (shown_of c.get-message.result) c.spelled.result.now
          i.above c.get-message.ensures (c.spelled.ensures.first c.requires.room.apart) i.puts c.write_line.ensures.items c.in-Ok.ensures.puts;
      room = ready_on c.args.quoted.now (messages_in c.args.messages.now) _ _ i.room (omega (arith, c.write_line.ensures.capacity, c.in-Ok.ensures.capacity));
      short = c.in-Ok.ensures.short;
      capacity = omega (arith, i.capacity, c.write_line.ensures.capacity, c.in-Ok.ensures.capacity);
    }

pub returns-in-Err-clause-puts : goal.returns-in-Err-clause-puts
returns-in-Err-clause-puts g c =
    let i = c.messages.invariant in
    line_cut _ _ _ _ c.messages.piece.items c.write_line.new.out.items c.args.quoted.now (messages_in c.args.messages.now) c.args.from c.args.to c.messages.i (shown_of c.get-message.result) c.spelled.result.now
    i.above c.messages-test.true c.get-message.ensures (c.spelled.ensures.first c.requires.room.apart) i.puts c.write_line.ensures.items c.in-Err.ensures.puts

pub returns-clause-puts : goal.returns-clause-puts
returns-clause-puts g c =
    let i = c.messages.invariant in
    lines_end _ _ _ _ c.args.quoted.now (messages_in c.args.messages.now) c.args.from c.args.to c.messages.i i.below (omega (arith, c.messages-test.false)) i.puts
