-- A stretch is put after the others.
use Rattle.std.proofs.Common.{arith, get_or}
use Rattle.mcap_model.proofs.Places.{at_read}
use Rattle.time_player.specs.Messages.{messages_in}
use Rattle.time_player.specs.Stretches.{held_lines}
use Rattle.time_player.proofs.Printed.{ready_on}
use Rattle.time_player.proofs.Stretched.{stretch_on, stretch_off, stretches_end}
use Rattle.time_player.proofs.timed_lines.put_stretches.Goals as goal

pub stretches-preserved : goal.stretches-preserved
stretches-preserved g c =
    let i = c.stretches.invariant in
    record {
      puts = stretch_on _ _ _ _ _ _ (held_lines c.args.quoted.now (messages_in c.args.messages.now)) c.args.stretches.now c.stretches.stretch-index _ (at_read c.args.stretches.now c.stretches.stretch-index _ c.stretches-test.true) i.puts c.in-Ok.ensures.puts;
      room = record {
        lines = ready_on c.args.quoted.now (messages_in c.args.messages.now) _ _ i.room.lines c.in-Ok.ensures.capacity;
        moment = omega (arith, i.room.moment, c.in-Ok.ensures.capacity);
      };
      short = c.in-Ok.ensures.short;
    }

pub returns-in-Err : goal.returns-in-Err
returns-in-Err g c =
    let i = c.stretches.invariant in
    record {
      puts = stretch_off _ _ _ _ _ (held_lines c.args.quoted.now (messages_in c.args.messages.now)) c.args.stretches.now c.stretches.stretch-index _ (at_read c.args.stretches.now c.stretches.stretch-index _ c.stretches-test.true) i.puts c.in-Err.ensures.puts;
    }

pub returns : goal.returns
returns g c =
    let i = c.stretches.invariant in
    record {
      puts = stretches_end _ _ _ _ (held_lines c.args.quoted.now (messages_in c.args.messages.now)) c.args.stretches.now c.stretches.stretch-index (omega (arith, c.stretches-test.false)) i.puts;
    }
