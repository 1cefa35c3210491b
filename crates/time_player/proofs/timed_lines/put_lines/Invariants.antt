use Rattle.std.proofs.Common.{◌<◌, ◌≤◌, ◌-◌, take, drop, vec_len, vec_capacity}
use Rattle.time_player.specs.Lines.{lines_of, HasLineRoom}
use Rattle.time_player.specs.Messages.{messages_in}
use Rattle.time_player.specs.Putting.{PutsOn}
use Rattle.time_player.proofs.timed_lines.put_lines.Given as goal

abbrev pub invariant-messages : goal.invariant-messages
invariant-messages g l = record {
  above : l.from ≤ l.i;
  below : l.i ≤ l.to;
  puts : PutsOn (g.K.Sink.state l.fn.sink) (g.K.Sink.state l.sink) l.fn.piece.items l.piece.items (lines_of l.quoted (take (l.i - l.from) (drop l.from (messages_in l.messages))));
  room : HasLineRoom (messages_in l.messages) l.quoted (vec_capacity l.piece);
  short : vec_len l.piece < 65536;
  capacity : vec_capacity l.fn.piece ≤ vec_capacity l.piece;
}
