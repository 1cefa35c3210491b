use Rattle.std.proofs.Common.{◌<◌, take, vec_len, vec_capacity}
use Rattle.time_player.specs.Messages.{messages_in}
use Rattle.time_player.specs.Putting.{PutsOn}
use Rattle.time_player.specs.Stretches.{held_lines, stretches_text, HasStretchRoom}
use Rattle.time_player.proofs.timed_lines.put_stretches.Given as goal

abbrev pub invariant-stretches : goal.invariant-stretches
invariant-stretches g l = record {
  puts : PutsOn (g.K.Sink.state l.fn.sink) (g.K.Sink.state l.sink) l.fn.piece.items l.piece.items (stretches_text (held_lines l.quoted (messages_in l.messages)) (take l.stretch-index l.stretches));
  room : HasStretchRoom (messages_in l.messages) l.quoted (vec_capacity l.piece);
  short : vec_len l.piece < 65536;
}
