use Rattle.std.proofs.Common.{◌<◌, drop, vec_len, vec_capacity}
use Rattle.time_player.specs.Lines.{lines_of, HasLineRoom}
use Rattle.time_player.specs.Messages.{messages_in}
use Rattle.time_player.proofs.Printed.{Printing}
use Rattle.time_player.proofs.printer.write_lines.Given as goal

abbrev pub invariant-messages : goal.invariant-messages
invariant-messages g l = record {
  printing : Printing (g.K.Sink.state l.fn.sink) (g.K.Sink.state l.sink) (lines_of l.quoted (messages_in l.messages)) l.piece.items (lines_of l.quoted (drop l.i (messages_in l.messages))) l.taken;
  ready : HasLineRoom (messages_in l.messages) l.quoted (vec_capacity l.piece);
  short : vec_len l.piece < 65536;
}
