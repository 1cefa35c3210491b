use Rattle.std.proofs.Common.{vec_capacity}
use Rattle.time_player.specs.Lines.{HasLineRoom}
use Rattle.time_player.specs.Messages.{messages_in}
use Rattle.time_player.proofs.Printed.{Summed}
use Rattle.time_player.proofs.printer.sum_lines.Given as goal

abbrev pub invariant-messages : goal.invariant-messages
invariant-messages l = record {
  summed : Summed l.quoted (messages_in l.messages) l.i l.crc;
  ready : HasLineRoom (messages_in l.messages) l.quoted (vec_capacity l.piece);
}
