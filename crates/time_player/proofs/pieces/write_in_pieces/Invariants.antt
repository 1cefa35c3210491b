use Rattle.std.proofs.Common.{length, take, ◌-◌, ◌≡◌, ◌≤◌}
use Rattle.mcap_io.specs.Outside.{Adds}
use Rattle.time_player.proofs.pieces.write_in_pieces.Given as goal

abbrev pub invariant-pieces : goal.invariant-pieces
invariant-pieces g l = record {
  bound : l.taken ≤ length l.bytes;
  still : (g.K.Sink.state l.sink).faults ≡ (g.K.Sink.state l.fn.sink).faults;
  so_far : Adds (g.K.Sink.state l.fn.sink).took (g.K.Sink.state l.sink).took (take l.taken l.bytes);
}

abbrev pub decreases-pieces : goal.decreases-pieces
decreases-pieces g l = length l.bytes - l.taken
