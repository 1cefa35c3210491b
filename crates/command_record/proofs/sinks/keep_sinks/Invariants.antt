-- So far the last sinks were kept.
use Rattle.std.proofs.Common.{◌≡◌, ◌+◌, length, map, vec_len, vec_capacity}
use Rattle.command_record.proofs.KeptSinks.{SinksSoFar}
use Rattle.command_record.proofs.sinks.keep_sinks.Given as goal

abbrev pub invariant-sinks : goal.invariant-sinks
invariant-sinks g l = record {
  kept : SinksSoFar (g.W.World.state l.fn.world) (g.W.World.state l.world) l.names (map (g.W.Sink.Sink.state) l.initial.sinks.items) (map (g.W.Sink.Sink.state) l.sinks.items) l.failed.items;
  count : vec_len l.sinks + vec_len l.failed ≡ length l.names;
  room : vec_capacity l.failed ≡ vec_capacity l.fn.failed;
}

abbrev pub decreases-sinks : goal.decreases-sinks
decreases-sinks g l = goal.left-sinks g l
