-- So far sinks were opened under the names below the index.
use Rattle.std.proofs.Common.{◌≡◌, map, take, vec_len, vec_capacity}
use Rattle.command_record.specs.SinkSteps.{SinksOpened}
use Rattle.command_record.proofs.sinks.open_sinks.Given as goal

abbrev pub invariant-names : goal.invariant-names
invariant-names g l = record {
  opened : SinksOpened (g.W.World.state l.fn.world) (g.W.World.state l.world) (take l.name-index l.names) (map (g.W.Sink.Sink.state) l.sinks.items);
  count : vec_len l.sinks ≡ l.name-index;
  room : vec_capacity l.sinks ≡ vec_capacity l.fn.sinks;
}
