use Rattle.std.proofs.Common.{length, drop, map, ◌≤◌}
use Rattle.mcap_io.specs.OutsideCalls.{NoneIsOut}
use Rattle.io_memory.specs.Standing.{shown}
use Rattle.io_memory.proofs.openings.newest_out.Given as goal

abbrev pub invariant-walk : goal.invariant-walk
invariant-walk l = record {
  bound : l.at ≤ length l.log;
  none_behind : NoneIsOut l.kind l.name (map shown (drop l.at l.log));
}

abbrev pub decreases-walk : goal.decreases-walk
decreases-walk l = l.at
