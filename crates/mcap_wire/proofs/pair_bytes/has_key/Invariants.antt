use Rattle.std.proofs.Common.{take}
use Rattle.mcap_wire.specs.MapReading.{LacksKey}
use Rattle.mcap_wire.specs.PairBytes.{pairs_in}
use Rattle.mcap_wire.proofs.PairWalks.{WalkedTo}
use Rattle.mcap_wire.proofs.pair_bytes.has_key.Given as goal

abbrev pub invariant-loop-i : goal.invariant-loop-i
invariant-loop-i l = WalkedTo l.bytes (pairs_in l.count l.bytes) l.i l.at × LacksKey (take l.i (pairs_in l.count l.bytes)) l.key
