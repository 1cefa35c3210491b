use Rattle.mcap_wire.specs.PairBytes.{pairs_in}
use Rattle.mcap_wire.proofs.PairWalks.{WalkedTo}
use Rattle.mcap_wire.proofs.pair_bytes.pair_at.Given as goal

abbrev pub invariant-loop-k : goal.invariant-loop-k
invariant-loop-k l = WalkedTo l.bytes (pairs_in l.count l.bytes) l.k l.at
