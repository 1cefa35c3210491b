use Rattle.mcap_wire.specs.PairBytes.{pairs_in}
use Rattle.mcap_wire.specs.KeyPasses.{OnceUpTo}
use Rattle.mcap_wire.proofs.KeyPassLemmas.{number_above}
use Rattle.mcap_wire.proofs.key_passes.has_double.Given as goal

abbrev pub invariant-loop-key : goal.invariant-loop-key
invariant-loop-key l = OnceUpTo l.bound (pairs_in l.count l.bytes)

abbrev pub decreases-loop-key : goal.decreases-loop-key
decreases-loop-key l = number_above l.bound (pairs_in l.count l.bytes)
