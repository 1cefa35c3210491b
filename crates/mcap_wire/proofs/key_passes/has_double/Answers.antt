use Rattle.mcap_wire.specs.PairBytes.{pairs_in}
use Rattle.mcap_wire.proofs.KeyPassLemmas.{fewer_above, once_up_to}
use Rattle.mcap_wire.proofs.key_passes.has_double.Goals as goal

pub loop-key-smaller : goal.loop-key-smaller
loop-key-smaller c = fewer_above c.loop-key.bound c.in-Up.key (pairs_in c.args.count c.args.bytes.now) c.in-Up.ensures.1 c.in-Up.ensures.2

pub loop-key-preserved : goal.loop-key-preserved
loop-key-preserved c = once_up_to c.loop-key.bound c.in-Up.key (pairs_in c.args.count c.args.bytes.now) c.loop-key.invariant c.in-Up.ensures.0
