-- The bytes are the front of what is left, and the store is the same.
use Rattle.std.proofs.Common.{arith, length-take}
use Rattle.std.proofs.lemmas.Grind.{common_steps}
use Rattle.std.proofs.Math.Nat.{le_trans}
use Rattle.mcap_io.proofs.Fronts.{part_gives}
use Rattle.mcap_io.proofs.front.StoreFrontSource.read.Goals as goal

pub returns-in-Ok-clause-gives : goal.returns-in-Ok-clause-gives
returns-in-Ok-clause-gives g c = λ rest left.
    let was = c.args.self.now in
    part_gives _ _ was.next was.len c.min-n.result c.read_at.new.out _ rest c.read_at.ensures.bytes
    (λ bytes told. le_trans was.within.1 (g.met.T.Store.within was.store.now bytes told))
    (omega (arith, c.min-n.ensures, was.within.0)) (λ none. c.if-n-eq0.false none) (omega (arith, c.read_at.auto.out, c.min-n.ensures, length-take c.min-n.result c.args.out.now)) c.in-Ok.ensures.gives left

pub returns-then-n-eq0-clause-gives : goal.returns-then-n-eq0-clause-gives
returns-then-n-eq0-clause-gives g c = grind (arith, common_steps)
