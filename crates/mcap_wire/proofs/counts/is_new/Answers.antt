use Rattle.std.proofs.Common.{subst, arith, List}
use Rattle.std.proofs.lemmas.List.{take_all}
use Rattle.mcap_wire.specs.MapReading.{LacksKey}
use Rattle.mcap_wire.specs.ArrayBytes.{entries_in}
use Rattle.mcap_wire.proofs.ArrayLemmas.{Entry, length-entries_in, beyond_is_new}
use Rattle.mcap_wire.proofs.counts.is_new.Goals as goal

pub returns : goal.returns
returns c =
    subst (λ (l : List Entry). LacksKey l c.args.key) (take_all c.loop-i.i (entries_in 2 c.args.count c.args.bytes.now) (omega (arith, length-entries_in 2 c.args.count c.args.bytes.now))) c.loop-i.invariant

pub returns-then-key-bound : goal.returns-then-key-bound
returns-then-key-bound c =
    beyond_is_new (entries_in 2 c.args.count c.args.bytes.now) c.args.bound c.args.key c.requires.order c.if-key-bound.true
