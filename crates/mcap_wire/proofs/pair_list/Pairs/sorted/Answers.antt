use Rattle.std.proofs.Common.{sym, subst}
use Rattle.mcap_wire.specs.Maps.{IsTextMap}
use Rattle.mcap_wire.proofs.KeyOrder.{map_permuted}
use Rattle.mcap_wire.proofs.pair_list.Pairs.sorted.Goals as goal

pub invariant_of-result : goal.invariant_of-result
invariant_of-result c = (
  map_permuted c.in-Ok.copy.items c.in-Ok-in_order.pairs.items c.in-Ok-in_order.ensures.same (subst IsTextMap (sym c.in-Ok.ensures) c.count-count.ensures.map),
  c.in-Ok-in_order.ensures.order,
)
