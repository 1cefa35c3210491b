use Rattle.std.proofs.Common.{rules}
use Rattle.mcap_wire.proofs.KeyOrder.{differ_permuted, sorted_by_keys, ascend_from_sorted}
use Rattle.mcap_wire.proofs.pair_list.in_order.Goals as goal

pub returns-in-Ok-clause-order : goal.returns-in-Ok-clause-order
returns-in-Ok-clause-order c =
    ascend_from_sorted c.sort_by.new.self.items
    (differ_permuted c.args.list.items c.sort_by.new.self.items c.in-Ok.ensures.permutation c.requires.keys_differ)
    (sorted_by_keys c.sort_by.new.self.items c.in-Ok.ensures.sorted (λ h a r h' called. search rules))
