use Rattle.mcap_model.proofs.Maps.{same_map}
use Rattle.mcap_model.proofs.same.is_same_map.Goals as goal

pub returns : goal.returns
returns c = same_map c.args.one.now c.args.other.now c.in-Ok.pairs c.in-Ok-sorted.others c.is_same_list.result c.in-Ok.ensures c.in-Ok-sorted.ensures c.is_same_list.ensures.order c.is_same_list.ensures.other_order c.is_same_list.ensures.same
