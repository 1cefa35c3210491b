use Rattle.index_check.proofs.InPlace.{order_more}
use Rattle.index_check.proofs.order.Order.add.Goals as goal

pub returns : goal.returns
returns c = λ before t are is. order_more before t c.args.self.now c.args.op c.add_once.new.self are is c.in-Ok.ensures
