use Rattle.std.proofs.Common.{◌≤◌, sym, subst, arith}
use Rattle.time_player.specs.Keeping.{kept_in}
use Rattle.time_player.specs.DataOfMessages.{data_in}
use Rattle.time_player.proofs.Ordering.{ordered}
use Rattle.time_player.proofs.Fewer.{ordered_data}
use Rattle.time_player.proofs.kept.Kept.put_in_order_without_doubles.Goals as goal

pub returns-clause-order : goal.returns-clause-order
returns-clause-order c = ordered (kept_in c.args.self.now) (kept_in c.put_in_order.new.self) (kept_in c.drop_doubles.new.self) c.put_in_order.ensures.same c.put_in_order.ensures.order c.drop_doubles.ensures

pub returns-clause-fewer : goal.returns-clause-fewer
returns-clause-fewer c = ordered_data (kept_in c.args.self.now) (kept_in c.put_in_order.new.self) (kept_in c.drop_doubles.new.self) c.put_in_order.ensures.same c.drop_doubles.ensures
