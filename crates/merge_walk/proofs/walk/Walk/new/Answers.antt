use Rattle.std.proofs.Common.{refl}
use Rattle.merge_walk.proofs.Loading.{walk_begins}
use Rattle.merge_walk.proofs.walk.Walk.new.Goals as goal

pub returns-clause-stands : goal.returns-clause-stands
returns-clause-stands c = λ files. walk_begins files _ c.put_in_order.ensures.order refl c.new.ensures.items c.new-2.ensures refl
