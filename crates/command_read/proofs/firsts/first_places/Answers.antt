use Rattle.std.proofs.Common.{◌≡◌, suc, ◌+◌, ◌-◌, ◌<◌, length, sym, subst, arith}
use Rattle.mcap_model.specs.Places.{At}
use Rattle.mcap_model.proofs.Places.{at_read}
use Rattle.command_read.proofs.Places.{ArePlacesBelow, below_skip, below_more}
use Rattle.command_read.proofs.firsts.first_places.Goals as goal

pub table-preserved-then-place-eq0 : goal.table-preserved-then-place-eq0
table-preserved-then-place-eq0 c =
    let table = c.in-Ok.table.items in
    let place = c.index-place.result.now in
    let within : c.table.id < length table = omega arith in
    let none : place ≡ 0 = omega arith in
    let there : At table c.table.id 0 = subst (At table c.table.id) none (subst (At table c.table.id) (sym c.index-place.ensures) (at_read table c.table.id place within)) in
    below_skip c.args.ids.now table c.table.places.items c.table.id c.in-Ok.ensures there c.table.invariant

pub table-preserved : goal.table-preserved
table-preserved c =
    let table = c.in-Ok.table.items in
    let place = c.index-place.result.now in
    let within : c.table.id < length table = omega arith in
    let next : suc (place - 1) ≡ place = omega arith in
    let there : At table c.table.id (suc (place - 1)) = subst (At table c.table.id) (sym next) (subst (At table c.table.id) (sym c.index-place.ensures) (at_read table c.table.id place within)) in
    subst (ArePlacesBelow c.args.ids.now (c.table.id + 1)) (sym c.in-Ok-push.ensures.items)
    (below_more c.args.ids.now table c.table.places.items c.table.id (place - 1) c.in-Ok.ensures there c.table.invariant)
