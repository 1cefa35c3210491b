use Rattle.std.proofs.Common.{rules, arith}
use Rattle.merge_walk.proofs.Ordered.{first_alone, first_on, first_is}
use Rattle.merge_walk.proofs.cursors.first_due.Goals as goal

pub pieces-init : goal.pieces-init
pieces-init c = (omega arith, search rules, first_alone c.args.cursors.now)

pub pieces-preserved : goal.pieces-preserved
pieces-preserved c =
    let was = c.pieces.invariant in
    let on = first_on c.args.cursors.now c.pieces.first c.pieces.i c.earlier-first.result c.requires was.0 (omega arith) was.2 c.earlier-first.ensures in
    (on.0, omega arith, on.1)

pub returns : goal.returns
returns c =
    let was = c.pieces.invariant in
    first_is c.args.cursors.now c.pieces.first c.pieces.i c.requires was.0 was.1 (omega arith) was.2
