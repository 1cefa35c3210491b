use Rattle.std.proofs.Common.{◌≡◌, ◌<◌, Some, length, sym, subst}
use Rattle.mcap_model.proofs.Places.{at_within}
use Rattle.merge_walk.specs.Cursors.{FindsFirstCursor, TellsBefore}
use Rattle.merge_walk.proofs.Ordered.{next_of}
use Rattle.merge_walk.proofs.Places.{read_there}
use Rattle.merge_walk.proofs.cursors.comes_before.Goals as goal

pub returns-in-Some : goal.returns-in-Some
returns-in-Some c =
    let cursors = c.args.cursors.now in
    let i = c.in-Some.i in
    let is : c.args.due ≡ Some i = c.in-Some.is in
    let first = subst (FindsFirstCursor cursors) is c.requires.due in
    let within : i < length cursors = at_within cursors i first.0 first.2 in
    let at = read_there cursors i c.index-cursors-i.result c.index-cursors-i.is within in
    let (t, next) = next_of c.index-cursors-i.result (c.requires.left i c.index-cursors-i.result at) in
    subst (λ d. TellsBefore cursors d c.args.piece.now c.is_before.result) (sym is) (c.index-cursors-i.result, t, at, next, c.is_before.ensures t next)
