use Rattle.std.proofs.Common.{◌<◌, true, length, set, sym, subst, arith}
use Rattle.index_check.specs.Ids.{AreMarked}
use Rattle.index_check.proofs.Marks.{marked_more}
use Rattle.index_check.proofs.ids.Ids.add.Goals as goal

pub invariant_of-self-2 : goal.invariant_of-self-2
invariant_of-self-2 c =
    let room : c.args.id < length c.make_mark.new.marks.items = omega (arith, c.in-Ok.ensures.room, c.make_mark.new.marks.ok.0) in
    subst (AreMarked (set c.make_mark.new.marks.items c.args.id true)) (sym c.in-Ok-push.ensures.items)
    (marked_more c.self.inside.marks.items c.make_mark.new.marks.items c.self.inside.ids.items c.args.id c.self.invariant c.in-Ok.ensures.marked room)
