use Rattle.std.proofs.Common.{refl}
use Rattle.mcap_model.proofs.Walks.{stands_next, none_next}
use Rattle.mcap_model.proofs.inner.InnerWalk.next.Goals as goal

pub returns-in-Some : goal.returns-in-Some
returns-in-Some c =
    let walk = c.args.self.now in
    let cut = c.in-Some.cut in
    let found = c.in-Some.ensures in
    let next = stands_next walk.records.now walk.at cut.op cut.from cut.to found.0 found.1 found.2 in
    record {
      offset = refl;
      split = next.split;
      found = next.found;
      first = next.first;
      behind = next.behind;
    }

pub returns-in-None : goal.returns-in-None
returns-in-None c = (none_next _ c.in-None.ensures, refl, refl)
