use Rattle.std.proofs.Common.{ℕ, List, length, drop, false, ap, refl, arith}
use Rattle.chunk_build.specs.Building.{chunk_in_memory}
use Rattle.chunk_build.proofs.Marks.{near_same, over_same}
use Rattle.chunk_build.proofs.building.prepare.Goals as goal

pub returns-then-stays_open-clause-ready : goal.returns-then-stays_open-clause-ready
returns-then-stays_open-clause-ready c =
    let items = ap (λ (l : List ℕ). length l) c.make_room.ensures.items in
    let same = ap (λ (l : List ℕ). length (drop 49 l)) c.make_room.ensures.items in
    let stays = c.stays_open.ensures.open c.if-stays_open.true in
    let old = chunk_in_memory (record c.row_of.new.chunk { bytes = c.begin_chunk.new.bytes }) in
    let short = stays.short in
    record {
      begun = omega (arith, items, c.in_ok-begin_chunk.ensures.begun);
      row = c.in_ok-row.ensures.row;
      closing = (record { short = omega (arith, same, short); near = near_same c.args.span old (record old { bytes = drop 49 c.make_room.new.out.items }) c.args.mark false refl refl refl stays.near }, c.in_ok-make_room.ensures.ok);
    }

pub returns-clause-ready : goal.returns-clause-ready
returns-clause-ready c =
    let items = ap (λ (l : List ℕ). length l) c.make_room-2.ensures.items in
    let same = ap (λ (l : List ℕ). length (drop 49 l)) c.make_room-2.ensures.items in
    let can = c.in_ok-closing.ensures in
    let old = chunk_in_memory (record c.row_of.new.chunk { bytes = c.begin_chunk.new.bytes }) in
    record {
      begun = omega (arith, items, c.in_ok-begin_chunk.ensures.begun);
      row = c.in_ok-row.ensures.row;
      closing = (
        over_same c.args.size c.args.span c.args.len c.args.mark old (record old { bytes = drop 49 c.make_room-2.new.out.items }) same refl refl refl (c.stays_open.ensures.over c.if-stays_open.false c.in_ok-begin_chunk.ensures.begun),
        omega (arith, c.in_ok-make_room-2.ensures.ok, c.make_room-2.new.out.ok),
        record { head = can.head; empty = can.empty; none = can.none; parts = can.parts },
      );
    }
