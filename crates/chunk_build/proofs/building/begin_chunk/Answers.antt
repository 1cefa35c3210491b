use Rattle.std.proofs.Common.{List, length, ap, ◌∙◌, sym, arith}
use Rattle.std.proofs.lemmas.List.{drop_all}
use Rattle.chunk_build.proofs.building.begin_chunk.Goals as goal

pub returns-in_err-make_room-clause-same : goal.returns-in_err-make_room-clause-same
returns-in_err-make_room-clause-same c =
    let made = ap (λ (l : List _). length l) c.make_room.ensures.items in
    drop_all 49 c.make_room.new.out.items (omega (arith, made, c.take_room.ensures)) ∙ sym (drop_all 49 c.args.bytes.now.items (omega arith))

pub returns-in-Ok-clause-same : goal.returns-in-Ok-clause-same
returns-in-Ok-clause-same c = drop_all 49 c.resize.new.self.items (omega (arith, c.in-Ok.ensures.len)) ∙ sym (drop_all 49 c.args.bytes.now.items (omega arith))
