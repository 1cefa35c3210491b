use Rattle.std.proofs.Common.{◌≡◌, ◌∷◌, [], append_assoc, arith}
use Rattle.mcap_wire.specs.Layout.{le}
use Rattle.mcap_wire.proofs.Numbers.{le_one}
use Rattle.mcap_wire.proofs.room.add_head.Goals as goal

pub returns-clause-items : goal.returns-clause-items
returns-clause-items c =
    let byte : le 1 c.args.op ≡ c.args.op ∷ [] = le_one c.args.op (omega arith) in
    rw (c.add_u64.ensures.items, c.add_u8.ensures.items, byte, append_assoc)
