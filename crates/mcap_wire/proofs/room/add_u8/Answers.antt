use Rattle.std.proofs.Common.{◌≡◌, ◌∷◌, [], arith}
use Rattle.mcap_wire.specs.Layout.{le}
use Rattle.mcap_wire.proofs.Numbers.{le_one}
use Rattle.mcap_wire.proofs.room.add_u8.Goals as goal

pub returns-clause-items : goal.returns-clause-items
returns-clause-items c =
    let byte : le 1 c.args.value ≡ c.args.value ∷ [] = le_one c.args.value (omega arith) in
    rw byte c.add_bytes.ensures.items
