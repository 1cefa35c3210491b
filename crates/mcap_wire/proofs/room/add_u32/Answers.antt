use Rattle.std.proofs.Common.{◌≡◌, ◌∙◌}
use Rattle.mcap_wire.specs.Layout.{le}
use Rattle.mcap_wire.proofs.Numbers.{written_alone}
use Rattle.mcap_wire.proofs.room.add_u32.Goals as goal

pub returns-clause-items : goal.returns-clause-items
returns-clause-items c =
    let bytes : c.write_u32.new.buf ≡ le 4 c.args.value = c.write_u32.ensures ∙ written_alone 4 c.args.value in
    rw (← bytes) c.add_bytes.ensures.items
