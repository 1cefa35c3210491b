use Rattle.std.proofs.Common.{◌≡◌, ◌∙◌}
use Rattle.mcap_wire.specs.Layout.{le}
use Rattle.mcap_wire.proofs.Numbers.{written_alone}
use Rattle.mcap_wire.proofs.room.add_u64.Goals as goal

pub returns-clause-items : goal.returns-clause-items
returns-clause-items c =
    let bytes : c.write_u64.new.buf ≡ le 8 c.args.value = c.write_u64.ensures ∙ written_alone 8 c.args.value in
    rw (← bytes) c.add_bytes.ensures.items
