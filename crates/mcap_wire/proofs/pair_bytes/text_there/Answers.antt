use Rattle.mcap_wire.proofs.Framing.{text_not_refused}
use Rattle.std.proofs.Common.{drop}
use Rattle.mcap_wire.proofs.pair_bytes.text_there.Goals as goal

pub unreachable-requires : goal.unreachable-requires
unreachable-requires c =
    let there = c.requires.2 in
    text_not_refused c.args.bytes.now c.args.at c.requires.0 (drop c.requires.1 c.args.bytes.now) c.in-Err.field-0 there.fits there.utf8 there.field.spelled_there c.in-Err.ensures
