use Rattle.std.proofs.Common.{◌*◌, arith}
use Rattle.mcap_wire.proofs.ArrayLemmas.{array_size, first_not_refused, second_not_refused, entry_read}
use Rattle.mcap_wire.proofs.arrays.entry_at.Goals as goal

pub overflow_mul-i : goal.overflow_mul-i
overflow_mul-i c = omega (arith, array_size 8 c.args.bytes.now c.args.count c.requires.array, c.requires.index)

pub take_u64-requires : goal.take_u64-requires
take_u64-requires c = omega (arith, array_size 8 c.args.bytes.now c.args.count c.requires.array, c.requires.index)

pub unreachable-requires : goal.unreachable-requires
unreachable-requires c =
    first_not_refused 8 c.args.bytes.now c.args.count c.args.i (16 * c.args.i) c.in-Err.field-0 (omega arith) c.requires.array c.requires.index (omega arith) c.in-Err.ensures

pub unreachable-requires-in-Err-take_u64 : goal.unreachable-requires-in-Err-take_u64
unreachable-requires-in-Err-take_u64 c =
    second_not_refused 8 c.args.bytes.now c.args.count c.args.i (16 * c.args.i) c.in-Ok.read.0 c.in-Ok.read.1 c.in-Err-take_u64.field-0 c.requires.array c.requires.index (omega arith) c.in-Ok.ensures c.in-Err-take_u64.ensures

pub returns : goal.returns
returns c =
    entry_read 8 c.args.bytes.now c.args.count c.args.i (16 * c.args.i) c.in-Ok.read.0 c.in-Ok.read.1 c.in-Ok-take_u64.second.0 c.in-Ok-take_u64.second.1 c.requires.array c.requires.index (omega arith) c.in-Ok.ensures c.in-Ok-take_u64.ensures
