use Rattle.std.proofs.Common.{◌+◌, take, inl, inr, arith}
use Rattle.mcap_wire.specs.ArrayBytes.{entries_in}
use Rattle.mcap_wire.specs.MapReading.{LacksKey}
use Rattle.mcap_wire.specs.declared.faults.Why.TheVariants.{BadLength, DoubleKey}
use Rattle.mcap_wire.proofs.Framing.{number_is_short}
use Rattle.mcap_wire.proofs.ArrayLemmas.{one_more_count, no_counts, counts_stop}
use Rattle.mcap_wire.proofs.MarkLemmas.{marks_no_keys, marks_one_more, marked_stands, unmarked_lacks}
use Rattle.mcap_wire.proofs.counts.count_marked.Goals as goal

pub loop-at-init : goal.loop-at-init
loop-at-init c = (omega arith, omega arith, no_counts c.args.bytes.now, marks_no_keys)

pub returns-in-Err : goal.returns-in-Err
returns-in-Err c =
    counts_stop c.args.bytes.now c.loop-at.count c.loop-at.at BadLength c.loop-at-test.true c.loop-at.invariant.2
    (inl (number_is_short 2 c.args.bytes.now c.loop-at.at c.in-Err.field-0 c.in-Err.ensures))

pub returns-then-not-mark : goal.returns-then-not-mark
returns-then-not-mark c =
    counts_stop c.args.bytes.now c.loop-at.count c.loop-at.at DoubleKey c.loop-at-test.true c.loop-at.invariant.2
    (c.in-Ok.read.0, c.in-Ok.read.1, c.in-Ok.ensures, marked_stands _ _ c.in-Ok.read.0 c.in-Ok.ensures.fits c.loop-at.invariant.3 c.if-not-mark.ensures.new)

pub returns-in-Err-take_u64 : goal.returns-in-Err-take_u64
returns-in-Err-take_u64 c =
    counts_stop c.args.bytes.now c.loop-at.count c.loop-at.at BadLength c.loop-at-test.true c.loop-at.invariant.2
    (inr (c.in-Ok.read.0, c.in-Ok.read.1, c.in-Ok.ensures, unmarked_lacks _ _ c.in-Ok.read.0 c.in-Ok.ensures.fits c.loop-at.invariant.3 c.if-not-mark.ensures.new, number_is_short 8 c.args.bytes.now c.in-Ok.read.1 c.in-Err-take_u64.field-0 c.in-Err-take_u64.ensures))

pub loop-at-preserved : goal.loop-at-preserved
loop-at-preserved c =
    let bytes = c.args.bytes.now in
    let key = c.in-Ok.read.0 in
    let number = c.in-Ok-take_u64.read.0 in
    let end = c.in-Ok-take_u64.read.1 in
    let before = entries_in 2 c.loop-at.count (take c.loop-at.at bytes) in
    let new : LacksKey before key = unmarked_lacks c.loop-at.marks before key c.in-Ok.ensures.fits c.loop-at.invariant.3 c.if-not-mark.ensures.new in
    let more = one_more_count bytes c.loop-at.count c.loop-at.at key c.in-Ok.read.1 number end c.loop-at.invariant.2 c.in-Ok.ensures c.in-Ok-take_u64.ensures new in (
      c.in-Ok-take_u64.ensures.field.ends,
      omega (arith, c.in-Ok.ensures.size, c.in-Ok-take_u64.ensures.size),
      more.0,
      marks_one_more c.loop-at.marks c.mark.new.marks before (entries_in 2 (c.loop-at.count + 1) (take end bytes)) key number c.loop-at.invariant.3 c.mark.ensures.marked c.mark.ensures.others more.1,
    )
