use Rattle.std.proofs.Common.{◌+◌, [], take, inl, inr, arith}
use Rattle.mcap_wire.specs.ArrayBytes.{entries_in}
use Rattle.mcap_wire.specs.declared.faults.Why.TheVariants.{BadLength}
use Rattle.mcap_wire.proofs.Framing.{number_is_short}
use Rattle.mcap_wire.proofs.ArrayLemmas.{length-entries_in, one_more_count, bound_more, no_counts, counts_stop}
use Rattle.mcap_wire.proofs.counts.count_counts.Goals as goal

pub loop-at-init : goal.loop-at-init
loop-at-init c =
    (omega arith, omega arith, no_counts c.args.bytes.now, omega arith, λ k d lt. absurd (omega (arith, length-entries_in 2 0 [])))

pub returns-in-Err : goal.returns-in-Err
returns-in-Err c =
    counts_stop c.args.bytes.now c.loop-at.count c.loop-at.at BadLength c.loop-at-test.true c.loop-at.invariant.2
    (inl (number_is_short 2 c.args.bytes.now c.loop-at.at c.in-Err.field-0 c.in-Err.ensures))

pub returns-in-Err-take_u64 : goal.returns-in-Err-take_u64
returns-in-Err-take_u64 c =
    counts_stop c.args.bytes.now c.loop-at.count c.loop-at.at BadLength c.loop-at-test.true c.loop-at.invariant.2
    (inr (c.in-Ok.read.0, c.in-Ok.read.1, c.in-Ok.ensures, c.if-not-is_new.ensures, number_is_short 8 c.args.bytes.now c.in-Ok.read.1 c.in-Err-take_u64.field-0 c.in-Err-take_u64.ensures))

pub loop-at-preserved : goal.loop-at-preserved
loop-at-preserved c =
    let bytes = c.args.bytes.now in
    let key = c.in-Ok.read.0 in
    let number = c.in-Ok-take_u64.read.0 in
    let end = c.in-Ok-take_u64.read.1 in
    let before = entries_in 2 c.loop-at.count (take c.loop-at.at bytes) in
    let more = one_more_count bytes c.loop-at.count c.loop-at.at key c.in-Ok.read.1 number end c.loop-at.invariant.2 c.in-Ok.ensures c.in-Ok-take_u64.ensures c.if-not-is_new.ensures in (
      c.in-Ok-take_u64.ensures.field.ends,
      omega (arith, c.in-Ok.ensures.size, c.in-Ok-take_u64.ensures.size),
      more.0,
      omega (arith, c.max-bound.ensures, c.in-Ok.ensures.fits),
      bound_more before (entries_in 2 (c.loop-at.count + 1) (take end bytes)) key number c.loop-at.bound c.max-bound.result more.1 c.loop-at.invariant.4 (omega (arith, c.max-bound.ensures)) (omega (arith, c.max-bound.ensures)),
    )
