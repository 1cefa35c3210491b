use Rattle.std.proofs.Common.{◌+◌, ◌<◌, ◌≢◌, ◌∙◌, length, get_or, bit_xor, arith, get_or-set_other, get_or-set_same, below_more, length-set}
use Rattle.mcap_crc.proofs.Gathering.{xored_on}
use Rattle.mcap_crc.proofs.gathered.end.Goals as goal

pub returns : goal.returns
returns c register stands =
    let w = c.args.window.now in
    let m = c.args.next.now in
    let same = c.with_zeros-padded.ensures in
    c.after.ensures
    ∙ xored_on register w m c.loop-i.last c.told-window c.told-next c.loop-i-test.array_long
    (λ k h. c.loop-i.invariant.each k (omega arith)
    ∙ (λ i. bit_xor (bit_xor (bit_xor (bit_xor (same k i) (get_or m k 0)) (same (k + 712) i)) (same (k + 936) i)) (same (k + 1240) i)))
    stands

pub loop-i-preserved : goal.loop-i-preserved
loop-i-preserved c = record {
  long = length-set c.loop-i.last c.loop-i.i _ ∙ c.loop-i.invariant.long;
  each =
      below_more _ _
      (λ k h. let ne : k ≢ c.loop-i.i = omega arith in rw get_or-set_other (c.loop-i.invariant.each k h))
      (let lt : c.loop-i.i < length c.loop-i.last = omega arith in rw get_or-set_same);
}
