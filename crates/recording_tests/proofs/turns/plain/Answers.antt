use Rattle.std.proofs.Common.{◌<◌, ◌^◌, length, ap, arith}
use Rattle.std.specs.Prelude.{IsPermutation}
use Rattle.mcap_wire.specs.Maps.{pair_texts}
use Rattle.record_core.proofs.Sizes.{length-sorted}
use Rattle.recording_tests.proofs.turns.plain.Goals as goal

pub returns : goal.returns
returns c =
    let moved : IsPermutation c.in-Ok.pairs c.in_ok-metadata.metadata = c.in_ok-metadata.ensures in
    let fits : length (pair_texts c.in-Ok.pairs) < 2 ^ 32 = c.in-Ok.ensures.fits in
    record {
      schema = tt;
      topic = omega (arith, ap length c.in_ok-topic.ensures, c.requires);
      encoding = omega (arith, ap length c.in_ok-message_encoding.ensures);
      metadata = omega (arith, length-sorted c.in-Ok.pairs c.in_ok-metadata.metadata moved, fits);
    }
