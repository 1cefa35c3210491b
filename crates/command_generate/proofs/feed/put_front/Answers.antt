use Rattle.std.proofs.Common.{◌≡◌, length, decimal, codes, ap, arith}
use Rattle.std.proofs.lemmas.Fmt.{length-decimal-le}
use Rattle.std.proofs.lemmas.List.{length-append}
use Rattle.command_generate.specs.Feeds.{topic_of}
use Rattle.command_generate.proofs.feed.put_front.Goals as goal

pub frame-requires-2-clause-topic_fits : goal.frame-requires-2-clause-topic_fits
frame-requires-2-clause-topic_fits c =
    let size = length-decimal-le 20 c.args.feed (omega arith) (omega (arith, c.ranges.feed.fits)) (omega (arith, c.ranges.feed.fits)) in
    let is : c.as_str.result.now ≡ topic_of c.args.feed = grind (arith, c.as_str.ensures, c.in-Ok.ensures) in
    omega (arith, ap length is, length-append (codes "/gen/") (decimal c.args.feed), size)
