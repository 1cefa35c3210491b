-- A line that was printed is one more; after one that failed a first part of all lines was printed.
use Rattle.std.proofs.Common.{◌∙◌}
use Rattle.command_base.proofs.Behind.{rises_on}
use Rattle.command_record.proofs.Lines.{feed_lines-adds, feed_lines-part}
use Rattle.command_record.proofs.print.print_feeds.Goals as goal

pub returns-in-Err : goal.returns-in-Err
returns-in-Err g c = record {
  rises = rises_on _ _ _ c.feeds.invariant.still c.in-Err.ensures.rises;
  adds = feed_lines-part _ _ _ _ _ _ _ c.feeds-test.true c.index-feeds-i.is c.line_of_feed.ensures c.feeds.invariant.adds c.in-Err.ensures.adds;
}

pub feeds-preserved : goal.feeds-preserved
feeds-preserved g c = record {
  still = c.in-Ok.ensures.still ∙ c.feeds.invariant.still;
  adds = feed_lines-adds _ _ _ _ _ _ _ c.feeds-test.true c.index-feeds-i.is c.line_of_feed.ensures c.feeds.invariant.adds c.in-Ok.ensures.adds;
}
