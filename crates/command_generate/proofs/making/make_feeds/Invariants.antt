-- So far the feeds of the numbers below were made.
use Rattle.std.proofs.Common.{◌≡◌, map}
use Rattle.std.specs.List.{range_with_len}
use Rattle.command_generate.specs.contracts.feed.GeneratedFeedSource.TheImpl as it
use Rattle.command_generate.specs.Making.{generated_source}
use Rattle.command_generate.proofs.making.make_feeds.Given as goal

abbrev pub invariant-feeds : goal.invariant-feeds
invariant-feeds l = map it.ghosts.state l.feeds.items ≡ map (generated_source l.fn.numbers) (range_with_len 0 l.feed)
