use Rattle.command_generate.proofs.FeedReading.{feeds_are_read}
use Rattle.command_generate.proofs.feed_laws.generated_feeds_are_read.Goals as goal

pub returns : goal.returns
returns c = feeds_are_read
