use Rattle.feed_lane.proofs.Given.{channels_are_known as all}
use Rattle.feed_lane.proofs.laws.channels_are_known.Goals as goal

pub returns : goal.returns
returns c = all
