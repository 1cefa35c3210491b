use Rattle.feed_lane.proofs.Given.{places_are_given as all}
use Rattle.feed_lane.proofs.laws.places_are_given.Goals as goal

pub returns : goal.returns
returns c = all
