use Rattle.std.proofs.Common.{List, take, sym, subst}
use Rattle.mcap_model.specs.declared.replay.Topic.{Topic}
use Rattle.mcap_model.proofs.Places.{at_read}
use Rattle.mcap_model.specs.Places.{At}
use Rattle.time_player.specs.Lines.{Quotes}
use Rattle.mcap_model.proofs.OneMore.{taken_more}
use Rattle.time_player.proofs.lines.quote_topics.Goals as goal

pub topics-preserved : goal.topics-preserved
topics-preserved c =
    let topics = c.args.topics.now in
    let topic = c.index-topics-i.result in
    let at : At topics c.topics.i topic = subst (At topics c.topics.i) (sym c.index-topics-i.is) (at_read topics c.topics.i topic c.topics-test.true) in
    subst (λ (l : List Topic). Quotes l c.quote_topic.new.quoted) (sym (taken_more topics c.topics.i topic at)) (c.in-Ok.ensures (take c.topics.i topics) c.topics.invariant)
