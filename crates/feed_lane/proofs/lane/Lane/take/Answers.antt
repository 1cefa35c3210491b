use Rattle.std.proofs.Common.{ℕ, ◌∷◌, [], ap, subst}
use Rattle.mcap_model.specs.Rules.{V6}
use Rattle.mcap_model.specs.Made.{top}
use Rattle.feed_lane.specs.Steps.{MessagesWait, passed_among}
use Rattle.feed_lane.proofs.Walking.{waits_at}
use Rattle.feed_lane.proofs.Feeding.{message_record, counted_none}
use Rattle.feed_lane.proofs.lane.Lane.take.Goals as goal

pub take_message-requires-clause-v6 : goal.take_message-requires-clause-v6
take_message-requires-clause-v6 g c = subst (λ (n : ℕ). V6 (top n c.args.content.now)) c.in-5.is c.requires.v6

pub returns-in-5-clause-taken : goal.returns-in-5-clause-taken
returns-in-5-clause-taken g c = λ begun before since.
    let taken = c.take_message.ensures.taken begun before since in (
      taken.0,
      taken.1,
      taken.2,
      λ records more handled stands known waits.
          let here : MessagesWait records handled (top 5 c.args.content.now ∷ more) = subst (λ (n : ℕ). MessagesWait records handled (top n c.args.content.now ∷ more)) c.in-5.is waits in
          message_record c.take_message.new.self records handled c.args.content.now more taken.0 c.take_message.result here
          (taken.3 records handled stands known (waits_at records handled c.args.content.now more here)),
    )

pub returns-in-5-clause-passed : goal.returns-in-5-clause-passed
returns-in-5-clause-passed g c =
    counted_none c.args.self.now.passed c.take_message.new.self.passed (passed_among (top c.args.op c.args.content.now ∷ [])) c.take_message.result c.take_message.ensures.passed (ap (λ (n : ℕ). passed_among (top n c.args.content.now ∷ [])) c.in-5.is)
