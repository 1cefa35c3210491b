use Rattle.std.proofs.Common.{refl, ◌∙◌}
use Rattle.mcap_model.specs.Made.{top}
use Rattle.mcap_model.specs.Fields.{IsMessage}
use Rattle.mcap_model.proofs.Places.{at_within}
use Rattle.feed_lane.specs.Lanes.{messages}
use Rattle.feed_lane.specs.Steps.{lists_of, fields_of}
use Rattle.feed_lane.proofs.AtHand.{is_on, roomed}
use Rattle.feed_lane.proofs.lane.Lane.take_message.Goals as goal

pub returns-in-Err-clause-taken : goal.returns-in-Err-clause-taken
returns-in-Err-clause-taken g c = λ begun before since. (
  before,
  since,
  refl,
  λ records handled stands known at.
      let ready = roomed records handled c.args.self.now.ids c.make_room.new.self.ids (lists_of c.args.self.now) (lists_of c.make_room.new.self) before c.in-Err.ensures.ids c.in-Err.ensures.lists stands in (
        ready.fits,
        at_within (messages records) handled (top 5 c.args.content.now) at,
        record { firsts = ready.firsts; tried = ready.tried },
        record { going = ready.going; is_open = ready.is_open },
      ),
)

pub unreachable-requires : goal.unreachable-requires
unreachable-requires g c = let (channel, m, is) = c.requires.v6.message refl in c.in-Err-parse.ensures.none channel m is.layout

pub returns-in-Ok-channel_of-clause-taken : goal.returns-in-Ok-channel_of-clause-taken
returns-in-Ok-channel_of-clause-taken g c = λ begun before since.
    let source = c.in-Ok-parse.message.channel_id in
    let declared = c.in-Ok-channel_of.ensures.found begun before since in
    let published = c.publish.ensures.taken begun declared.0 declared.1 in (
      published.0,
      published.1,
      published.2 ∙ declared.2,
      λ records handled stands known at.
          let is : IsMessage (top 5 c.args.content.now) source (fields_of c.in-Ok-parse.message) = record { kind = refl; layout = c.in-Ok-parse.ensures.shown } in
          let ready = roomed records handled c.args.self.now.ids c.make_room.new.self.ids (lists_of c.args.self.now) (lists_of c.make_room.new.self) before c.in-Ok.ensures.ids c.in-Ok.ensures.lists stands in
          let found = declared.3 records handled ready known (is_on records handled source c.args.content.now (fields_of c.in-Ok-parse.message) at is) in
          published.3 records handled source (top 5 c.args.content.now) found.1 found.0 at is,
    )

pub returns-in-Err-channel_of-clause-taken : goal.returns-in-Err-channel_of-clause-taken
returns-in-Err-channel_of-clause-taken g c = λ begun before since.
    let source = c.in-Ok-parse.message.channel_id in
    let declared = c.in-Err-channel_of.ensures.found begun before since in (
      declared.0,
      declared.1,
      declared.2,
      λ records handled stands known at.
          let is : IsMessage (top 5 c.args.content.now) source (fields_of c.in-Ok-parse.message) = record { kind = refl; layout = c.in-Ok-parse.ensures.shown } in
          let ready = roomed records handled c.args.self.now.ids c.make_room.new.self.ids (lists_of c.args.self.now) (lists_of c.make_room.new.self) before c.in-Ok.ensures.ids c.in-Ok.ensures.lists stands in
          c.refuse.ensures.taken records handled declared.0
          (declared.3 records handled ready known (is_on records handled source c.args.content.now (fields_of c.in-Ok-parse.message) at is)),
    )
