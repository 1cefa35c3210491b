-- What a record declares was noted, what is asked for of it put, or it was kept for the end.
use Rattle.std.proofs.Common.{rules, ◌≡◌, ℕ, [], ◌∷◌, sym, subst}
use Rattle.mcap_wire.specs.Layout.{framed}
use Rattle.rec_data.specs.Parsed.{schema_fields, channel_fields, message_fields}
use Rattle.mcap_model.specs.Made.{top}
use Rattle.mcap_model.specs.Plain.{asked_topic}
use Rattle.mcap_model.specs.Rules.{V6}
use Rattle.record_keeping.specs.Keeping.{IsFrame}
use Rattle.record_keeping.proofs.Inners.{flat_none}
use Rattle.mcap_filter.specs.Picked.{asking}
use Rattle.mcap_filter.specs.Picking.{PicksOne, picking}
use Rattle.mcap_filter.proofs.Choosing.{other_picked}
use Rattle.mcap_filter.proofs.picking.pick_record.Goals as goal

pub pick_message-requires-clause-v6 : goal.pick_message-requires-clause-v6
pick_message-requires-clause-v6 g c = subst (λ (n : ℕ). V6 (top n c.args.content.now)) c.in-Message.ensures.0 c.requires.v6

pub pick_message-requires-clause-framed : goal.pick_message-requires-clause-framed
pick_message-requires-clause-framed g c = subst (λ (n : ℕ). IsFrame n c.args.content.now c.args.frame) c.in-Message.ensures.0 c.requires.framed

pub returns-in-Message-clause-takes : goal.returns-in-Message-clause-takes
returns-in-Message-clause-takes g c =
    let a = asking c.args.asked.now.range (asked_topic c.args.asked.now.topic) in
    subst (λ (n : ℕ). PicksOne g.L.LiveStore.state a (picking c.args.k.now c.args.choices.now) (picking c.pick_message.new.k c.args.choices.now) c.args.frame (top n c.args.content.now)) (sym c.in-Message.ensures.0)
    (c.pick_message.ensures.takes (asked_topic c.args.asked.now.topic))

pub returns-in-Schema-clause-takes : goal.returns-in-Schema-clause-takes
returns-in-Schema-clause-takes g c =
    let a = asking c.args.asked.now.range (asked_topic c.args.asked.now.topic) in
    subst (λ (n : ℕ). PicksOne g.L.LiveStore.state a (picking c.args.k.now c.args.choices.now) (picking c.note_schema.new.k c.note_schema.new.choices) c.args.frame (top n c.args.content.now)) (sym c.in-Schema.ensures.0)
    (c.note_schema.ensures.takes a c.args.frame)

pub returns-in-Channel-clause-takes : goal.returns-in-Channel-clause-takes
returns-in-Channel-clause-takes g c =
    let a = asking c.args.asked.now.range (asked_topic c.args.asked.now.topic) in
    subst (λ (n : ℕ). PicksOne g.L.LiveStore.state a (picking c.args.k.now c.args.choices.now) (picking c.note_channel.new.k c.note_channel.new.choices) c.args.frame (top n c.args.content.now)) (sym c.in-Channel.ensures.0)
    (c.note_channel.ensures.takes c.args.asked.now.range c.args.frame)

pub returns-in-Header-clause-takes : goal.returns-in-Header-clause-takes
returns-in-Header-clause-takes g c =
    let a = asking c.args.asked.now.range (asked_topic c.args.asked.now.topic) in
    other_picked g.L.LiveStore.state a c.args.k.now c.keep_other.new.k c.args.choices.now c.args.frame (top c.args.op c.args.content.now)
    (flat_none c.args.op c.args.content.now (λ kind. search rules) (λ kind. search rules) (λ kind. search rules)) c.requires.going c.keep_other.ensures.takes
