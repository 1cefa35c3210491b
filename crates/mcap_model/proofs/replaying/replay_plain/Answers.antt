use Rattle.std.proofs.Common.{List, ap, ◌∙◌}
use Rattle.std.specs.Prelude.{filter}
use Rattle.mcap_model.specs.declared.replay.Shown.{Shown}
use Rattle.mcap_model.specs.declared.replay.Topic.{Topic}
use Rattle.mcap_model.specs.Plain.{is_used, asked_topic}
use Rattle.mcap_model.proofs.Replays.{IsPut, replayed}
use Rattle.mcap_model.proofs.replaying.replay_plain.Goals as goal

pub returns-in-Ok-used_topics : goal.returns-in-Ok-used_topics
returns-in-Ok-used_topics c = λ messages shows.
    let put : IsPut c.args.all.now c.args.range (asked_topic c.args.topic) c.in-Ok.shown.items c.put_in_order.new.shown.items = record { chosen_are = c.in-Ok.ensures; moved = c.put_in_order.ensures.same; order = c.put_in_order.ensures.order; differ = c.requires } in
    replayed c.args.all.now (record { topics = c.in-Ok-used_topics.topics; shown = c.put_in_order.new.shown }) c.args.range (asked_topic c.args.topic) messages c.in-Ok.shown.items shows put
    (c.in-Ok-used_topics.ensures
    ∙ ap (λ (l : List Shown). filter (λ (t : Topic). is_used l t.channel) c.deref.result.now) c.deref-2.ensures.value
    ∙ ap (filter (λ (t : Topic). is_used c.put_in_order.new.shown.items t.channel)) c.deref.ensures.value)
