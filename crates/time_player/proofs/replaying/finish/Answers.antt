use Rattle.std.proofs.Common.{List, refl, subst, ◌∙◌}
use Rattle.mcap_model.specs.declared.replay.Shown.{Shown}
use Rattle.mcap_model.specs.Plain.{AreNamed}
use Rattle.time_player.proofs.Played.{played}
use Rattle.time_player.proofs.replaying.finish.Goals as goal

pub returns : goal.returns
returns c = λ range topic tops messages told same.
    let topics = c.in-Ok-topics_of.topics in
    played range topic tops c.args.tables.now messages (record { topics = topics; shown = c.in-Ok.shown }) (record { topics = topics; shown = c.put_in_order.new.shown }) told (c.in-Ok.ensures ∙ same)
    (subst (λ (l : List Shown). AreNamed c.args.tables.now.channels l topics.items) c.deref.ensures.value c.in-Ok-topics_of.ensures)
    refl c.put_in_order.ensures.same c.put_in_order.ensures.order
