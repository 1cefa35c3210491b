use Rattle.std.proofs.Common.{List, subst}
use Rattle.mcap_model.specs.declared.replay.Shown.{Shown}
use Rattle.mcap_model.specs.Plain.{AreNamed}
use Rattle.time_player.specs.Keeping.{kept_in}
use Rattle.time_player.proofs.Named.{named_by_few}
use Rattle.time_player.proofs.topics.topics_of_kept.Goals as goal

pub returns-in-Ok-topics_of : goal.returns-in-Ok-topics_of
returns-in-Ok-topics_of c =
    let topics = c.in-Ok-topics_of.topics in
    named_by_few c.args.tables.now.channels c.in-Ok.few.items (kept_in c.args.kept.now) topics.items c.in-Ok.ensures (subst (λ (l : List Shown). AreNamed c.args.tables.now.channels l topics.items) c.deref.ensures.value c.in-Ok-topics_of.ensures)
