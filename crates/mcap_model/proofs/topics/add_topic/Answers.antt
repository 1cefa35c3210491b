use Rattle.std.proofs.Common.{refl, sym, subst}
use Rattle.mcap_model.specs.Plain.{HasDeclaredTopic}
use Rattle.mcap_model.proofs.NamedTopics.{named}
use Rattle.mcap_model.proofs.topics.add_topic.Goals as goal

pub returns-in-Ok : goal.returns-in-Ok
returns-in-Ok c = λ are there.
    let (k, d, at, id, shows) = c.in-Some.ensures in (
      c.in_ok-topic.topic,
      subst (HasDeclaredTopic c.args.tables.now.channels c.args.id) (sym c.in_ok-topic.ensures)
          (named c.args.tables.now.channels c.args.id d.content _ _ (k, d, at, id, refl) are shows),
      c.in-Ok.ensures.items,
    )
