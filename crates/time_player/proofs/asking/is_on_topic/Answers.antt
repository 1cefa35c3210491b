use Rattle.std.proofs.Common.{◌≡◌, Option, List, ℕ, Bor, refl, sym, subst}
use Rattle.mcap_model.specs.Plain.{asked_topic}
use Rattle.time_player.specs.Asking.{is_topic}
use Rattle.time_player.proofs.Asked.{undeclared, read_topic, same_test}
use Rattle.time_player.proofs.asking.is_on_topic.Goals as goal

pub returns-in-None-view : goal.returns-in-None-view
returns-in-None-view c = λ records named knows has. absurd (undeclared records c.args.tables.now c.args.channel named knows has c.in-None-view.ensures)

pub returns-in-Some-view : goal.returns-in-Some-view
returns-in-Some-view c = λ records named knows has.
    let (k, d, at, id, shows) = c.in-Some-view.ensures in
    subst (λ (o : Option (Bor (List ℕ))). c.is.result ≡ is_topic (asked_topic o) named) (sym c.in-Some.is)
    (same_test c.is.result c.in-Some.asked.now c.in-Some-view.found.topic.now named c.is.ensures
    (read_topic records c.args.tables.now c.args.channel named d.content _ _ knows has (k, d, at, id, refl) shows))
