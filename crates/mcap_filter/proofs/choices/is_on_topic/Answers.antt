use Rattle.std.proofs.Common.{List, ℕ, Option, sym, subst, ◌≡◌}
use Rattle.mcap_model.specs.Plain.{asked_topic}
use Rattle.mcap_filter.specs.Picked.{is_topic}
use Rattle.mcap_filter.proofs.Messages.{same_test}
use Rattle.mcap_filter.proofs.choices.is_on_topic.Goals as goal
use denote.Ref.{Bor}

pub returns-in-Some : goal.returns-in-Some
returns-in-Some c =
    subst (λ (o : Option (Bor (List ℕ))). c.is.result ≡ is_topic (asked_topic o) c.args.named.now) (sym c.in-Some.is)
    (same_test c.is.result c.in-Some.asked.now c.args.named.now c.is.ensures)
