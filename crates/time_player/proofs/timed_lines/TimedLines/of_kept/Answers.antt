use Rattle.std.proofs.Common.{List, subst, sym, ap, ◌∙◌}
use Rattle.mcap_model.specs.declared.replay.Topic.{Topic}
use Rattle.time_player.specs.Lines.{Quotes}
use Rattle.time_player.specs.Stretches.{held_lines}
use Rattle.time_player.proofs.Quoted.{timed_are}
use Rattle.time_player.proofs.timed_lines.TimedLines.of_kept.Goals as goal

pub returns : goal.returns
returns c = λ messages shows.
    ap (held_lines c.in-Ok.quoted) c.into_parts-topics.ensures.kept
    ∙ timed_are c.args.replayed c.in-Ok.quoted messages shows (subst (λ (l : List Topic). Quotes l c.in-Ok.quoted) (c.deref.ensures.value ∙ ap (λ v. v.items) c.into_parts-topics.ensures.topics) c.in-Ok.ensures)
