use Rattle.std.proofs.Common.{List, subst, ap, ◌∙◌}
use Rattle.mcap_model.specs.declared.replay.Topic.{Topic}
use Rattle.time_player.specs.Lines.{Quotes, lines_of}
use Rattle.time_player.proofs.Quoted.{lines_are}
use Rattle.time_player.proofs.printer.Printer.of_kept.Goals as goal

pub returns-in-Ok-of : goal.returns-in-Ok-of
returns-in-Ok-of c = λ messages shows.
    c.in-Ok-of.ensures ∙ ap (lines_of c.in-Ok.quoted) c.into_parts-topics.ensures.kept
    ∙ lines_are c.args.replayed c.in-Ok.quoted messages shows (subst (λ (l : List Topic). Quotes l c.in-Ok.quoted) (c.deref.ensures.value ∙ ap (λ v. v.items) c.into_parts-topics.ensures.topics) c.in-Ok.ensures)
