use Rattle.std.proofs.Common.{List, subst, ◌∙◌}
use Rattle.mcap_model.specs.declared.replay.Topic.{Topic}
use Rattle.time_player.specs.Lines.{Quotes}
use Rattle.time_player.proofs.Quoted.{lines_are}
use Rattle.time_player.proofs.printer.Printer.new.Goals as goal

pub returns-in-Ok-of : goal.returns-in-Ok-of
returns-in-Ok-of c = λ messages shows.
    c.in-Ok-of.ensures ∙ lines_are c.args.replayed c.in-Ok.quoted messages shows (subst (λ (l : List Topic). Quotes l c.in-Ok.quoted) c.deref.ensures.value c.in-Ok.ensures)
