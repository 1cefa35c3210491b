use Rattle.std.proofs.Common.{List, ◌<◌, length, sym, subst, arith}
use Rattle.mcap_model.specs.declared.replay.Topic.{Topic}
use Rattle.mcap_model.specs.Places.{At}
use Rattle.mcap_model.proofs.Places.{at_read}
use Rattle.time_player.specs.Lines.{Quotes}
use Rattle.time_player.proofs.Quoted.{lines_on}
use Rattle.time_player.proofs.lines.cat_text.Goals as goal

pub messages-preserved : goal.messages-preserved
messages-preserved c = λ messages shows.
    let shown = c.args.replayed.now.shown.items in
    let within : c.messages.i < length shown = omega arith in
    let at : At shown c.messages.i c.index-message.result.now = subst (At shown c.messages.i) (sym c.index-message.ensures) (at_read shown c.messages.i c.index-message.result.now within) in
    lines_on c.args.replayed.now c.in-Ok.quoted messages c.messages.i c.index-message.result.now c.spelled.result.now c.messages.out.items c.add_line.new.out.items shows
    (subst (λ (l : List Topic). Quotes l c.in-Ok.quoted) c.deref.ensures.value c.in-Ok.ensures) at c.spelled.ensures.spells c.in-Ok-add_line.ensures.ok (c.messages.invariant messages shows)
