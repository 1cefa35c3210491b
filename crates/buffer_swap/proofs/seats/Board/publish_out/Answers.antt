use Rattle.std.proofs.Common.{ap, sym, ◌∙◌, subst, ◌∷◌, []}
use Rattle.std.specs.Prelude.{OnOk}
use Rattle.record_core.specs.Desk.{DeskView, fields_of_message}
use Rattle.feed_lane.specs.PassCalls.{message_record}
use Rattle.buffer_swap.specs.Plays.{desk_out, MayCount}
use Rattle.buffer_swap.proofs.Desks.{message_counts_if}
use Rattle.buffer_swap.proofs.seats.Board.publish_out.Goals as goal

pub returns-clause-counts : goal.returns-clause-counts
returns-clause-counts c =
    let call = c.publish in
    let same = ap desk_out (sym c.slot_mut-desk.ensures.value ∙ c.requires.desk.out) in
    subst (λ (d : DeskView). OnOk call.result (MayCount d (message_record c.args.m.now ∷ []) call.new.self)) same
    (message_counts_if c.slot_mut-desk.result.now call.new.self c.args.m.now.channel (fields_of_message c.args.m.now) call.result call.ensures.answer call.ensures.steps)
