use Rattle.std.proofs.Common.{sym, ap, subst, ◌∙◌}
use Rattle.std.specs.Prelude.{OnOk}
use Rattle.history_ids.specs.Ids.{new_records}
use Rattle.record_core.specs.Desk.{DeskView}
use Rattle.record_core.specs.declared.answers.CallRefused.TheVariants.{TooManyChannels}
use Rattle.buffer_swap.specs.declared.view.View.{View}
use Rattle.buffer_swap.specs.Plays.{desk_out, MayCount, LacksIdAt}
use Rattle.buffer_swap.proofs.Answering.{refused_hand}
use Rattle.buffer_swap.proofs.seats.Board.name_in_turn.Goals as goal

pub free_tried-requires-clause-no_channels : goal.free_tried-requires-clause-no_channels
free_tried-requires-clause-no_channels c =
    let call = c.declare_out-answer in
    let v = call.new.seat.me.0 in
    let d = desk_out call.new.seat.me.1 in
    λ why.
    let hand = ap (λ (x : View). x.hand) c.count_declared.ensures.view ∙ refused_hand v d call.result TooManyChannels why ∙ ap (λ (x : View). x.hand) call.ensures.same in
    subst (λ (z : DeskView). LacksIdAt z (c.args.channel.now, TooManyChannels)) (sym hand) (call.ensures.no_channels why)

pub count_declared-requires-clause-counts : goal.count_declared-requires-clause-counts
count_declared-requires-clause-counts c =
    let call = c.declare_out-answer in
    subst (λ (v : View). OnOk call.result (MayCount v.hand (new_records v.hand.ids c.args.channel.now) (desk_out call.new.seat.me.1))) (sym call.ensures.same) call.ensures.counts
