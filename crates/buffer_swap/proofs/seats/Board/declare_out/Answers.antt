use Rattle.std.proofs.Common.{ap, sym, ◌∙◌, subst}
use Rattle.std.specs.Prelude.{OnOk}
use Rattle.history_ids.specs.Ids.{new_records}
use Rattle.record_core.specs.Desk.{DeskView}
use Rattle.history_ids.specs.Tables.{MayShare}
use Rattle.record_core.specs.declared.answers.CallRefused.TheVariants.{TooManySchemas, TooManyChannels}
use Rattle.buffer_swap.specs.Plays.{desk_out, MayCount, LacksIdAt}
use Rattle.buffer_swap.proofs.Desks.{channel_counts_if, named_after_if, lacks_schemas_if, lacks_channels_if}
use Rattle.buffer_swap.proofs.seats.Board.declare_out.Goals as goal

pub declare_sharing-requires-clause-shares : goal.declare_sharing-requires-clause-shares
declare_sharing-requires-clause-shares c =
    let same = ap desk_out (sym c.slot_mut-desk.ensures.value ∙ c.requires.desk.out) in
    subst (λ (d : DeskView). MayShare d.ids c.args.channel.now.schema c.args.like) (sym same) c.requires.shares

pub returns-clause-counts : goal.returns-clause-counts
returns-clause-counts c =
    let call = c.declare_sharing in
    let same = ap desk_out (sym c.slot_mut-desk.ensures.value ∙ c.requires.desk.out) in
    subst (λ (d : DeskView). OnOk call.result (MayCount d (new_records d.ids c.args.channel.now) call.new.self)) same
    (channel_counts_if c.slot_mut-desk.result.now call.new.self c.args.channel.now call.result call.ensures.answer call.ensures.steps call.ensures.few)

pub returns-clause-named : goal.returns-clause-named
returns-clause-named c = let call = c.declare_sharing in named_after_if c.slot_mut-desk.result.now call.new.self c.args.channel.now call.result call.ensures.answer

pub returns-clause-no_schemas : goal.returns-clause-no_schemas
returns-clause-no_schemas c =
    let call = c.declare_sharing in
    let same = ap desk_out (sym c.slot_mut-desk.ensures.value ∙ c.requires.desk.out) in
    λ why. subst (λ (d : DeskView). LacksIdAt d (c.args.channel.now, TooManySchemas)) same
    (lacks_schemas_if c.slot_mut-desk.result.now call.new.self c.args.channel.now call.result call.ensures.answer call.ensures.few why)

pub returns-clause-no_channels : goal.returns-clause-no_channels
returns-clause-no_channels c =
    let call = c.declare_sharing in
    let same = ap desk_out (sym c.slot_mut-desk.ensures.value ∙ c.requires.desk.out) in
    λ why. subst (λ (d : DeskView). LacksIdAt d (c.args.channel.now, TooManyChannels)) same
    (lacks_channels_if c.slot_mut-desk.result.now call.new.self c.args.channel.now call.result call.ensures.answer call.ensures.few why)
