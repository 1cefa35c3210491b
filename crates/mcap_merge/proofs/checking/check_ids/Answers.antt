use Rattle.std.proofs.Common.{◌+◌, ◌/◌, true, false, sym, subst, arith}
use Rattle.mcap_model.specs.Places.{At}
use Rattle.id_table.specs.Ids as tables
use Rattle.mcap_merge.specs.ReadInputs.{read_tops}
use Rattle.mcap_merge.proofs.Sources.{used_sized, mark_read}
use Rattle.mcap_merge.proofs.SeenContents.{ContentsSeen, contents_none, contents_more, contents_same, contents_all, contents_lack}
use Rattle.mcap_merge.proofs.checking.check_ids.Goals as goal
use Rattle.mcap_merge.proofs.checking.check_ids.Goals.{then-index+in-Ok-enter_channel, else-index}

pub channels-init : goal.channels-init
channels-init c = λ reads hold. contents_none (read_tops reads) c.in-Ok.table c.in-Ok.ensures.0 c.in-Ok.ensures.1

pub index-requires : goal.index-requires
index-requires c =
    let input = c.channel_at-source.result.0.now in
    let size = used_sized c.args.inputs.now (c.channels.place / 65536) input c.requires.held c.channel_at-source.ensures.input in
    omega (arith, size, c.channel_at-source.ensures.short, input.used.ok.0)

pub returns-in-Err-enter_channel-clause-refused : goal.returns-in-Err-enter_channel-clause-refused
returns-in-Err-enter_channel-clause-refused c = λ reads hold.
    let number = c.channels.place / 65536 in
    let input = c.channel_at-source.result.0.now in
    let source = c.channel_at-source.result.1 in
    let there = c.channel_at-source.ensures in
    let size = used_sized c.args.inputs.now number input c.requires.held there.input in
    let marked : At input.used.items source true = mark_read input.used.items source c.index.result.now true size there.short c.index.ensures c.if-index.true in
    contents_lack reads c.args.inputs.now c.channels.place number source input c.channels.table c.in-Err-enter_channel.refused hold there.input marked c.in-Err-enter_channel.ensures.table (c.channels.invariant reads hold) c.in-Err-enter_channel.ensures.refused

pub channels-preserved : goal.channels-preserved
channels-preserved c = λ reads hold.
    let number = c.channels.place / 65536 in
    let input = c.channel_at-source.result.0.now in
    let source = c.channel_at-source.result.1 in
    let there = c.channel_at-source.ensures in
    let size = used_sized c.args.inputs.now number input c.requires.held there.input in
    elim c.if-index.branch [
      | then-index+in-Ok-enter_channel w ↦
          let marked : At input.used.items source true = mark_read input.used.items source c.index.result.now true size there.short c.index.ensures w.if-index.true in
          subst (λ (t : tables.IdContents). ContentsSeen (read_tops reads) (c.channels.place + 1) t) (sym w.table-is)
          (contents_more reads c.args.inputs.now c.channels.place number source input c.channels.table w.enter_channel.new.table hold there.place there.short there.input marked (c.channels.invariant reads hold) w.in-Ok-enter_channel.ensures.entered)
      | else-index w ↦
          let unmarked : At input.used.items source false = mark_read input.used.items source c.index.result.now false size there.short c.index.ensures w.if-index.false in
          subst (λ (t : tables.IdContents). ContentsSeen (read_tops reads) (c.channels.place + 1) t) (sym w.table-is)
          (contents_same reads c.args.inputs.now c.channels.place number source input c.channels.table hold there.place there.short there.input unmarked (c.channels.invariant reads hold))
    ]

pub returns-clause-suffice : goal.returns-clause-suffice
returns-clause-suffice c = λ reads hold.
    contents_all reads c.args.inputs.now c.channels.place c.channels.table hold (c.channels.invariant reads hold) (omega arith) (omega (arith, c.schemas-schemas.ensures.count, c.schemas-schemas.ensures.few)) (omega (arith, c.channels-channels.ensures.count, c.channels-channels.ensures.few))
