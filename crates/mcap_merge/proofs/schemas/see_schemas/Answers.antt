use Rattle.std.proofs.Common.{◌∙◌, ◌+◌, ◌/◌, true, false, List, map, sym, ap, subst, arith}
use Rattle.mcap_model.specs.Places.{At}
use Rattle.id_table.specs.Ids as tables
use Rattle.mcap_merge.specs.Inputs.{HoldInputs}
use Rattle.mcap_merge.specs.ReadInputs.{Read, read_tops}
use Rattle.mcap_merge.specs.Schemas.{bare, AreBare}
use Rattle.mcap_merge.proofs.Sources.{used_sized, mark_read}
use Rattle.mcap_merge.proofs.SeenSchemas.{SchemasSeen, seen_none, seen_more, seen_same, seen_all, seen_lacks}
use Rattle.mcap_merge.proofs.schemas.see_schemas.Goals as goal
use Rattle.mcap_merge.proofs.schemas.see_schemas.Goals.{then-index+in-Ok-enter_of, else-index}

pub channels-init : goal.channels-init
channels-init c = (c.in-Ok.ensures.1 ∙ sym (ap (map bare) c.in-Ok.ensures.0), λ reads hold. seen_none (read_tops reads) c.in-Ok.table.schemas c.in-Ok.ensures.0)

pub index-requires : goal.index-requires
index-requires c =
    let input = c.channel_at-source.result.0.now in
    let size = used_sized c.args.inputs.now (c.channels.place / 65536) input c.requires.held c.channel_at-source.ensures.input in
    omega (arith, size, c.channel_at-source.ensures.short, input.used.ok.0)

pub returns-in-Err-enter_of-clause-refused : goal.returns-in-Err-enter_of-clause-refused
returns-in-Err-enter_of-clause-refused c = λ reads hold.
    let number = c.channels.place / 65536 in
    let input = c.channel_at-source.result.0.now in
    let source = c.channel_at-source.result.1 in
    let there = c.channel_at-source.ensures in
    let size = used_sized c.args.inputs.now number input c.requires.held there.input in
    let marked : At input.used.items source true = mark_read input.used.items source c.index.result.now true size there.short c.index.ensures c.if-index.true in
    seen_lacks reads c.args.inputs.now c.channels.place number source input c.channels.table.schemas c.in-Err-enter_of.refused hold there.input marked (c.channels.invariant.1 reads hold) c.in-Err-enter_of.ensures.refused

pub channels-preserved : goal.channels-preserved
channels-preserved c =
    let number = c.channels.place / 65536 in
    let input = c.channel_at-source.result.0.now in
    let source = c.channel_at-source.result.1 in
    let there = c.channel_at-source.ensures in
    let size = used_sized c.args.inputs.now number input c.requires.held there.input in
    elim c.if-index.branch [
      | then-index+in-Ok-enter_of w ↦
          let marked : At input.used.items source true = mark_read input.used.items source c.index.result.now true size there.short c.index.ensures w.if-index.true in
          subst (λ (t : tables.IdContents). AreBare t × ((reads : List Read) → HoldInputs reads c.args.inputs.now → SchemasSeen (read_tops reads) (c.channels.place + 1) t.schemas)) (sym w.table-is) (
            w.in-Ok-enter_of.ensures.bare,
            λ reads hold. seen_more reads c.args.inputs.now c.channels.place number source input c.channels.table.schemas w.enter_of.new.table.schemas hold there.place there.short there.input marked (c.channels.invariant.1 reads hold) w.in-Ok-enter_of.ensures.entered,
          )
      | else-index w ↦
          let unmarked : At input.used.items source false = mark_read input.used.items source c.index.result.now false size there.short c.index.ensures w.if-index.false in
          subst (λ (t : tables.IdContents). AreBare t × ((reads : List Read) → HoldInputs reads c.args.inputs.now → SchemasSeen (read_tops reads) (c.channels.place + 1) t.schemas)) (sym w.table-is) (
            c.channels.invariant.0,
            λ reads hold. seen_same reads c.args.inputs.now c.channels.place number source input c.channels.table.schemas hold there.place there.short there.input unmarked (c.channels.invariant.1 reads hold),
          )
    ]

pub returns-clause-few : goal.returns-clause-few
returns-clause-few c = λ reads hold.
    seen_all reads c.args.inputs.now c.channels.place c.channels.table.schemas hold (c.channels.invariant.1 reads hold) (omega arith) (omega (arith, c.schemas-count.ensures.count, c.schemas-count.ensures.few))
