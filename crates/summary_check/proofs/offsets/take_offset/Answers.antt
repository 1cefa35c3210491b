use Rattle.std.proofs.Common.{ℕ, List, true, sym, subst}
use Rattle.std.proofs.lemmas.Bool.{both_ways}
use Rattle.mcap_model.specs.Made.{top}
use Rattle.mcap_model.specs.Fields.{IsSummaryOffset}
use Rattle.summary_read.specs.PartSteps.{cut_tops}
use Rattle.summary_check.specs.Laid.{all_of}
use Rattle.summary_check.specs.Offsets.{OffsetTaken}
use Rattle.summary_check.proofs.Naming.{other_named, group_named, again_named}
use Rattle.summary_check.proofs.offsets.take_offset.Goals as goal

pub returns-then-op-ne-SUMMARY_OFFSET : goal.returns-then-op-ne-SUMMARY_OFFSET
returns-then-op-ne-SUMMARY_OFFSET c = λ tops bytes foot n laid was at.
    other_named (all_of tops (cut_tops bytes c.args.cuts.now) foot) n (top c.args.op c.args.content.now) c.args.names.now was at (λ op offset size is. c.if-op-ne-SUMMARY_OFFSET.true is.kind)

pub returns-in-Err : goal.returns-in-Err
returns-in-Err c = λ tops bytes foot n laid was at.
    other_named (all_of tops (cut_tops bytes c.args.cuts.now) foot) n (top c.args.op c.args.content.now) c.args.names.now was at (λ op offset size is. c.in-Err.ensures.none _ is.layout)

pub returns-then-has : goal.returns-then-has
returns-then-has c = λ tops bytes foot n laid was at.
    let t = top c.args.op c.args.content.now in
    let o = c.in-Ok.offset in
    let is : IsSummaryOffset t o.group_opcode o.group_start o.group_length = record { kind = c.if-op-ne-SUMMARY_OFFSET.false; layout = c.in-Ok.ensures.shown } in
    again_named (all_of tops (cut_tops bytes c.args.cuts.now) foot) n o.group_opcode o.group_start o.group_length t c.args.names.now was is (c.has.ensures.0 c.if-has.true)

pub returns-in-Ok-add : goal.returns-in-Ok-add
returns-in-Ok-add c = λ tops bytes foot n laid was at.
    let all = all_of tops (cut_tops bytes c.args.cuts.now) foot in
    let t = top c.args.op c.args.content.now in
    let o = c.in-Ok.offset in
    let is : IsSummaryOffset t o.group_opcode o.group_start o.group_length = record { kind = c.if-op-ne-SUMMARY_OFFSET.false; layout = c.in-Ok.ensures.shown } in
    subst (λ (l : List ℕ). OffsetTaken all n t l true) (sym c.in-Ok-add.ensures.ok)
    (group_named all n o.group_opcode o.group_start o.group_length t c.args.names.now was at is
    (λ has. both_ways c.has.result c.if-has.false (c.has.ensures.1 has)) ((c.names_group.ensures tops bytes foot laid).0 c.if-not-names_group.false))
