use Rattle.std.proofs.Common.{List, sym, subst, arith}
use Rattle.std.specs.Prelude.{take}
use Rattle.std.proofs.lemmas.List.{take_all}
use Rattle.mcap_model.specs.Tops.{Top}
use Rattle.mcap_model.specs.Made.{top}
use Rattle.mcap_model.proofs.OneMore.{taken_more}
use Rattle.summary_read.specs.PartSteps.{cut_tops}
use Rattle.summary_check.specs.Declaring.{AreChannelIds}
use Rattle.summary_check.proofs.Onward.{length-tops}
use Rattle.summary_check.proofs.channels.channels_of.Goals as goal

pub add_channel-requires : goal.add_channel-requires
add_channel-requires c =
    let found = c.record_at-record.result in
    (c.requires.judged c.records.i (top found.op found.content.now) c.record_at-record.ensures).1

pub records-preserved : goal.records-preserved
records-preserved c =
    let body = cut_tops c.args.bytes.now c.args.cuts.now in
    let found = c.record_at-record.result in
    let t = top found.op found.content.now in
    subst (λ (l : List Top). AreChannelIds l c.add_channel.new.ids) (sym (taken_more body c.records.i t c.record_at-record.ensures)) (c.in_ok-add_channel.ensures (take c.records.i body) c.records.invariant)

pub returns : goal.returns
returns c =
    let body = cut_tops c.args.bytes.now c.args.cuts.now in
    subst (λ (l : List Top). AreChannelIds l c.records.ids) (take_all c.records.i body (omega (arith, length-tops c.args.bytes.now c.args.cuts.now, c.records-test.false))) c.records.invariant
