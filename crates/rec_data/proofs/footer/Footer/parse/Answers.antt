use Rattle.std.proofs.Common.{rules, subst}
use Rattle.mcap_wire.specs.Reading.{ReadsNumber}
use Rattle.mcap_wire.specs.Layout.{NumberAt}
use Rattle.mcap_wire.specs.declared.faults.Why.TheVariants.{BadLength}
use Rattle.rec_data.proofs.Contents.{footer_none, footer_not_refused, footer_read}
use Rattle.rec_data.proofs.footer.Footer.parse.Goals as goal

pub returns-in_err-summary_start-clause-none : goal.returns-in_err-summary_start-clause-none
returns-in_err-summary_start-clause-none c = footer_none c.args.content.now c.from_residual.result (search rules)

pub returns-in_err-summary_offset_start-clause-none : goal.returns-in_err-summary_offset_start-clause-none
returns-in_err-summary_offset_start-clause-none c = footer_none c.args.content.now c.from_residual-in_err-summary_offset_start.result (search rules)

pub returns-in_err-summary_crc-clause-none : goal.returns-in_err-summary_crc-clause-none
returns-in_err-summary_crc-clause-none c = footer_none c.args.content.now c.from_residual-in_err-summary_crc.result (search rules)

pub returns-then-at-content-clause-none : goal.returns-then-at-content-clause-none
returns-then-at-content-clause-none c = λ f. footer_not_refused c.args.content.now 4 BadLength f (search rules)

pub returns-clause-shown : goal.returns-clause-shown
returns-clause-shown c =
    let content = c.args.content.now in
    let first : NumberAt 8 content 0 c.in_ok-summary_start.summary_start c.in_ok-summary_start.at = subst (ReadsNumber 8 content 0) c.in_ok-summary_start.ensures.ok c.take_u64.ensures in
    let second : NumberAt 8 content c.in_ok-summary_start.at c.in_ok-summary_offset_start.summary_offset_start c.in_ok-summary_offset_start.at = subst (ReadsNumber 8 content c.in_ok-summary_start.at) c.in_ok-summary_offset_start.ensures.ok c.take_u64-2.ensures in
    let third : NumberAt 4 content c.in_ok-summary_offset_start.at c.in_ok-summary_crc.summary_crc c.in_ok-summary_crc.at = subst (ReadsNumber 4 content c.in_ok-summary_offset_start.at) c.in_ok-summary_crc.ensures.ok c.take_u32.ensures in
    footer_read content _ _ _ _ _ _ first second third c.if-at-content.false
