use Rattle.std.proofs.Common.{rules, subst, drop}
use Rattle.mcap_wire.specs.Reading.{ReadsNumber}
use Rattle.mcap_wire.specs.Layout.{NumberAt}
use Rattle.mcap_wire.specs.Contents.{a_number}
use Rattle.mcap_wire.proofs.Contents.{begins, begins_end}
use Rattle.rec_index.proofs.Contents.{summary_offset_none}
use Rattle.rec_index.proofs.summary_offset.SummaryOffset.parse.Goals as goal

pub returns-in_err-group_opcode-clause-none : goal.returns-in_err-group_opcode-clause-none
returns-in_err-group_opcode-clause-none c = summary_offset_none c.args.content.now c.from_residual.result (search rules)

pub returns-in_err-group_start-clause-none : goal.returns-in_err-group_start-clause-none
returns-in_err-group_start-clause-none c = summary_offset_none c.args.content.now c.from_residual-in_err-group_start.result (search rules)

pub returns-in_err-group_length-clause-none : goal.returns-in_err-group_length-clause-none
returns-in_err-group_length-clause-none c = summary_offset_none c.args.content.now c.from_residual-in_err-group_length.result (search rules)

pub returns-clause-shown : goal.returns-clause-shown
returns-clause-shown c =
    let content = c.args.content.now in
    let first : NumberAt 1 content 0 c.in_ok-group_opcode.group_opcode c.in_ok-group_opcode.at = subst (ReadsNumber 1 content 0) c.in_ok-group_opcode.ensures.ok c.take_u8.ensures in
    let second : NumberAt 8 content c.in_ok-group_opcode.at c.in_ok-group_start.group_start c.in_ok-group_start.at = subst (ReadsNumber 8 content c.in_ok-group_opcode.at) c.in_ok-group_start.ensures.ok c.take_u64.ensures in
    let third : NumberAt 8 content c.in_ok-group_start.at c.in_ok-group_length.group_length c.in_ok-group_length._after = subst (ReadsNumber 8 content c.in_ok-group_start.at) c.in_ok-group_length.ensures.ok c.take_u64-2.ensures in
    (drop c.in_ok-group_length._after content, begins (a_number 1) _ content _ _ _ _ _ first (begins (a_number 8) _ content _ _ _ _ _ second (begins (a_number 8) _ content _ _ _ _ _ third (begins_end (drop c.in_ok-group_length._after content)))))
