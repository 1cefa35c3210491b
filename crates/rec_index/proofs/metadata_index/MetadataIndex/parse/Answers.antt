use Rattle.std.proofs.Common.{rules, subst, drop}
use Rattle.mcap_wire.specs.Reading.{ReadsNumber, TextAt, ReadsText}
use Rattle.mcap_wire.specs.Layout.{NumberAt}
use Rattle.mcap_wire.specs.Contents.{a_number, a_text}
use Rattle.mcap_wire.proofs.Contents.{begins, begins_end}
use Rattle.rec_index.proofs.Contents.{metadata_index_none}
use Rattle.rec_index.proofs.metadata_index.MetadataIndex.parse.Goals as goal

pub returns-in_err-offset-clause-none : goal.returns-in_err-offset-clause-none
returns-in_err-offset-clause-none c = metadata_index_none c.args.content.now c.from_residual.result (search rules)

pub returns-in_err-length-clause-none : goal.returns-in_err-length-clause-none
returns-in_err-length-clause-none c = metadata_index_none c.args.content.now c.from_residual-in_err-length.result (search rules)

pub returns-in_err-name-clause-none : goal.returns-in_err-name-clause-none
returns-in_err-name-clause-none c = metadata_index_none c.args.content.now c.from_residual-in_err-name.result (search rules)

pub returns-clause-shown : goal.returns-clause-shown
returns-clause-shown c =
    let content = c.args.content.now in
    let first : NumberAt 8 content 0 c.in_ok-offset.offset c.in_ok-offset.at = subst (ReadsNumber 8 content 0) c.in_ok-offset.ensures.ok c.take_u64.ensures in
    let second : NumberAt 8 content c.in_ok-offset.at c.in_ok-length.length c.in_ok-length.at = subst (ReadsNumber 8 content c.in_ok-offset.at) c.in_ok-length.ensures.ok c.take_u64-2.ensures in
    let third : TextAt content c.in_ok-length.at c.in_ok-name.name.now c.in_ok-name._after = subst (ReadsText content c.in_ok-length.at) c.in_ok-name.ensures.ok c.take_text.ensures in
    (drop c.in_ok-name._after content, begins (a_number 8) _ content _ _ _ _ _ first (begins (a_number 8) _ content _ _ _ _ _ second (begins a_text _ content _ _ _ _ _ third (begins_end (drop c.in_ok-name._after content)))))
