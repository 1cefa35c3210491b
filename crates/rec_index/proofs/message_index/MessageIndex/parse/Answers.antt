use Rattle.std.proofs.Common.{rules, ◌≡◌, subst, inl, inr, Err}
use Rattle.mcap_wire.specs.Reading.{ReadsNumber}
use Rattle.mcap_wire.specs.Layout.{NumberAt}
use Rattle.mcap_wire.specs.ArrayReading.{EntriesFail, ReadsEntries}
use Rattle.rec_index.proofs.MapContents.{message_index_none}
use Rattle.rec_index.proofs.message_index.MessageIndex.parse.Goals as goal

pub returns-in_err-channel_id-clause-none : goal.returns-in_err-channel_id-clause-none
returns-in_err-channel_id-clause-none c = message_index_none c.args.content.now c.from_residual.result (search rules)

pub returns-in_err-entries-clause-first_fault : goal.returns-in_err-entries-clause-first_fault
returns-in_err-entries-clause-first_fault c =
    let content = c.args.content.now in
    let first : NumberAt 2 content 0 c.in_ok-channel_id.channel_id c.in_ok-channel_id.at = subst (ReadsNumber 2 content 0) c.in_ok-channel_id.ensures.ok c.take_u16.ensures in
    let bad = c.in_err-entries.field-0.0 in
    let fails : EntriesFail content c.in_ok-channel_id.at bad.why = subst (ReadsEntries content c.in_ok-channel_id.at) c.in_err-entries.ensures.err.1 c.take_entries.ensures in
    let is : c.from_residual-in_err-entries.result ≡ Err bad = search rules in
    rw is (inr (_, _, first, inl (c.in_err-entries.ensures.err.0, fails)))

pub returns-in_err-entries-clause-none : goal.returns-in_err-entries-clause-none
returns-in_err-entries-clause-none c = message_index_none c.args.content.now c.from_residual-in_err-entries.result (returns-in_err-entries-clause-first_fault c)

pub returns-clause-shown : goal.returns-clause-shown
returns-clause-shown c = search rules
