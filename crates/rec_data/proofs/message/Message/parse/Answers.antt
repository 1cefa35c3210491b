use Rattle.std.proofs.Common.{rules, ◌≡◌, ◌-◌, length, take, drop, sym, subst, inl, inr, Err, arith}
use Rattle.std.proofs.lemmas.List.{take_all, length-drop}
use Rattle.mcap_wire.specs.Reading.{NumberFails, ReadsNumber}
use Rattle.mcap_wire.specs.Layout.{NumberAt}
use Rattle.rec_data.proofs.Contents.{message_none, message_read}
use Rattle.rec_data.proofs.message.Message.parse.Goals as goal

pub returns-in_err-channel_id-clause-none : goal.returns-in_err-channel_id-clause-none
returns-in_err-channel_id-clause-none c = message_none c.args.content.now c.from_residual.result (search rules)

pub returns-in_err-sequence-clause-none : goal.returns-in_err-sequence-clause-none
returns-in_err-sequence-clause-none c = message_none c.args.content.now c.from_residual-in_err-sequence.result (search rules)

pub returns-in_err-log_time-clause-none : goal.returns-in_err-log_time-clause-none
returns-in_err-log_time-clause-none c = message_none c.args.content.now c.from_residual-in_err-log_time.result (search rules)

pub returns-in_err-publish_time-clause-first_fault : goal.returns-in_err-publish_time-clause-first_fault
returns-in_err-publish_time-clause-first_fault c =
    let content = c.args.content.now in
    let first : NumberAt 2 content 0 c.in_ok-channel_id.channel_id c.in_ok-channel_id.at = subst (ReadsNumber 2 content 0) c.in_ok-channel_id.ensures.ok c.take_u16.ensures in
    let second : NumberAt 4 content c.in_ok-channel_id.at c.in_ok-sequence.sequence c.in_ok-sequence.at = subst (ReadsNumber 4 content c.in_ok-channel_id.at) c.in_ok-sequence.ensures.ok c.take_u32.ensures in
    let third : NumberAt 8 content c.in_ok-sequence.at c.in_ok-log_time.log_time c.in_ok-log_time.at = subst (ReadsNumber 8 content c.in_ok-sequence.at) c.in_ok-log_time.ensures.ok c.take_u64.ensures in
    let bad = c.in_err-publish_time.field-0.0 in
    let fails : NumberFails 8 content c.in_ok-log_time.at bad.why = subst (ReadsNumber 8 content c.in_ok-log_time.at) c.in_err-publish_time.ensures.err.1 c.take_u64-2.ensures in
    let is : c.from_residual-in_err-publish_time.result ≡ Err bad = search rules in
    rw is (inr (_, _, first, inr (_, _, second, inr (_, _, third, inl (c.in_err-publish_time.ensures.err.0, fails)))))

pub returns-in_err-publish_time-clause-none : goal.returns-in_err-publish_time-clause-none
returns-in_err-publish_time-clause-none c = message_none c.args.content.now c.from_residual-in_err-publish_time.result (returns-in_err-publish_time-clause-first_fault c)

pub returns-clause-shown : goal.returns-clause-shown
returns-clause-shown c =
    let content = c.args.content.now in
    let first : NumberAt 2 content 0 c.in_ok-channel_id.channel_id c.in_ok-channel_id.at = subst (ReadsNumber 2 content 0) c.in_ok-channel_id.ensures.ok c.take_u16.ensures in
    let second : NumberAt 4 content c.in_ok-channel_id.at c.in_ok-sequence.sequence c.in_ok-sequence.at = subst (ReadsNumber 4 content c.in_ok-channel_id.at) c.in_ok-sequence.ensures.ok c.take_u32.ensures in
    let third : NumberAt 8 content c.in_ok-sequence.at c.in_ok-log_time.log_time c.in_ok-log_time.at = subst (ReadsNumber 8 content c.in_ok-sequence.at) c.in_ok-log_time.ensures.ok c.take_u64.ensures in
    let fourth : NumberAt 8 content c.in_ok-log_time.at c.in_ok-publish_time.publish_time c.in_ok-publish_time.at = subst (ReadsNumber 8 content c.in_ok-log_time.at) c.in_ok-publish_time.ensures.ok c.take_u64-2.ensures in
    let at = c.in_ok-publish_time.at in
    let rest : take (length content - at) (drop at content) ≡ drop at content = take_all (length content - at) (drop at content) (omega (arith, length-drop at content)) in
    message_read content c.in_ok-channel_id.channel_id _ _ _ _ _ first second third fourth (sym rest)
