use Rattle.std.proofs.Common.{rules, ◌≡◌, subst, inl, inr, Err}
use Rattle.mcap_wire.specs.Reading.{NumberFails, ReadsNumber, TextAt, TextFails, ReadsText}
use Rattle.mcap_wire.specs.Layout.{NumberAt}
use Rattle.indexed_replay.proofs.packings.take_packing.Goals as goal

pub returns-in_err-_crc-clause-first_fault : goal.returns-in_err-_crc-clause-first_fault
returns-in_err-_crc-clause-first_fault c =
    let content = c.args.front.now in
    let first : NumberAt 8 content 0 c.in_ok-_start._start c.in_ok-_start.at = subst (ReadsNumber 8 content 0) c.in_ok-_start.ensures.ok c.take_u64.ensures in
    let second : NumberAt 8 content c.in_ok-_start.at c.in_ok-_end._end c.in_ok-_end.at = subst (ReadsNumber 8 content c.in_ok-_start.at) c.in_ok-_end.ensures.ok c.take_u64-2.ensures in
    let third : NumberAt 8 content c.in_ok-_end.at c.in_ok-_whole._whole c.in_ok-_whole.at = subst (ReadsNumber 8 content c.in_ok-_end.at) c.in_ok-_whole.ensures.ok c.take_u64-3.ensures in
    let bad = c.in_err-_crc.field-0.0 in
    let fails : NumberFails 4 content c.in_ok-_whole.at bad.why = subst (ReadsNumber 4 content c.in_ok-_whole.at) c.in_err-_crc.ensures.err.1 c.take_u32.ensures in
    let is : c.from_residual-in_err-_crc.result ≡ Err bad = search rules in
    rw is (inr (_, _, first, inr (_, _, second, inr (_, _, third, inl (c.in_err-_crc.ensures.err.0, fails)))))

pub returns-in_err-name-clause-first_fault : goal.returns-in_err-name-clause-first_fault
returns-in_err-name-clause-first_fault c =
    let content = c.args.front.now in
    let first : NumberAt 8 content 0 c.in_ok-_start._start c.in_ok-_start.at = subst (ReadsNumber 8 content 0) c.in_ok-_start.ensures.ok c.take_u64.ensures in
    let second : NumberAt 8 content c.in_ok-_start.at c.in_ok-_end._end c.in_ok-_end.at = subst (ReadsNumber 8 content c.in_ok-_start.at) c.in_ok-_end.ensures.ok c.take_u64-2.ensures in
    let third : NumberAt 8 content c.in_ok-_end.at c.in_ok-_whole._whole c.in_ok-_whole.at = subst (ReadsNumber 8 content c.in_ok-_end.at) c.in_ok-_whole.ensures.ok c.take_u64-3.ensures in
    let fourth : NumberAt 4 content c.in_ok-_whole.at c.in_ok-_crc._crc c.in_ok-_crc.at = subst (ReadsNumber 4 content c.in_ok-_whole.at) c.in_ok-_crc.ensures.ok c.take_u32.ensures in
    let bad = c.in_err-name.field-0.0 in
    let fails : TextFails content c.in_ok-_crc.at bad.why = subst (ReadsText content c.in_ok-_crc.at) c.in_err-name.ensures.err.1 c.take_text.ensures in
    let is : c.from_residual-in_err-name.result ≡ Err bad = search rules in
    rw is (inr (_, _, first, inr (_, _, second, inr (_, _, third, inr (_, _, fourth, inl (c.in_err-name.ensures.err.0, fails))))))

pub returns-in_err-size-clause-first_fault : goal.returns-in_err-size-clause-first_fault
returns-in_err-size-clause-first_fault c =
    let content = c.args.front.now in
    let first : NumberAt 8 content 0 c.in_ok-_start._start c.in_ok-_start.at = subst (ReadsNumber 8 content 0) c.in_ok-_start.ensures.ok c.take_u64.ensures in
    let second : NumberAt 8 content c.in_ok-_start.at c.in_ok-_end._end c.in_ok-_end.at = subst (ReadsNumber 8 content c.in_ok-_start.at) c.in_ok-_end.ensures.ok c.take_u64-2.ensures in
    let third : NumberAt 8 content c.in_ok-_end.at c.in_ok-_whole._whole c.in_ok-_whole.at = subst (ReadsNumber 8 content c.in_ok-_end.at) c.in_ok-_whole.ensures.ok c.take_u64-3.ensures in
    let fourth : NumberAt 4 content c.in_ok-_whole.at c.in_ok-_crc._crc c.in_ok-_crc.at = subst (ReadsNumber 4 content c.in_ok-_whole.at) c.in_ok-_crc.ensures.ok c.take_u32.ensures in
    let fifth : TextAt content c.in_ok-_crc.at c.in_ok-name.name.now c.in_ok-name.at = subst (ReadsText content c.in_ok-_crc.at) c.in_ok-name.ensures.ok c.take_text.ensures in
    let bad = c.in_err-size.field-0.0 in
    let fails : NumberFails 8 content c.in_ok-name.at bad.why = subst (ReadsNumber 8 content c.in_ok-name.at) c.in_err-size.ensures.err.1 c.take_u64-4.ensures in
    let is : c.from_residual-in_err-size.result ≡ Err bad = search rules in
    rw is (inr (_, _, first, inr (_, _, second, inr (_, _, third, inr (_, _, fourth, inr (_, _, fifth, inl (c.in_err-size.ensures.err.0, fails)))))))
