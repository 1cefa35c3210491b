use Rattle.std.proofs.Common.{◌+◌, subst}
use Rattle.mcap_wire.specs.Reading.{CutFails}
use Rattle.summary_check.proofs.Cuts.{short_refused, zero_refused, long_refused}
use Rattle.summary_check.proofs.cutting.cut_record.Goals as goal

pub returns-in-Err-Short-clause-judged : goal.returns-in-Err-Short-clause-judged
returns-in-Err-Short-clause-judged c = λ tops short there. short_refused c.args.bytes.now c.args.at (c.args.start + c.args.at) tops c.requires.inside (subst (CutFails c.args.bytes.now c.args.at) c.in-Err-Short.field-0-is c.in-Err-Short.ensures) short there

pub returns-in-Err-ZeroOp-clause-judged : goal.returns-in-Err-ZeroOp-clause-judged
returns-in-Err-ZeroOp-clause-judged c = λ tops short there. zero_refused c.args.bytes.now c.args.at (c.args.start + c.args.at) tops (subst (CutFails c.args.bytes.now c.args.at) c.in-Err-ZeroOp.field-0-is c.in-Err-ZeroOp.ensures) short there

pub returns-in-Err-TooLong-clause-judged : goal.returns-in-Err-TooLong-clause-judged
returns-in-Err-TooLong-clause-judged c = λ tops short there. long_refused c.args.bytes.now c.args.at c.in-Err-TooLong.field-0-0 (c.args.start + c.args.at) tops (subst (CutFails c.args.bytes.now c.args.at) c.in-Err-TooLong.field-0-is c.in-Err-TooLong.ensures) short there
