use Rattle.std.proofs.Common.{refl, subst}
use Rattle.mcap_wire.specs.Reading.{CutFails}
use Rattle.summary_read.proofs.Walking.{short_breaks, zero_breaks, record_breaks}
use Rattle.summary_read.proofs.walk.take_record.Goals as goal

pub returns-in-Err-Short : goal.returns-in-Err-Short
returns-in-Err-Short c = (refl, short_breaks c.args.bytes.now c.args.at (subst (CutFails c.args.bytes.now c.args.at) c.in-Err-Short.field-0-is c.in-Err-Short.ensures))

pub returns-in-Err-ZeroOp : goal.returns-in-Err-ZeroOp
returns-in-Err-ZeroOp c = (refl, zero_breaks c.args.bytes.now c.args.at (subst (CutFails c.args.bytes.now c.args.at) c.in-Err-ZeroOp.field-0-is c.in-Err-ZeroOp.ensures))

pub returns-in-Some : goal.returns-in-Some
returns-in-Some c = (refl, record_breaks c.args.bytes.now c.args.at c.in-Ok.cut c.in-Some.rule c.in-Ok.ensures c.in-Some.ensures)
