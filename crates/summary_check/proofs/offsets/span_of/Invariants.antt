use Rattle.std.specs.Prelude.{take}
use Rattle.summary_check.specs.Offsets.{SpanIs}
use Rattle.summary_check.proofs.offsets.span_of.Given as goal

abbrev pub invariant-records : goal.invariant-records
invariant-records l = SpanIs (take l.i l.cuts) l.op l.span
