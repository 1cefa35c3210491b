use Rattle.std.proofs.Common.{subst}
use Rattle.summary_check.specs.Offsets.{SpanIs}
use Rattle.summary_check.proofs.Naming.{span_first, span_more, span_kept}
use Rattle.summary_check.proofs.offsets.with_cut.Goals as goal

pub returns-then-cut-op : goal.returns-then-cut-op
returns-then-cut-op c = λ front was. span_kept front c.args.cut c.args.op c.args.span was c.if-cut-op.true

pub returns-in-None : goal.returns-in-None
returns-in-None c = λ front was. span_first front c.args.cut c.args.op (subst (SpanIs front c.args.op) c.in-None.is was) c.if-cut-op.false

pub returns-in-Some : goal.returns-in-Some
returns-in-Some c = λ front was. span_more front c.args.cut c.args.op c.in-Some.from c.in-Some.field-0-1 (subst (SpanIs front c.args.op) c.in-Some.is was) c.if-cut-op.false
