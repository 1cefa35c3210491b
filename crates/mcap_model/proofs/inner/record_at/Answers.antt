use Rattle.std.proofs.Common.{refl, arith}
use Rattle.mcap_wire.proofs.Fields.{record_cut}
use Rattle.mcap_model.proofs.Walks.{no_record}
use Rattle.mcap_model.proofs.inner.record_at.Goals as goal

pub returns-then-len-bytes : goal.returns-then-len-bytes
returns-then-len-bytes c = no_record c.args.bytes.now c.args.at c.in-Ok.read.0 c.in-Ok.read.1 c.in-Ok.ensures (omega (arith, c.if-len-bytes.true, c.in-Ok.ensures.field.ends))

pub returns : goal.returns
returns c = (
  record_cut c.args.bytes.now c.args.at _ c.in-Ok.read.0 c.in-Ok.read.1 (omega arith) refl c.in-Ok.ensures (omega (arith, c.if-len-bytes.false, c.in-Ok.ensures.field.ends)),
  c.if-op-eq0.false,
  omega arith,
)
