use Rattle.std.proofs.Common.{◌+◌, sym, arith, inr}
use Rattle.mcap_wire.proofs.Fields.{number_there, record_cut, has_opcode}
use Rattle.mcap_wire.proofs.heads.cut.Goals as goal

pub returns-then-len-gt-CONTENT_LIMIT : goal.returns-then-len-gt-CONTENT_LIMIT
returns-then-len-gt-CONTENT_LIMIT c =
    let len = number_there 8 c.args.bytes.now (c.args.at + 1) c.in-Ok.head.len (c.args.at + 9) c.in-Ok.ensures.len_there in
    (has_opcode c.args.bytes.now c.args.at c.in-Ok.head.op c.in-Ok.head.len c.in-Ok.ensures, sym len, c.if-len-gt-CONTENT_LIMIT.true)

pub returns-then-to-bytes : goal.returns-then-to-bytes
returns-then-to-bytes c =
    let len = number_there 8 c.args.bytes.now (c.args.at + 1) c.in-Ok.head.len (c.args.at + 9) c.in-Ok.ensures.len_there in
    inr (has_opcode c.args.bytes.now c.args.at c.in-Ok.head.op c.in-Ok.head.len c.in-Ok.ensures, omega (arith, len, c.if-len-gt-CONTENT_LIMIT.false), omega (arith, len, c.if-to-bytes.true))

pub returns : goal.returns
returns c =
    let head = has_opcode c.args.bytes.now c.args.at c.in-Ok.head.op c.in-Ok.head.len c.in-Ok.ensures in
    record {
      stands = record_cut c.args.bytes.now c.args.at c.in-Ok.head.op c.in-Ok.head.len (c.args.at + 9) (omega (arith, head.0)) c.in-Ok.ensures.opcode c.in-Ok.ensures.len_there (omega (arith, c.if-to-bytes.false));
      valid = c.in-Ok.ensures.valid;
      within = omega (arith, c.if-len-gt-CONTENT_LIMIT.false);
    }
