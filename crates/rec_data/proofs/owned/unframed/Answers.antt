use Rattle.std.proofs.Common.{arith}
use Rattle.rec_data.proofs.OwnedReading.{no_head, other_length, frame_of}
use Rattle.rec_data.proofs.owned.unframed.Goals as goal

pub returns-in-Err : goal.returns-in-Err
returns-in-Err c = no_head c.args.bytes.now _ c.in-Err.ensures

pub returns-then-len-bytes : goal.returns-then-len-bytes
returns-then-len-bytes c = other_length c.args.bytes.now _ _ (omega arith) c.in-Ok.ensures (λ same. c.if-len-bytes.true (omega (arith, same)))

pub returns : goal.returns
returns c = frame_of c.args.bytes.now _ _ c.in-Ok.ensures (omega arith)
