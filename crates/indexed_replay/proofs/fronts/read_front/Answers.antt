use Rattle.std.proofs.Common.{◌+◌, ◌<◌, length, arith}
use Rattle.mcap_model.proofs.Readings.{length-top}
use Rattle.indexed_replay.proofs.Headed.{front_stands, too_long, past_end, head_apart, there_begun}
use Rattle.indexed_replay.proofs.fronts.read_front.Goals.{then-at-len-via-then-at-len, then-at-len-via-else-at-len+then-len-at}
use Rattle.indexed_replay.proofs.fronts.read_front.Goals as goal

pub returns-then-at-len-clause-told : goal.returns-then-at-len-clause-told
returns-then-at-len-clause-told g c = λ file told size.
    let short : c.args.len < c.args.at + length c.args.out.now = elim c.then-at-len.branch [
      | then-at-len-via-then-at-len w ↦ omega (arith, c.requires.head, w.if-at-len.true)
      | then-at-len-via-else-at-len+then-len-at w ↦ omega (arith, c.requires.head, w.if-at-len.false, w.if-len-at.true)
    ] in
    past_end file c.args.at c.args.len (length c.args.out.now) size short

pub returns-then-head-gt-CONTENT_LIMIT-clause-told : goal.returns-then-head-gt-CONTENT_LIMIT-clause-told
returns-then-head-gt-CONTENT_LIMIT-clause-told g c = λ file told size.
    too_long file c.read_at.new.out c.args.at c.in-Ok-take_head.head.op c.in-Ok-take_head.head.len
    (front_stands file c.read_at.new.out c.args.at c.args.len c.in-Ok-take_head.head.op c.in-Ok-take_head.head.len size (c.in-Ok.ensures.gives file told) (omega arith) c.in-Ok-take_head.ensures (omega arith) (omega arith)) c.if-head-gt-CONTENT_LIMIT.true

pub returns-then-head-rest-clause-told : goal.returns-then-head-rest-clause-told
returns-then-head-rest-clause-told g c = λ file told size t there long some.
    let n = head_apart file c.read_at.new.out c.args.at c.args.len c.in-Ok-take_head.head.op c.in-Ok-take_head.head.len size (c.in-Ok.ensures.gives file told) (omega arith) c.in-Ok-take_head.ensures t there in
    let b = there_begun file c.args.at t there in
    omega (arith, b.3, length-top t, size, n)

pub returns-then-head-size-clause-told : goal.returns-then-head-size-clause-told
returns-then-head-size-clause-told g c = λ file told size t there long some.
    let n = head_apart file c.read_at.new.out c.args.at c.args.len c.in-Ok-take_head.head.op c.in-Ok-take_head.head.len size (c.in-Ok.ensures.gives file told) (omega arith) c.in-Ok-take_head.ensures t there in
    omega (arith, length-top t, n, long)

pub returns-clause-told : goal.returns-clause-told
returns-clause-told g c = λ file told size.
    front_stands file c.read_at.new.out c.args.at c.args.len c.in-Ok-take_head.head.op c.in-Ok-take_head.head.len size (c.in-Ok.ensures.gives file told) (omega arith) c.in-Ok-take_head.ensures (omega arith) (omega arith)
