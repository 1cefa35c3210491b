use Rattle.std.proofs.Common.{◌≡◌, ◌+◌, length, ap, ◌∙◌, arith}
use Rattle.mcap_model.specs.Tops.{first_top}
use Rattle.mcap_model.proofs.Readings.{length-top}
use Rattle.indexed_replay.proofs.Headed.{there_begun}
use Rattle.indexed_replay.proofs.Chunking.{front_size}
use Rattle.indexed_replay.proofs.Standing.{walk_more, first_index, heads_asked}
use Rattle.indexed_replay.proofs.belonging.indexes_stand.Goals as goal

pub returns-in-Ok-Long-clause-asks : goal.returns-in-Ok-Long-clause-asks
returns-in-Ok-Long-clause-asks g c = λ file told size.
    let i = c.indexes.invariant in
    let (walked, few) = i.walked file told size in
    heads_asked file c.args.from c.indexes.at (g.T.Store.state c.args.store.now).asked (g.T.Store.state c.read_front.new.store).asked walked (omega (arith, few, c.in-Ok-Long.ensures.takes.asked))

pub returns-in-Ok-Absent-clause-told : goal.returns-in-Ok-Absent-clause-told
returns-in-Ok-Absent-clause-told g c = λ file told size stand.
    let i = c.indexes.invariant in
    let first = first_index file c.indexes.at c.args.to c.indexes-test.true (i.ahead file told size stand) in
    let lacks = rw c.in-Ok-Absent.field-0-is at c.in-Ok-Absent.ensures.told file (i.stays.bytes ∙ told) size in
    lacks first.top first.there (omega (arith, length-top first.top)) (λ zero. omega (arith, zero, first.kind))

pub returns-in-Ok-Absent-clause-asks : goal.returns-in-Ok-Absent-clause-asks
returns-in-Ok-Absent-clause-asks g c = λ file told size.
    let i = c.indexes.invariant in
    let (walked, few) = i.walked file told size in
    heads_asked file c.args.from c.indexes.at (g.T.Store.state c.args.store.now).asked (g.T.Store.state c.read_front.new.store).asked walked (omega (arith, few, c.in-Ok-Absent.ensures.takes.asked))

pub returns-in-Err-clause-asks : goal.returns-in-Err-clause-asks
returns-in-Err-clause-asks g c = λ file told size.
    let i = c.indexes.invariant in
    let (walked, few) = i.walked file told size in
    heads_asked file c.args.from c.indexes.at (g.T.Store.state c.args.store.now).asked (g.T.Store.state c.read_front.new.store).asked walked (omega (arith, few, c.in-Err.ensures.takes.asked))

pub returns-then-head-ne-MESSAGE_INDEX-clause-told : goal.returns-then-head-ne-MESSAGE_INDEX-clause-told
returns-then-head-ne-MESSAGE_INDEX-clause-told g c = λ file told size stand.
    let i = c.indexes.invariant in
    let first = first_index file c.indexes.at c.args.to c.indexes-test.true (i.ahead file told size stand) in
    let front = rw c.in-Ok-Whole.field-0-is at c.in-Ok-Whole.ensures.told file (i.stays.bytes ∙ told) size in
    let begun = there_begun file c.indexes.at first.top first.there in
    c.if-head-ne-MESSAGE_INDEX.true (omega (arith, front.op_is, begun.0, first.kind))

pub returns-then-head-ne-MESSAGE_INDEX-clause-asks : goal.returns-then-head-ne-MESSAGE_INDEX-clause-asks
returns-then-head-ne-MESSAGE_INDEX-clause-asks g c = λ file told size.
    let i = c.indexes.invariant in
    let (walked, few) = i.walked file told size in
    heads_asked file c.args.from c.indexes.at (g.T.Store.state c.args.store.now).asked (g.T.Store.state c.read_front.new.store).asked walked (omega (arith, few, c.in-Ok-Whole.ensures.takes.asked))

pub indexes-preserved : goal.indexes-preserved
indexes-preserved g c =
    let i = c.indexes.invariant in
    let e = c.in-Ok-Whole.ensures in
    record {
      stays = record { bytes = e.takes.bytes ∙ i.stays.bytes; known = e.takes.known ∙ i.stays.known };
      still = e.cause.still ∙ i.still;
      walked = λ file told size.
          let (walked, few) = i.walked file told size in
          let front = rw c.in-Ok-Whole.field-0-is at c.in-Ok-Whole.ensures.told file (i.stays.bytes ∙ told) size in
          let t = first_top (Rattle.std.proofs.Common.drop c.indexes.at file) in
          let long = front_size file c.read_front.new.out c.indexes.at c.in-Ok-Whole.head.op c.in-Ok-Whole.head.len front in
          let more = walk_more file c.args.from c.indexes.at (c.indexes.at + 9 + c.in-Ok-Whole.head.len) t walked front.there (front.op_is ∙ c.if-head-ne-MESSAGE_INDEX.false) (omega (arith, length-top t, long)) in
          (more.0, omega (arith, few, e.takes.asked, more.1));
      ahead = λ file told size stand.
          let first = first_index file c.indexes.at c.args.to c.indexes-test.true (i.ahead file told size stand) in
          let front = rw c.in-Ok-Whole.field-0-is at c.in-Ok-Whole.ensures.told file (i.stays.bytes ∙ told) size in
          let begun = there_begun file c.indexes.at first.top first.there in
          let behind = first.behind in
          behind (c.indexes.at + 9 + c.in-Ok-Whole.head.len) (omega (arith, length-top first.top, begun.1, front.len_is));
    }

pub returns-then-at-to-clause-asks : goal.returns-then-at-to-clause-asks
returns-then-at-to-clause-asks g c = λ file told size.
    let i = c.indexes.invariant in
    let (walked, few) = i.walked file told size in
    heads_asked file c.args.from c.indexes.at (g.T.Store.state c.args.store.now).asked (g.T.Store.state c.indexes.store).asked walked (omega (arith, few))

pub returns-clause-asks : goal.returns-clause-asks
returns-clause-asks g c = λ file told size.
    let i = c.indexes.invariant in
    let (walked, few) = i.walked file told size in
    heads_asked file c.args.from c.indexes.at (g.T.Store.state c.args.store.now).asked (g.T.Store.state c.indexes.store).asked walked (omega (arith, few))
