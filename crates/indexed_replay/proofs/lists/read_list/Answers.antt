use Rattle.std.proofs.Common.{◌∙◌, arith}
use Rattle.mcap_model.proofs.Readings.{length-top}
use Rattle.indexed_replay.proofs.Headed.{front_whole}
use Rattle.indexed_replay.proofs.Listing.{head_asked, whole_asked}
use Rattle.indexed_replay.proofs.lists.read_list.Goals as goal

pub returns-in-Absent-clause-told : goal.returns-in-Absent-clause-told
returns-in-Absent-clause-told g c = λ file told size t there seven.
    let lacks = rw c.in-Absent.is at (c.in-Ok.ensures.told file told size) in
    lacks t there (omega (arith, length-top t)) (λ zero. omega (arith, zero, seven))

pub returns-in-Ok-read_part-clause-told : goal.returns-in-Ok-read_part-clause-told
returns-in-Ok-read_part-clause-told g c = λ file told size.
    let front = rw c.in-Whole.is at (c.in-Ok.ensures.told file told size) in
    front_whole file c.read_front.new.out c.in-Ok-read_part.content.items c.args.at c.in-Whole.head.op c.in-Whole.head.len 7 front c.if-head-ne-MESSAGE_INDEX.false (c.in-Ok-read_part.ensures.gives.1 file (c.in-Ok.ensures.takes.bytes ∙ told))

pub returns-in-Ok-read_part-clause-asks : goal.returns-in-Ok-read_part-clause-asks
returns-in-Ok-read_part-clause-asks g c = λ file told size.
    let front = rw c.in-Whole.is at (c.in-Ok.ensures.told file told size) in
    whole_asked file c.read_front.new.out c.args.at c.in-Whole.head.op c.in-Whole.head.len (g.T.Store.state c.args.store.now).asked (g.T.Store.state c.read_part.new.store).asked front c.if-head-ne-MESSAGE_INDEX.false (omega (arith, c.in-Ok.ensures.takes.asked, c.in-Ok-read_part.ensures.asked))

pub returns-in-Err-clause-asks : goal.returns-in-Err-clause-asks
returns-in-Err-clause-asks g c = λ file told size.
    head_asked file c.args.at (g.T.Store.state c.args.store.now).asked (g.T.Store.state c.read_front.new.store).asked (omega (arith, c.in-Err.ensures.takes.asked))

pub returns-in-Long-clause-asks : goal.returns-in-Long-clause-asks
returns-in-Long-clause-asks g c = λ file told size.
    head_asked file c.args.at (g.T.Store.state c.args.store.now).asked (g.T.Store.state c.read_front.new.store).asked (omega (arith, c.in-Ok.ensures.takes.asked))

pub returns-in-Absent-clause-asks : goal.returns-in-Absent-clause-asks
returns-in-Absent-clause-asks g c = λ file told size.
    head_asked file c.args.at (g.T.Store.state c.args.store.now).asked (g.T.Store.state c.read_front.new.store).asked (omega (arith, c.in-Ok.ensures.takes.asked))

pub returns-in-Err-Failed-clause-asks : goal.returns-in-Err-Failed-clause-asks
returns-in-Err-Failed-clause-asks g c = λ file told size.
    let front = rw c.in-Whole.is at (c.in-Ok.ensures.told file told size) in
    whole_asked file c.read_front.new.out c.args.at c.in-Whole.head.op c.in-Whole.head.len (g.T.Store.state c.args.store.now).asked (g.T.Store.state c.read_part.new.store).asked front c.if-head-ne-MESSAGE_INDEX.false (omega (arith, c.in-Ok.ensures.takes.asked, c.read_part.ensures.asked))

pub returns-in-Err-Memory-clause-asks : goal.returns-in-Err-Memory-clause-asks
returns-in-Err-Memory-clause-asks g c = λ file told size.
    let front = rw c.in-Whole.is at (c.in-Ok.ensures.told file told size) in
    whole_asked file c.read_front.new.out c.args.at c.in-Whole.head.op c.in-Whole.head.len (g.T.Store.state c.args.store.now).asked (g.T.Store.state c.read_part.new.store).asked front c.if-head-ne-MESSAGE_INDEX.false (omega (arith, c.in-Ok.ensures.takes.asked, c.read_part.ensures.asked))
