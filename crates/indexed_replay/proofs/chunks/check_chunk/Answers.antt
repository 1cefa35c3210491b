use Rattle.std.proofs.Common.{◌≡◌, ℕ, ◌+◌, length, refl, sym, subst, ◌∙◌, arith}
use Rattle.mcap_wire.specs.Layout.{NumberAt}
use Rattle.mcap_model.specs.Tops.{first_top}
use Rattle.indexed_replay.proofs.Chunking.{lacks_front, lacks_name, front_name, front_size, chunk_ends, pack_asked}
use Rattle.indexed_replay.proofs.chunks.check_chunk.Goals as goal

pub returns-in-Absent-clause-told : goal.returns-in-Absent-clause-told
returns-in-Absent-clause-told g c = λ file told size.
    (refl, refl, lacks_front file c.args.offset (length c.read_front.new.out) (omega arith) (rw c.in-Absent.is at (c.in-Ok.ensures.told file told size)))

pub returns-then-name_length-eq0-clause-told : goal.returns-then-name_length-eq0-clause-told
returns-then-name_length-eq0-clause-told g c = λ file told size.
    let front = rw c.in-Whole.is at (c.in-Ok.ensures.told file told size) in
    let out = c.read_front.new.out in
    let none = subst (λ (n : ℕ). NumberAt 4 out 37 n c.in-Ok-take_u32.read.1) c.if-name_length-eq0.true c.in-Ok-take_u32.ensures in
    chunk_ends file out c.args.offset c.in-Whole.head.op c.in-Whole.head.len c.in-Ok-take_u32.read.1 (c.args.offset + 9 + c.in-Whole.head.len) front (omega arith) c.if-head-ne-CHUNK.false none refl

pub returns-then-name_length-head-clause-told : goal.returns-then-name_length-head-clause-told
returns-then-name_length-head-clause-told g c = λ file told size.
    let front = rw c.in-Whole.is at (c.in-Ok.ensures.told file told size) in
    let inside = rw c.in-Whole.is at c.in-Ok.ensures.inside in
    (refl, refl, lacks_name file c.read_front.new.out c.args.offset c.in-Whole.head.op c.in-Whole.head.len c.in-Ok-take_u32.read.0 c.in-Ok-take_u32.read.1 front (omega arith) c.in-Ok-take_u32.ensures (omega (arith, c.if-name_length-head.true, inside.1)))

pub returns-clause-told : goal.returns-clause-told
returns-clause-told g c = λ file told size.
    let front = rw c.in-Whole.is at (c.in-Ok.ensures.told file told size) in
    let long : length c.read_front.new.out ≡ 49 = omega arith in
    c.refuse_packed-refused.ensures.told file (first_top (Rattle.std.proofs.Common.drop c.args.offset file)) (c.in-Ok.ensures.takes.bytes ∙ told) front.there (front.op_is ∙ c.if-head-ne-CHUNK.false)
    (front_size file c.read_front.new.out c.args.offset c.in-Whole.head.op c.in-Whole.head.len front)
    (front_name file c.read_front.new.out c.args.offset c.in-Whole.head.op c.in-Whole.head.len c.in-Ok-take_u32.read.0 c.in-Ok-take_u32.read.1 front long c.in-Ok-take_u32.ensures) c.if-name_length-eq0.false

pub returns-clause-asks : goal.returns-clause-asks
returns-clause-asks g c = λ file told size.
    let front = rw c.in-Whole.is at (c.in-Ok.ensures.told file told size) in
    let long : length c.read_front.new.out ≡ 49 = omega arith in
    pack_asked file c.read_front.new.out c.args.offset c.in-Whole.head.op c.in-Whole.head.len c.in-Ok-take_u32.read.0 c.in-Ok-take_u32.read.1 (g.T.Store.state c.args.store.now).asked (g.T.Store.state c.refuse_packed-refused.new.store).asked front long c.if-head-ne-CHUNK.false c.in-Ok-take_u32.ensures c.if-name_length-eq0.false (omega arith)
    (omega (arith, c.in-Ok.ensures.takes.asked, c.refuse_packed-refused.ensures.asks))
