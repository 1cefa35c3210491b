use Rattle.std.proofs.Common.{ℕ, List, ◌+◌, refl, sym, subst, ◌∙◌, arith}
use Rattle.indexed_replay.specs.Chunks.{PackedAt}
use Rattle.indexed_replay.proofs.Packing.{front_read, lacks_front_fields, lacks_records, packed_chunk}
use Rattle.indexed_replay.proofs.chunks.refuse_packed.Goals as goal

pub returns-in-Err-clause-told : goal.returns-in-Err-clause-told
returns-in-Err-clause-told g c = λ file t told there six long named some.
    let part = c.deref.ensures.value ∙ front_read file c.in-Ok.front.items c.args.offset (40 + c.args.name_length) t there (omega (arith, long, c.requires.inside)) (c.in-Ok.ensures.gives.1 file told) in
    (refl, refl, lacks_front_fields file c.deref.result.now c.args.offset c.args.name_length c.in-Err.field-0.field c.in-Err.field-0.why t there named part c.in-Err.ensures.first_fault)

pub returns-then-size-len-clause-told : goal.returns-then-size-len-clause-told
returns-then-size-len-clause-told g c = λ file t told there six long named some.
    let part = c.deref.ensures.value ∙ front_read file c.in-Ok.front.items c.args.offset (40 + c.args.name_length) t there (omega (arith, long, c.requires.inside)) (c.in-Ok.ensures.gives.1 file told) in
    (refl, refl, lacks_records file c.deref.result.now c.in-Ok-take_packing.taken.0.now c.args.offset c.args.name_length c.in-Ok-take_packing.taken.1 t there named part c.in-Ok-take_packing.ensures.shown (omega (arith, long, c.requires.inside, c.if-size-len.true)))

pub returns-in-Ok-copied-clause-told : goal.returns-in-Ok-copied-clause-told
returns-in-Ok-copied-clause-told g c = λ file t told there six long named some.
    let part = c.deref.ensures.value ∙ front_read file c.in-Ok.front.items c.args.offset (40 + c.args.name_length) t there (omega (arith, long, c.requires.inside)) (c.in-Ok.ensures.gives.1 file told) in
    let packed = packed_chunk file c.deref.result.now c.in-Ok-take_packing.taken.0.now c.args.offset c.args.name_length c.in-Ok-take_packing.taken.1 t there six named some (omega (arith, long, c.requires.inside, c.if-size-len.false)) part c.in-Ok-take_packing.ensures.shown in
    (refl, subst (λ (l : List ℕ). PackedAt file c.args.offset l) (sym c.in-Ok-copied.ensures) packed)
