use Rattle.std.proofs.Common.{refl, inl, arith}
use Rattle.std.proofs.lemmas.Bool.{both_ways}
use Rattle.rec_index.specs.Parsed.{chunk_index_fields, attachment_index_fields}
use Rattle.mcap_model.specs.Made.{top}
use Rattle.mcap_model.specs.Fields.{IsChunkIndex, IsAttachmentIndex, IsMetadataIndex}
use Rattle.summary_check.proofs.Telling.{told_other, told_chunk, told_attachment, told_metadata}
use Rattle.summary_check.proofs.told.take_index.Goals as goal

pub returns-then-take_index : goal.returns-then-take_index
returns-then-take_index c = λ all n was at.
    let t = top c.args.op c.args.content.now in
    let f = chunk_index_fields c.in-Ok.index in
    let is : IsChunkIndex t f = record { kind = c.if-op-eq-CHUNK_INDEX.true; layout = c.in-Ok.ensures.shown } in
    told_chunk all n t at c.args.chunks.now c.take_index.new.self c.args.attachments.now c.args.metadata.now f was is
    ((c.take_index.ensures.right all n was.chunks was.chunks_named).0 c.if-take_index.true)
    (c.take_index.ensures.kept all was.chunks) (c.take_index.ensures.named all n t was.chunks_named at is)

pub returns-in-Err : goal.returns-in-Err
returns-in-Err c = λ all n was at.
    told_other all n (top c.args.op c.args.content.now) at c.args.chunks.now c.args.attachments.now c.args.metadata.now was
    (λ f is. c.in-Err.ensures.none f is.layout) (λ f is. omega (arith, c.if-op-eq-CHUNK_INDEX.true, is.kind)) (λ offset size name is. omega (arith, c.if-op-eq-CHUNK_INDEX.true, is.kind))

pub returns-then-take_index-2 : goal.returns-then-take_index-2
returns-then-take_index-2 c = λ all n was at.
    let t = top c.args.op c.args.content.now in
    let f = attachment_index_fields c.in-Ok-parse.index in
    let is : IsAttachmentIndex t f = record { kind = c.if-op-eq-ATTACHMENT_INDEX.true; layout = c.in-Ok-parse.ensures.shown } in
    told_attachment all n t at c.args.chunks.now c.args.attachments.now c.take_index-then-op-eq-ATTACHMENT_INDEX.new.self c.args.metadata.now f was is
    ((c.take_index-then-op-eq-ATTACHMENT_INDEX.ensures.right all n was.attachments was.attachments_named).0 c.if-take_index-2.true)
    (c.take_index-then-op-eq-ATTACHMENT_INDEX.ensures.kept all was.attachments) (c.take_index-then-op-eq-ATTACHMENT_INDEX.ensures.named all n t was.attachments_named at is)

pub returns-in-Err-parse : goal.returns-in-Err-parse
returns-in-Err-parse c = λ all n was at.
    told_other all n (top c.args.op c.args.content.now) at c.args.chunks.now c.args.attachments.now c.args.metadata.now was
    (λ f is. omega (arith, c.if-op-eq-ATTACHMENT_INDEX.true, is.kind)) (λ f is. c.in-Err-parse.ensures.none f is.layout) (λ offset size name is. omega (arith, c.if-op-eq-ATTACHMENT_INDEX.true, is.kind))

pub returns-then-take_index-3 : goal.returns-then-take_index-3
returns-then-take_index-3 c = λ all n was at.
    let t = top c.args.op c.args.content.now in
    let f = c.in-Ok-parse-2.index in
    let is : IsMetadataIndex t f.offset f.length f.name.now = record { kind = c.if-op-eq-METADATA_INDEX.true; layout = c.in-Ok-parse-2.ensures.shown } in
    told_metadata all n t at c.args.chunks.now c.args.attachments.now c.args.metadata.now c.take_index-then-op-eq-METADATA_INDEX.new.self f.offset f.length f.name.now was is
    ((c.take_index-then-op-eq-METADATA_INDEX.ensures.right all n was.metadata was.metadata_named).0 c.if-take_index-3.true)
    (c.take_index-then-op-eq-METADATA_INDEX.ensures.kept all was.metadata) (c.take_index-then-op-eq-METADATA_INDEX.ensures.named all n t was.metadata_named at is)

pub returns-in-Err-parse-2 : goal.returns-in-Err-parse-2
returns-in-Err-parse-2 c = λ all n was at.
    told_other all n (top c.args.op c.args.content.now) at c.args.chunks.now c.args.attachments.now c.args.metadata.now was
    (λ f is. omega (arith, c.if-op-eq-METADATA_INDEX.true, is.kind)) (λ f is. omega (arith, c.if-op-eq-METADATA_INDEX.true, is.kind)) (λ offset size name is. c.in-Err-parse-2.ensures.none _ is.layout)

pub returns : goal.returns
returns c = λ all n was at.
    told_other all n (top c.args.op c.args.content.now) at c.args.chunks.now c.args.attachments.now c.args.metadata.now was
    (λ f is. omega (arith, is.kind, c.if-op-eq-CHUNK_INDEX.false)) (λ f is. omega (arith, is.kind, c.if-op-eq-ATTACHMENT_INDEX.false)) (λ offset size name is. omega (arith, is.kind, c.if-op-eq-METADATA_INDEX.false))

pub returns-then-op-eq-CHUNK_INDEX : goal.returns-then-op-eq-CHUNK_INDEX
returns-then-op-eq-CHUNK_INDEX c = λ all n was at.
    let t = top c.args.op c.args.content.now in
    let f = chunk_index_fields c.in-Ok.index in
    let is : IsChunkIndex t f = record { kind = c.if-op-eq-CHUNK_INDEX.true; layout = c.in-Ok.ensures.shown } in
    inl (refl, λ v12. both_ways c.take_index.result c.if-take_index.false ((c.take_index.ensures.right all n was.chunks was.chunks_named).1 (v12 f is)))
