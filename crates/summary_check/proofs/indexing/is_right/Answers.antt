use Rattle.std.proofs.Common.{refl}
use Rattle.rec_index.specs.Parsed.{chunk_index_fields}
use Rattle.mcap_model.specs.Made.{top}
use Rattle.mcap_model.specs.Fields.{IsChunkIndex}
use Rattle.summary_check.proofs.FullyIndexing.{right_by}
use Rattle.summary_check.proofs.indexing.is_right.Goals as goal

pub returns-in-Ok : goal.returns-in-Ok
returns-in-Ok c = λ all n kept rule.
    let t = top c.args.op c.args.content.now in
    let f = chunk_index_fields c.in-Ok.index in
    let is : IsChunkIndex t f = record { kind = c.if-op-ne-CHUNK_INDEX.false; layout = c.in-Ok.ensures.shown } in
    right_by all n t f c.is_empty_right.result rule is (λ k chunk g of. c.is_empty_right.ensures all k chunk g kept of)

pub returns-in-Err : goal.returns-in-Err
returns-in-Err c = λ all n kept rule. ((λ e f k chunk g is of. absurd (c.in-Err.ensures.none f is.layout)), λ each. refl)
