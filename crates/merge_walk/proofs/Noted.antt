-- What is noted of a record.
use Rattle.std.proofs.Common.{◌≡◌, ℕ, ◌+◌, Bool, false, List, [], ◌∷◌, ◌++◌, length, cond, sym, ap, ◌∙◌, append_assoc, append-nil, arith}
use Rattle.std.specs.Prelude.{◌&&◌, nat_le}
use Rattle.std.proofs.lemmas.Bool.{ne_eqb}
use Rattle.std.proofs.lemmas.List.{length-append}
use Rattle.mcap_model.specs.Tops.{Top, top_bytes, spelled, records_in, inner_tops, chunk_records}
use Rattle.mcap_model.specs.Fields.{ChunkFields, IsChunk}
use Rattle.mcap_model.specs.Made.{top}
use Rattle.mcap_model.proofs.Readings.{length-top}
use Rattle.mcap_model.proofs.Unpacking.{chunks_are_opened}
use Rattle.merge_walk.specs.declared.spans.Span.{Span}
use Rattle.mcap_scan.specs.Heads.{head_of, heads_in}
use Rattle.merge_walk.specs.SpanHeads.{set_at, heads_one, heads_from, heads_under, times_in}
use Rattle.merge_walk.specs.Times.{times_of}
use Rattle.merge_walk.specs.Spans.{spans_timed, spans_in_chunk, spans_alone, spans_one, spans_from}
use Rattle.merge_walk.proofs.Extents.{times_one}
use Rattle.merge_walk.proofs.ListedSpans.{times_listed}

-- the messages of a chunk, whose fields are read
pub noted_chunk : (offset : ℕ) (content : List ℕ) (f : ChunkFields) (at len : ℕ) → IsChunk (top 6 content) f → at ≡ offset + 49 → len ≡ length f.records
    → spans_timed offset at len (times_in (heads_in f.records)) ≡ spans_one offset (top 6 content)
noted_chunk offset content f at len is at_is len_is =
    let same : chunk_records content ≡ f.records = chunks_are_opened (top 6 content) f is in
    ap (λ (n : ℕ). spans_timed offset n len (times_in (heads_in f.records))) at_is
    ∙ ap (λ (n : ℕ). spans_timed offset (offset + 49) n (times_in (heads_in f.records))) (len_is ∙ sym (ap length same))
    ∙ ap (spans_timed offset (offset + 49) (length (chunk_records content))) (times_listed 0 (records_in f.records) ∙ sym (ap (λ (l : List ℕ). times_of (records_in l)) same))

-- one record more of a file
pub spans_joined : (at : ℕ) (tops : List Top) (t : Top) → spans_from at (tops ++ t ∷ []) ≡ spans_from at tops ++ spans_one (at + length (spelled tops)) t
spans_joined at [] t = append-nil (spans_one at t) ∙ ap (λ (n : ℕ). spans_one n t) (omega arith)
spans_joined at (u ∷ us) t =
    ap (λ (l : List Span). spans_one at u ++ l)
    (spans_joined (at + length (top_bytes u)) us t ∙ ap (λ (n : ℕ). spans_from (at + length (top_bytes u)) us ++ spans_one n t) (omega (arith, length-append (top_bytes u) (spelled us))))
    ∙ sym (append_assoc (spans_one at u) (spans_from (at + length (top_bytes u)) us) (spans_one (at + length (spelled (u ∷ us))) t))

-- a Message
pub noted_message : (offset : ℕ) (content : List ℕ) (len : ℕ) → len ≡ length content + 9 → spans_timed offset offset len (times_in (heads_under (top 5 content))) ≡ spans_one offset (top 5 content)
noted_message offset content len len_is =
    ap (λ (n : ℕ). spans_timed offset offset n (times_in (heads_under (top 5 content)))) (omega (arith, len_is, length-top (top 5 content)))
    ∙ ap (spans_timed offset offset (length (top_bytes (top 5 content)))) (times_listed 0 (top 5 content ∷ []))

-- another record
pub noted_other : (offset op : ℕ) (content : List ℕ) → (op ≡ 5 → ⊥) → (op ≡ 6 → ⊥) → spans_one offset (top op content) ≡ []
noted_other offset op content silent closed =
    let t = top op content in
    ap (λ (b : Bool). cond b (spans_in_chunk offset t) (spans_alone offset t)) (ne_eqb op 6 closed)
    ∙ ap (spans_timed offset offset (length (top_bytes t))) (times_one t false (ap (λ (b : Bool). b && nat_le 22 (length content)) (ne_eqb op 5 silent)))

-- it lists none
pub listed_other : (op : ℕ) (content : List ℕ) → (op ≡ 5 → ⊥) → (op ≡ 6 → ⊥) → heads_under (top op content) ≡ []
listed_other op content silent closed =
    let t = top op content in
    ap (λ (b : Bool). heads_from 0 (cond b (inner_tops t) (t ∷ []))) (ne_eqb op 6 closed)
    ∙ append-nil (heads_one 0 t)
    ∙ ap (λ (b : Bool). cond (b && nat_le 22 (length content)) (head_of (set_at 0 t) ∷ []) []) (ne_eqb op 5 silent)
