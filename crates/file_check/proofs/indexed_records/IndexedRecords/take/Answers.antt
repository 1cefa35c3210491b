use Rattle.std.proofs.Common.{rules, ◌≡◌, ◌↔◌, ◌+◌, ◌^◌, ◌<◌, ◌∷◌, ◌++◌, [], ℕ, true, refl, sym, subst, arith}
use Rattle.rec_index.specs.Parsed.{chunk_fields}
use Rattle.mcap_model.specs.Tops.{inner_tops}
use Rattle.mcap_model.specs.Fields.{IsChunk}
use Rattle.mcap_model.specs.Kept.{reading_limits, Fits}
use Rattle.mcap_model.specs.Made.{top}
use Rattle.mcap_model.proofs.ShownMessages.{ok_then}
use Rattle.index_check.specs.Chunks.{HasMessage}
use Rattle.file_check.specs.IndexedRecords.{IndexedOf}
use Rattle.file_check.proofs.Answering.{on_both}
use Rattle.file_check.proofs.Flattening.{fits_end}
use Rattle.file_check.proofs.Noted.{with_chunks, with_attachments, with_metadata, indexed_chunk, indexed_index, indexed_attachment, indexed_metadata, indexed_other, length_is, plain_chunk, sized_chunk}
use Rattle.file_check.proofs.indexed_records.IndexedRecords.take.Goals as goal

pub returns-in-Chunk : goal.returns-in-Chunk
returns-in-Chunk c =
    let content = c.args.content.now in
    let t = top 6 content in
    let f = chunk_fields c.in-Chunk.chunk in
    let six = c.in-Chunk.ensures.0 in
    let shown = c.in-Chunk.ensures.1 in
    let is : IsChunk t f = record { kind = refl; layout = shown } in
    on_both _ _ _ c.add.result c.add.ensures.kept c.add.ensures.unnamed (λ kept unnamed tops was fits ends there heard.
    let fitting = subst (λ (n : ℕ). Fits reading_limits tops (top n content)) six fits in
    let hearing = subst (λ (n : ℕ). (c.args.messages ≡ true) ↔ HasMessage (inner_tops (top n content))) six (heard six) in
    subst (λ (n : ℕ). IndexedOf (tops ++ top n content ∷ []) (with_chunks c.args.self.now c.add.new.self)) (sym six)
    (indexed_chunk c.args.offset tops t c.args.self.now c.add.new.self was refl
    (kept tops content was.chunks there (length_is tops t c.framed_length-length.result fitting c.framed_length-length.ensures) shown (plain_chunk tops t f is fitting) (sized_chunk tops t f is fitting) hearing)
    unnamed))

pub returns-in-MessageIndex : goal.returns-in-MessageIndex
returns-in-MessageIndex c =
    let content = c.args.content.now in
    let t = top 7 content in
    let seven = c.in-MessageIndex.ensures.0 in
    ok_then c.add_index.result c.add_index.ensures.kept (λ kept tops was fits ends there heard.
    let fitting = subst (λ (n : ℕ). Fits reading_limits tops (top n content)) seven fits in
    let size = length_is tops t c.framed_length-length.result fitting c.framed_length-length.ensures in
    let end = fits_end tops t fitting in
    let within : c.args.offset + c.framed_length-length.result < 2 ^ 64 = omega (arith, size, end, there) in
    subst (λ (n : ℕ). IndexedOf (tops ++ top n content ∷ []) (with_chunks c.args.self.now c.add_index.new.self)) (sym seven)
    (indexed_index tops t c.args.self.now c.add_index.new.self was refl
    (kept tops content was.chunks (ends seven) there within size c.in-MessageIndex.ensures.1)
    c.add_index.ensures.spots))

pub returns-in-Attachment : goal.returns-in-Attachment
returns-in-Attachment c =
    let content = c.args.content.now in
    let t = top 9 content in
    let nine = c.in-Attachment.ensures.0 in
    on_both _ _ _ c.add-in-Attachment.result c.add-in-Attachment.ensures.kept c.add-in-Attachment.ensures.unnamed (λ kept unnamed tops was fits ends there heard.
    let fitting = subst (λ (n : ℕ). Fits reading_limits tops (top n content)) nine fits in
    subst (λ (n : ℕ). IndexedOf (tops ++ top n content ∷ []) (with_attachments c.args.self.now c.add-in-Attachment.new.self)) (sym nine)
    (indexed_attachment c.args.offset tops t c.args.self.now c.add-in-Attachment.new.self was refl
    (kept tops content was.attachments there (length_is tops t c.framed_length-length.result fitting c.framed_length-length.ensures) c.in-Attachment.ensures.1)
    unnamed))

pub returns-in-Metadata : goal.returns-in-Metadata
returns-in-Metadata c =
    let content = c.args.content.now in
    let t = top 12 content in
    let twelve = c.in-Metadata.ensures.0 in
    on_both _ _ _ c.add-in-Metadata.result c.add-in-Metadata.ensures.kept c.add-in-Metadata.ensures.unnamed (λ kept unnamed tops was fits ends there heard.
    let fitting = subst (λ (n : ℕ). Fits reading_limits tops (top n content)) twelve fits in
    subst (λ (n : ℕ). IndexedOf (tops ++ top n content ∷ []) (with_metadata c.args.self.now c.add-in-Metadata.new.self)) (sym twelve)
    (indexed_metadata c.args.offset tops t c.args.self.now c.add-in-Metadata.new.self was refl
    (kept tops content was.metadata there (length_is tops t c.framed_length-length.result fitting c.framed_length-length.ensures) c.in-Metadata.ensures.1)
    unnamed))

pub returns-in_default : goal.returns-in_default
returns-in_default c = λ tops was fits ends there heard.
    indexed_other tops (top c.args.op c.args.content.now) c.args.self.now was (λ e. search rules) (λ e. search rules) (λ e. search rules) (λ e. search rules)
