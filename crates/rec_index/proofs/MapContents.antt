-- A Message Index, a Chunk Index and a Statistics that are shown are not refused, and what is framed are their fields.
use Rattle.std.proofs.Common.{◌≡◌, ℕ, ◌+◌, List, [], ◌∷◌, ◌++◌, length, sym, ◌∙◌, append_assoc, arith}
use Rattle.std.proofs.lemmas.List.{append-nil, length-append}
use Rattle.std.specs.Prelude.{Result, IfErr, OnErr}
use Rattle.mcap_wire.specs.Arrays.{entry_texts, array_text}
use Rattle.mcap_wire.specs.Layout.{le, string, framed}
use Rattle.mcap_wire.proofs.Numbers.{length-le}
use Rattle.mcap_wire.proofs.Framing.{head_and_content}
use Rattle.mcap_wire.proofs.Contents.{not_refused}
use Rattle.mcap_wire.specs.declared.faults.Bad.{Bad}
use Rattle.rec_index.specs.Fields.{ChunkIndexFields, StatisticsFields}
use Rattle.rec_index.specs.Records.{message_index_kinds, message_index_values, ShowsMessageIndex, chunk_index_opcode, chunk_index_kinds, chunk_index_values, chunk_index_text, ShowsChunkIndex, statistics_opcode, statistics_kinds, statistics_values, statistics_text, ShowsStatistics}
use Rattle.rec_index.specs.RecordReading.{MessageIndexFails, ChunkIndexFails, StatisticsFails}
use Rattle.mcap_wire.proofs.Contents.{refused}

-- nine parts that are appended one by one
nine_appended : (old a b c d e f g h i : List ℕ) → ((((((((old ++ a) ++ b) ++ c) ++ d) ++ e) ++ f) ++ g) ++ h) ++ i ≡ old ++ (a ++ (b ++ (c ++ (d ++ (e ++ (f ++ (g ++ (h ++ (i ++ [])))))))))
nine_appended old a b c d e f g h i = simp (append_assoc, append-nil)

-- ---- Message Index

pub message_index_none : {T : Type 0} (content : List ℕ) (r : Result T Bad) → IfErr r (λ bad. MessageIndexFails content bad.field bad.why) → OnErr r ((channel_id : ℕ) (entries : List (ℕ × ℕ)) → ShowsMessageIndex content channel_id entries → ⊥)
message_index_none content r fails =
    refused message_index_kinds content r
    (λ field why bad channel_id entries shows. not_refused message_index_kinds content field why bad (message_index_values channel_id entries) shows.0 shows.1)
    fails

-- ---- Chunk Index

pub chunk_index_none : {T : Type 0} (content : List ℕ) (r : Result T Bad) → IfErr r (λ bad. ChunkIndexFails content bad.field bad.why) → OnErr r ((f : ChunkIndexFields) → ShowsChunkIndex content f → ⊥)
chunk_index_none content r fails =
    refused chunk_index_kinds content r
    (λ field why bad f shows. not_refused chunk_index_kinds content field why bad (chunk_index_values f) shows.0 shows.1)
    fails

length-chunk_index_text : (f : ChunkIndexFields) → length (chunk_index_text f) ≡ 64 + length (entry_texts 2 f.indexes) + length f.compression
length-chunk_index_text f =
    simp (length-append, length-le) (omega arith)

-- a Chunk Index that is written field by field
pub chunk_index_framed : (old : List ℕ) (len : ℕ) (f : ChunkIndexFields) → len ≡ 64 + length (entry_texts 2 f.indexes) + length f.compression
    → (((((((((old ++ chunk_index_opcode ∷ le 8 len) ++ le 8 f.start) ++ le 8 f.end) ++ le 8 f.offset) ++ le 8 f.size) ++ array_text 2 f.indexes) ++ le 8 f.indexes_size) ++ string f.compression) ++ le 8 f.compressed) ++ le 8 f.uncompressed
    ≡ old ++ framed chunk_index_opcode (chunk_index_text f)
chunk_index_framed old len f is =
    nine_appended (old ++ chunk_index_opcode ∷ le 8 len) (le 8 f.start) (le 8 f.end) (le 8 f.offset) (le 8 f.size) (array_text 2 f.indexes) (le 8 f.indexes_size) (string f.compression) (le 8 f.compressed) (le 8 f.uncompressed)
    ∙ head_and_content old (chunk_index_text f) chunk_index_opcode len
    (is ∙ sym (length-chunk_index_text f))

-- ---- Statistics

pub statistics_none : {T : Type 0} (content : List ℕ) (r : Result T Bad) → IfErr r (λ bad. StatisticsFails content bad.field bad.why) → OnErr r ((f : StatisticsFields) → ShowsStatistics content f → ⊥)
statistics_none content r fails =
    refused statistics_kinds content r
    (λ field why bad f shows. not_refused statistics_kinds content field why bad (statistics_values f) shows.0 shows.1)
    fails

length-statistics_text : (f : StatisticsFields) → length (statistics_text f) ≡ 46 + length (entry_texts 2 f.counts)
length-statistics_text f =
    simp (length-append, length-le) (omega arith)

-- a Statistics that is written field by field
pub statistics_framed : (old : List ℕ) (len : ℕ) (f : StatisticsFields) → len ≡ 46 + length (entry_texts 2 f.counts)
    → (((((((((old ++ statistics_opcode ∷ le 8 len) ++ le 8 f.messages) ++ le 2 f.schemas) ++ le 4 f.channels) ++ le 4 f.attachments) ++ le 4 f.metadata) ++ le 4 f.chunks) ++ le 8 f.start) ++ le 8 f.end) ++ array_text 2 f.counts
    ≡ old ++ framed statistics_opcode (statistics_text f)
statistics_framed old len f is =
    nine_appended (old ++ statistics_opcode ∷ le 8 len) (le 8 f.messages) (le 2 f.schemas) (le 4 f.channels) (le 4 f.attachments) (le 4 f.metadata) (le 4 f.chunks) (le 8 f.start) (le 8 f.end) (array_text 2 f.counts)
    ∙ head_and_content old (statistics_text f) statistics_opcode len
    (is ∙ sym (length-statistics_text f))
