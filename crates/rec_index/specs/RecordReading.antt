-- Why the content of a record of the summary can't be read; and what only writers and readers speak of.
use Rattle.std.specs.Prelude.{ℕ, List}
use Rattle.mcap_wire.specs.declared.faults.Why.{Why}
use Rattle.mcap_wire.specs.ContentReading.{Fails}
use Rattle.rec_index.specs.Records.{summary_offset_kinds, metadata_index_kinds, attachment_index_kinds, chunk_kinds, message_index_kinds, chunk_index_kinds, statistics_kinds}

-- the first of its fields that can't be read
abbrev pub SummaryOffsetFails : List ℕ → ℕ → Why → Type 0
SummaryOffsetFails content field why = Fails summary_offset_kinds content field why

-- the first of its fields that can't be read
abbrev pub MetadataIndexFails : List ℕ → ℕ → Why → Type 0
MetadataIndexFails content field why = Fails metadata_index_kinds content field why

-- the first of its fields that can't be read
abbrev pub AttachmentIndexFails : List ℕ → ℕ → Why → Type 0
AttachmentIndexFails content field why = Fails attachment_index_kinds content field why

-- the first of its fields that can't be read
abbrev pub ChunkFails : List ℕ → ℕ → Why → Type 0
ChunkFails content field why = Fails chunk_kinds content field why

-- the first of its fields that can't be read
abbrev pub MessageIndexFails : List ℕ → ℕ → Why → Type 0
MessageIndexFails content field why = Fails message_index_kinds content field why

-- the first of its fields that can't be read
abbrev pub ChunkIndexFails : List ℕ → ℕ → Why → Type 0
ChunkIndexFails content field why = Fails chunk_index_kinds content field why

-- the first of its fields that can't be read
abbrev pub StatisticsFails : List ℕ → ℕ → Why → Type 0
StatisticsFails content field why = Fails statistics_kinds content field why
