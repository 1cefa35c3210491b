-- What holds of the definitions.
use Rattle.std.specs.Prelude.{◌≡◌, ◌⊎◌, ◌↔◌, ℕ, suc, ◌^◌, ◌<◌, List, [], ◌∷◌, ◌++◌, length, Bool, true, false, ◌≤◌, take, filter, map, Option, Some, None, IsUtf8}
use Rattle.std.specs.List.{AllZip}
use Rattle.mcap_wire.specs.Layout.{content_limit}
use Rattle.mcap_wire.specs.Limits.{chunk_size_limit, file_limit}
use Rattle.rec_data.specs.Records.{header_text, header_opcode, attachment_opcode, metadata_opcode}
use Rattle.rec_data.specs.declared.owned.Rec.{Rec}
use Rattle.rec_data.specs.Owned.{rec_text}
use Rattle.rec_index.specs.Records.{attachment_index_text, metadata_index_text, chunk_opcode, message_index_opcode}
use Rattle.mcap_model.specs.declared.replay.Range.{Range}
use Rattle.mcap_model.specs.declared.options.FileOptions.{FileOptions}
use Rattle.mcap_model.specs.Places.{Has, Each, EachBehind}
use Rattle.mcap_model.specs.Tops.{Top, Tops, top_bytes, offset_behind, spelled, begins_record, records_in, chunk_records, inner_tops, flat}
use Rattle.mcap_model.specs.Fields.{SchemaFields, ChunkFields, IsChunk, IsMessageIndex, AttachmentFields, IsAttachment, IsMetadata}
use Rattle.mcap_model.specs.Rules.{V1, HasDataEnd, V6, V8, Agrees}
use Rattle.mcap_model.specs.Kept.{Limits, Good, Kept, Halt, HaltsThere, Halts, reading_limits, at_end, grammar}
use Rattle.mcap_model.specs.Readings.{SameHalt}
use Rattle.mcap_model.specs.Scan.{Seen, Scan, InRange, Replay}
use Rattle.mcap_model.specs.History.{schema_of, message_of, is_message, is_inner, body_of, Numbered, history_bytes, rec_top, extras_in, without_repeats}
use Rattle.mcap_model.specs.Histories.{flat_history, Ripens, AreBlocks, StandInTurn, pieces_by, IdsAgree}
use Rattle.mcap_model.specs.Blocks.{Piece, block, alone, chunk_content, entries_for, index_content, logged_channels, is_ripe, blocks_in, pieces_of}
use Rattle.mcap_model.specs.Summary.{messages_on, attachment_index_content, metadata_index_content}
use Rattle.mcap_model.specs.AttachmentIndexes.{indexed_attachment}
use Rattle.mcap_model.specs.declared.ends.Stop.{Stop}
use Rattle.mcap_model.specs.File.{library, file_of, IsPrefix}
use Rattle.mcap_model.specs.Pieces.{joined, file_pieces, StoppedAt}
use Rattle.mcap_model.specs.Whole.{count_of, IsWhole}
use Rattle.mcap_model.specs.Valid.{IsFullyIndexed, Flaw, Valid}
use Rattle.mcap_model.specs.Repaired.{Repaired}
use Rattle.mcap_model.specs.Led.{Led, LedReplay}
use Rattle.mcap_model.specs.declared.rules.Rule.{Rule}
use Rattle.mcap_model.specs.declared.rules.Rule.TheVariants as rules
use Rattle.mcap_model.specs.ReadBack.{IsReadBack, IsExtra}

abbrev pub IsValid : List ℕ → Type 0
IsValid file = (tops : List Top) × Valid file tops

-- a record that is found where it stands: its opcode isn't 0, and its length can be declared
pub record IsFound (t : Top) : Type 0 where
  pub valid : t.op ≡ 0 → ⊥
  pub short : length t.content < 2 ^ 64

-- what stands in front in a good list is a good list
abbrev pub GoodFromTheFront : Type 0
GoodFromTheFront = (limits : Limits) (tops more : List Top) → Good limits (tops ++ more) → Good limits tops

-- bytes have one longest good list, and a reading of them halts at one place, for one reason but for the rule
abbrev pub ReadingsHaltOnce : Type 0
ReadingsHaltOnce = (bytes : List ℕ) (tops others : List Top) (a b : Halt)
    → Halts reading_limits bytes tops a → Halts reading_limits bytes others b → (tops ≡ others) × SameHalt a b

-- bytes have one longest good list, wherever and why ever a reading of them halts
abbrev pub KeptIsOne : Type 0
KeptIsOne = (bytes : List ℕ) (tops others : List Top) → Kept reading_limits bytes tops
    → Kept reading_limits bytes others → tops ≡ others

-- where good records end with a Data End, or what follows them halts the reading, they are the longest good list
abbrev pub HaltsAreLast : Type 0
HaltsAreLast = (bytes : List ℕ) (tops : List Top) (rest : List ℕ) (halt : Halt) → Tops bytes tops rest
    → Good reading_limits tops → HasDataEnd tops ⊎ HaltsThere reading_limits tops rest halt
    → Kept reading_limits bytes tops

-- Some bytes that hold the magic keep these records, the first of others: all of them, up to the Data End; or those
-- that are whole in the bytes, where the next one is cut short.
pub record KeepsWhole (front : List ℕ) (tops : List Top) : Type 0 where
  pub whole : List Top
  pub others : List Top
  pub joined : tops ≡ whole ++ others
  pub halts : ((others ≡ []) × Halts reading_limits front whole (at_end (offset_behind whole)))
      ⊎ ((length front < offset_behind tops)
      × Halts reading_limits front whole (grammar (offset_behind whole) rules.V4))

-- a front of bytes with good records up to the Data End keeps those of them that are whole in it
abbrev pub FrontsKeepWhole : Type 0
FrontsKeepWhole = (bytes front behind : List ℕ) (tops : List Top) (rest : List ℕ) → Tops bytes tops rest
    → Good reading_limits tops → HasDataEnd tops → bytes ≡ front ++ behind → 8 ≤ length front → KeepsWhole front tops

-- the records that some bytes spell are those that are found in them, up to where no whole record begins
abbrev pub RecordsAreFound : Type 0
RecordsAreFound = (records : List Top) (rest : List ℕ) → Each IsFound records → begins_record rest ≡ false
    → records_in (spelled records ++ rest) ≡ records

-- what a chunk shows as its records are those that its content holds
abbrev pub ChunksAreOpened : Type 0
ChunksAreOpened = (t : Top) (f : ChunkFields) → IsChunk t f → chunk_records t.content ≡ f.records

-- the record is that message
abbrev pub HoldsSeen : Rec → Seen → Type 0
HoldsSeen r s = r ≡ message_of s.channel s.message

-- a Schema has an id
abbrev pub IsNumberedRec : Rec → Type 0
IsNumberedRec r = (id : ℕ) (f : SchemaFields) → r ≡ schema_of id f → id ≡ 0 → ⊥

abbrev pub chunk_top : List Rec → Top
chunk_top history = record { op = chunk_opcode; content = chunk_content history }

-- the record is no extra
abbrev pub IsInner : Rec → Type 0
IsInner r = is_inner r ≡ true

-- the Chunk that is written of records without extras is right, and its records are theirs
abbrev pub ChunksAreWritten : Type 0
ChunksAreWritten = (history : List Rec) → Each IsReadBack history → Each (λ r. length (rec_text r) < 2 ^ 64) history
    → Each IsNumberedRec history → Each IsInner history → length (history_bytes history) < 2 ^ 64
    → (inner_tops (chunk_top history) ≡ map rec_top history) × V6 (chunk_top history) × V8 (chunk_top history)

-- a Message Index of a block
abbrev pub index_top : List Rec → ℕ → Top
index_top records channel = record { op = message_index_opcode; content = index_content records channel }

-- the Message Indexes that are written of records are those of their channels, and have their entries
abbrev pub IndexesAreWritten : Type 0
IndexesAreWritten = (records : List Rec) → Each IsReadBack records → length (history_bytes records) < 2 ^ 32
    → Each (λ channel. IsMessageIndex (index_top records channel) channel (entries_for records channel))
    (logged_channels records)

-- what is indexed of an Attachment, and of a Metadata, is what it shows
abbrev pub ExtrasAreIndexed : Type 0
ExtrasAreIndexed = ((offset : ℕ) (t : Top) (f : AttachmentFields) → IsAttachment t f
    → attachment_index_content (offset, t) ≡ attachment_index_text (indexed_attachment offset t f))
    × ((offset : ℕ) (t : Top) (name : List ℕ) (metadata : List (List ℕ × List ℕ)) → IsMetadata t name metadata
    → metadata_index_content (offset, t)
    ≡ metadata_index_text (record { offset = offset; size = length (top_bytes t); name = name }))

-- a replay of some messages is one list
abbrev pub ReplaysAreOne : Type 0
ReplaysAreOne = (range : Range) (topic : Option (List ℕ)) (messages one other : List Seen)
    → Replay range topic messages one → Replay range topic messages other → one ≡ other

-- a history without its extras is cut into blocks in one way, which is that of its pieces
abbrev pub BlocksAreOne : Type 0
BlocksAreOne = (ripe : List Rec → Bool) (history : List Rec) → Ripens ripe
    → AreBlocks ripe (body_of history) (blocks_in (pieces_by ripe history))
    × ((blocks : List (List Rec)) → AreBlocks ripe (body_of history) blocks
    → blocks ≡ blocks_in (pieces_by ripe history))

-- its extras and its blocks stand in the order of their places, an extra at its own and a ripe block at that of its
-- last record; a last block that isn't ripe stands behind them
abbrev pub PiecesStandInTurn : Type 0
PiecesStandInTurn = (ripe : List Rec → Bool) (history : List Rec) (place : ℕ) → Ripens ripe
    → StandInTurn ripe history (pieces_by ripe history) place

-- and no other pieces stand so
abbrev pub PiecesAreOne : Type 0
PiecesAreOne = (ripe : List Rec → Bool) (history : List Rec) (pieces : List Piece) → Ripens ripe
    → ((place : ℕ) → StandInTurn ripe history pieces place) → pieces ≡ pieces_by ripe history

-- without a chunk size each record is a piece, whatever the span
abbrev pub PlainPiecesAreRecords : Type 0
PlainPiecesAreRecords =
    (span : Option ℕ) (history : List Rec) → pieces_of None span history ≡ map alone history

-- a chunk size, with a span or none, makes such blocks
abbrev pub SizesRipen : Type 0
SizesRipen = (size : ℕ) (span : Option ℕ) → 0 < size → Ripens (is_ripe size span)
    × ((history : List Rec) → pieces_of (Some size) span history ≡ pieces_by (is_ripe size span) history)

-- the flat records of a good list meet their layouts, and each agrees with those before it
abbrev pub GoodListsAgree : Type 0
GoodListsAgree =
    (limits : Limits) (tops : List Top) → Good limits tops → Each V6 (flat tops) × EachBehind Agrees (flat tops)

-- a good list has one scan
abbrev pub GoodListsAreScanned : Type 0
GoodListsAreScanned = (limits : Limits) (tops : List Top) → Good limits tops
    → (messages : List Seen) × Scan tops messages × ((others : List Seen) → Scan tops others → others ≡ messages)

-- ---- what a file is written of

-- each channel has so few messages in a block that the entries of its Message Index fit behind a length of four bytes
abbrev pub EntriesFit : List Rec → Type 0
EntriesFit records = Each (λ channel. messages_on records channel < 2 ^ 28) (logged_channels records)

-- Records and extras of which a file can be written: the ids agree, the extras, those among the records too, meet their
-- rules, and each number that the file holds fits its field. Offsets, lengths and counts of messages do where the length
-- of the file does.
pub record CanBeWritten (options : FileOptions) (extras : List Top) (history : List Rec) : Type 0 where
  pub profile : IsUtf8 options.profile
  pub profile_fits : length options.profile < 2 ^ 32
  pub records_fit : Each IsReadBack history
  pub numbered : Each IsNumberedRec history
  pub ids_agree : IdsAgree history
  pub extras_meet : Each IsExtra (extras_in history ++ extras)
  pub entries_fit : Each EntriesFit (blocks_in (pieces_of options.chunk options.span history))
  pub few_blocks : length (blocks_in (pieces_of options.chunk options.span history)) < 2 ^ 32
  pub few_attachments : count_of attachment_opcode (extras_in history ++ extras) < 2 ^ 32
  pub few_metadata : count_of metadata_opcode (extras_in history ++ extras) < 2 ^ 32
  pub size_fits : length (file_of options extras history) < 2 ^ 64

-- the content that is written of a piece may be read; a Message Index is shorter than its chunk
abbrev pub PieceIsShort : Piece → Type 0
PieceIsShort (alone r) = length (rec_text r) ≤ content_limit
PieceIsShort (block records) = length (chunk_content records) ≤ content_limit

-- no content up to the Data End, and not the file, is longer than what is read
pub record CanBeRead (options : FileOptions) (extras : List Top) (history : List Rec) : Type 0 where
  pub header : length (header_text (record { profile = options.profile; library = library })) ≤ content_limit
  pub pieces : Each PieceIsShort (pieces_of options.chunk options.span history)
  pub extras_short : Each (λ t. length t.content ≤ content_limit) extras
  pub file : length (file_of options extras history) ≤ file_limit

-- the ids of a numbered history agree, and none of its Schemas has the id 0
abbrev pub NumberedIdsAgree : Type 0
NumberedIdsAgree =
    (history : List Rec) → Each IsReadBack history → Numbered history → IdsAgree history × Each IsNumberedRec history

-- so it is without what declares an id again, where there are no extras
abbrev pub RepeatsMayGo : Type 0
RepeatsMayGo = (history : List Rec) → Each IsReadBack history → Each IsNumberedRec history → Each IsInner history
    → IdsAgree history → IdsAgree (without_repeats history) × Each IsReadBack (without_repeats history)
    × Each IsNumberedRec (without_repeats history)

-- bytes decide what is kept of them when they are repaired
abbrev pub RepairsAreOne : Type 0
RepairsAreOne = (bytes profile other_profile : List ℕ) (extras other_extras : List Top)
    (history other_history : List Rec) → Repaired bytes profile extras history
    → Repaired bytes other_profile other_extras other_history
    → (profile ≡ other_profile) × (extras ≡ other_extras) × (history ≡ other_history)

-- no rule fails in a valid file
abbrev pub FlawsExcludeValidity : Type 0
FlawsExcludeValidity = (file : List ℕ) (rule : Rule) (offset : ℕ) → Flaw file rule offset → IsValid file → ⊥

-- a file is read to its Data End, and its messages are those of the history, in order
abbrev pub FilesAreScanned : Type 0
FilesAreScanned = (options : FileOptions) (extras : List Top) (history : List Rec) → IsUtf8 options.profile
    → Each IsReadBack history → Each IsNumberedRec history → IdsAgree history
    → Each IsExtra (extras_in history ++ extras) → CanBeRead options extras history
    → (tops : List Top) × (end : ℕ) × Halts reading_limits (file_of options extras history) tops (at_end end)
    × (flat tops ≡ flat_history history)
    × ((messages : List Seen) → Scan tops messages → AllZip HoldsSeen (filter is_message history) messages)

-- a file that is written is valid
abbrev pub FilesAreValid : Type 0
FilesAreValid = (options : FileOptions) (extras : List Top) (history : List Rec) → CanBeWritten options extras history
    → IsValid (file_of options extras history)

-- with a chunk size it is fully indexed
abbrev pub FilesAreIndexed : Type 0
FilesAreIndexed = (options : FileOptions) (extras : List Top) (history : List Rec) (size : ℕ)
    → options.chunk ≡ Some size → CanBeWritten options extras history → IsFullyIndexed (file_of options extras history)

-- a whole file is one list of records, so it is valid, or fully indexed, with these alone
abbrev pub WholeFilesAreOne : Type 0
WholeFilesAreOne = (file : List ℕ) (tops others : List Top) → IsWhole file tops → IsWhole file others → tops ≡ others

-- in blocks that are cut at a size of at most 64 MiB the entries fit
abbrev pub SmallBlocksFit : Type 0
SmallBlocksFit = (size : ℕ) (span : Option ℕ) (history : List Rec) → 0 < size → size ≤ chunk_size_limit
    → Each EntriesFit (blocks_in (pieces_of (Some size) span history))

-- Where a file is read to its Data End, what is kept of a first part of it that holds the magic are the records up to
-- the Data End that are whole there.
abbrev pub PrefixesAreKept : Type 0
PrefixesAreKept = (bytes some : List ℕ) (tops : List Top) (end : ℕ) → Halts reading_limits bytes tops (at_end end)
    → IsPrefix some bytes → V1 some
    → (k : ℕ) × Kept reading_limits some (take k tops) × (offset_behind (take k tops) ≤ length some)
    × ((k ≡ length tops) ⊎ (length some < offset_behind (take (suc k) tops)))

-- the ids of a history agree where its records are a good list behind a Header
abbrev pub GoodHistoriesAgree : Type 0
GoodHistoriesAgree = (header : Top) (history : List Rec) → Each IsReadBack history → header.op ≡ header_opcode
    → Good reading_limits (header ∷ map rec_top history) → IdsAgree history × Each IsNumberedRec history

-- ---- the pieces of a file

-- a file is its pieces, one behind the other
abbrev pub PiecesMakeFiles : Type 0
PiecesMakeFiles = (options : FileOptions) (extras : List Top) (history : List Rec)
    → joined (file_pieces options extras history) ≡ file_of options extras history

-- what stands where a writer stopped is a first part of all its pieces
abbrev pub StopsLeavePrefixes : Type 0
StopsLeavePrefixes = (pieces : List (List ℕ)) (place : ℕ) (stop : Stop) (text : List ℕ) (bytes : ℕ)
    → StoppedAt pieces place stop text bytes → IsPrefix text (joined pieces)

-- ---- what indexes lead to

-- On a fully indexed file that is read to its Data End the summary leads, in a range, to just those messages of the
-- scan that lie in it, at the same places and with the same topics.
abbrev pub IndexesLeadToTheScan : Type 0
IndexesLeadToTheScan = (file : List ℕ) (tops : List Top) (end : ℕ) (messages : List Seen) (range : Range)
    → IsFullyIndexed file → Halts reading_limits file tops (at_end end) → Scan tops messages → (s : Seen)
    → Led file range s ↔ (Has messages s × InRange range s.message.log_time)

-- so a replay of what the summary leads to is one of the scan, and the other way round
abbrev pub LedReplaysAreScans : Type 0
LedReplaysAreScans = (file : List ℕ) (tops : List Top) (end : ℕ) (messages : List Seen) (range : Range)
    → IsFullyIndexed file → Halts reading_limits file tops (at_end end) → Scan tops messages
    → (topic : Option (List ℕ)) (shown : List Seen)
    → LedReplay file range topic shown ↔ Replay range topic messages shown

-- ---- a rule that holds of any row of whole records

abbrev pub V4 : List ℕ → Type 0
V4 file = (tops : List Top) × IsWhole file tops
