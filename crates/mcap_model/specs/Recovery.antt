-- What holds of what repairing makes of a file.
use Rattle.std.specs.Prelude.{◌≡◌, ◌↔◌, ℕ, ◌^◌, ◌<◌, ◌≤◌, List, [], ◌∷◌, ◌++◌, length, take, filter, Some}
use Rattle.std.specs.List.{AllZip, flat_map}
use Rattle.mcap_wire.specs.Limits.{chunk_size_limit, block_limit, file_limit}
use Rattle.rec_data.specs.declared.owned.Rec.{Rec}
use Rattle.rec_data.specs.Owned.{rec_bytes}
use Rattle.rec_data.specs.Records.{attachment_opcode, metadata_opcode}
use Rattle.mcap_model.specs.declared.options.FileOptions.{FileOptions}
use Rattle.mcap_model.specs.Places.{At}
use Rattle.mcap_model.specs.Tops.{Top, Tops, offset_behind}
use Rattle.mcap_model.specs.Rules.{V1}
use Rattle.mcap_model.specs.Kept.{Good, Kept, Halts, reading_limits, at_end, grammar}
use Rattle.mcap_model.specs.Scan.{Seen, Scan}
use Rattle.mcap_model.specs.History.{is_message, body_of, extras_in, without_repeats}
use Rattle.mcap_model.specs.Blocks.{Piece, block, alone, pieces_of, blocks_in, chunk_bytes, pieces_bytes}
use Rattle.mcap_model.specs.File.{front, section, file_of, IsPrefix}
use Rattle.mcap_model.specs.Whole.{count_of}
use Rattle.mcap_model.specs.Laws.{HoldsSeen, CanBeWritten, CanBeRead}
use Rattle.mcap_model.specs.Repaired.{Repairs, Repaired}
use Rattle.mcap_model.specs.declared.rules.Rule.TheVariants as rules

-- a first part of a list
abbrev pub IsFirstOf : {X : Type 0} → List X → List X → Type 0
IsFirstOf {X} some whole = (rest : List X) × (some ++ rest ≡ whole)

-- Of records that are a good list a file can be written as they are repaired, with a chunk size, where the numbers that
-- a writer counts are within their limits.
abbrev pub RepairsCanBeWritten : Type 0
RepairsCanBeWritten = (options : FileOptions) (tops extras : List Top) (history : List Rec) (size : ℕ)
    → Good reading_limits tops → Repairs tops options.profile extras history → options.chunk ≡ Some size → 0 < size
    → size ≤ chunk_size_limit → length (blocks_in (pieces_of options.chunk options.span history)) ≤ block_limit
    → length (file_of options extras history) ≤ file_limit → count_of attachment_opcode extras < 2 ^ 32
    → count_of metadata_opcode extras < 2 ^ 32 → CanBeWritten options extras history

-- The messages of what is repaired are those of the scan of the records, all of them, in order.
abbrev pub RepairsKeepMessages : Type 0
RepairsKeepMessages = (tops extras : List Top) (profile : List ℕ) (history : List Rec) (messages : List Seen)
    → Good reading_limits tops → Repairs tops profile extras history → Scan tops messages
    → AllZip HoldsSeen (filter is_message history) messages

-- Of the first ones of some records repairing makes first parts, with the same profile behind the first record.
abbrev pub RepairsGoOn : Type 0
RepairsGoOn = (tops more extras others : List Top) (profile other : List ℕ) (history later : List Rec)
    → Repairs tops profile extras history → Repairs (tops ++ more) other others later
    → IsFirstOf extras others × IsFirstOf history later × ((tops ≡ [] → ⊥) → profile ≡ other)

-- Good records with which bytes begin behind their magic are the first that are kept of these.
abbrev pub GoodRecordsAreKept : Type 0
GoodRecordsAreKept = (bytes : List ℕ) (tops kept : List Top) (rest : List ℕ) → Tops bytes tops rest
    → Good reading_limits tops → Kept reading_limits bytes kept → IsFirstOf tops kept

-- A file is read to its Data End, and repairing makes of it what it was written of, without what declares an id again;
-- the extras of the history come before those behind it.
abbrev pub FilesAreRepaired : Type 0
FilesAreRepaired = (options : FileOptions) (extras : List Top) (history : List Rec)
    → CanBeWritten options extras history → CanBeRead options extras history
    → (tops : List Top) × (end : ℕ) × Halts reading_limits (file_of options extras history) tops (at_end end)
    × Repairs tops options.profile (extras_in history ++ extras) (without_repeats (body_of history))

-- ---- a first part of a file

-- the records that a piece was made of
abbrev pub piece_records : Piece → List Rec
piece_records (block records) = records
piece_records (alone r) = r ∷ []

-- the bytes of a piece up to the end of its records: its Chunk, or the record itself
abbrev pub bytes_with_records : Piece → List ℕ
bytes_with_records (block records) = chunk_bytes records
bytes_with_records (alone r) = rec_bytes r

-- the offset behind the records of a piece, which stands behind these others
abbrev pub offset_behind_piece : FileOptions → List Piece → Piece → ℕ
offset_behind_piece options before p = length (front options.profile ++ (pieces_bytes before ++ bytes_with_records p))

-- What repairing makes of a first part of a file. Its whole records are the first ones of the file's up to the Data End,
-- and its reading halts behind them: at the Data End if that is there, and else because the bytes are cut short. It has
-- the profile if the Header is whole there; of the pieces those whose records are whole there, whether or not their
-- Message Indexes are; and of the extras behind the pieces those that are whole there.
pub record FrontIsRepaired (options : FileOptions) (extras : List Top) (history : List Rec) (some : List ℕ)
    : Type 0 where
  pub whole : List Top
  pub others : List Top
  pub read : Halts reading_limits (file_of options extras history) (whole ++ others)
      (at_end (offset_behind (whole ++ others)))
  pub within : offset_behind whole ≤ length some
  pub cut : (t : Top) (more : List Top) → others ≡ t ∷ more → length some < offset_behind (whole ++ t ∷ [])
  pub complete : others ≡ [] → Halts reading_limits some whole (at_end (offset_behind whole))
  pub short : (others ≡ [] → ⊥) → Halts reading_limits some whole (grammar (offset_behind whole) rules.V4)
  pub profile : List ℕ
  pub kept : List Top
  pub first : List Rec
  pub repaired : Repaired some profile kept first
  pub header : length (front options.profile) ≤ length some → profile ≡ options.profile
  pub no_header : length some < length (front options.profile) → profile ≡ []
  pub piece_count : ℕ
  pub first_is : first ≡ without_repeats (body_of
      (flat_map piece_records (take piece_count (pieces_of options.chunk options.span history))))
  pub pieces_are : (n : ℕ) (p : Piece) → At (pieces_of options.chunk options.span history) n p
      → (n < piece_count)
      ↔ (offset_behind_piece options (take n (pieces_of options.chunk options.span history)) p ≤ length some)
  pub extra_count : ℕ
  pub kept_is : kept ≡ extras_in
      (flat_map piece_records (take piece_count (pieces_of options.chunk options.span history)))
      ++ take extra_count extras
  pub extras_are : (n : ℕ) (t : Top) → At extras n t
      → (n < extra_count) ↔ (length (section options (take n extras ++ t ∷ []) history) ≤ length some)

-- of a first part of a file that holds the magic just what is whole there is kept
abbrev pub FrontsAreRepaired : Type 0
FrontsAreRepaired = (options : FileOptions) (some : List ℕ) (extras : List Top) (history : List Rec)
    → CanBeWritten options extras history → CanBeRead options extras history
    → IsPrefix some (file_of options extras history) → V1 some → FrontIsRepaired options extras history some
