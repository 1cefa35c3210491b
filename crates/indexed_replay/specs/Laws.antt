-- What holds of the definitions.
use Rattle.std.specs.Prelude.{◌≢◌, ℕ, ◌^◌, ◌<◌, List, length}
use Rattle.rec_data.specs.declared.footer.Footer.{Footer}
use Rattle.mcap_model.specs.declared.replay.Range.{Range}
use Rattle.mcap_model.specs.Places.{At, Each}
use Rattle.mcap_model.specs.Tops.{Top}
use Rattle.mcap_model.specs.Fields.{ChunkIndexFields, IsChunkIndex}
use Rattle.mcap_model.specs.Rules.{V6, V8}
use Rattle.mcap_model.specs.Whole.{IsWhole, StandsAt, V11, V17}
use Rattle.mcap_model.specs.Kept.{reading_limits, at_end, Halts}
use Rattle.mcap_model.specs.Scan.{Seen, Scan}
use Rattle.mcap_model.specs.Valid.{Keeps, IsPlain, Valid, IsFullyIndexed, Flaw}
use Rattle.summary_read.specs.Reached.{HasNoSummary, EndsIn}
use Rattle.summary_read.specs.Loading.{IsLoadRefused}
use Rattle.mcap_model.specs.declared.refusals.ReadingRefused.TheVariants as refusals
use Rattle.mcap_model.specs.declared.refusals.IndexedRefused.{IndexedRefused}
use Rattle.mcap_model.specs.declared.refusals.IndexedRefused.TheVariants as by_index
use Rattle.mcap_model.specs.declared.rules.Rule.{Rule}
use Rattle.indexed_replay.specs.Reaching.{IsTooMuch}
use Rattle.indexed_replay.specs.Replaying.{IsReason}

-- The file is these whole records, of which the last is the only Footer; and what this and the order of the summary say is
-- right (V11).
pub record IsInOrder (file : List ℕ) (tops : List Top) : Type 0 where
  pub whole : IsWhole file tops
  pub footer : V17 tops
  pub order : Keeps V11 tops

-- a rule for which the summary of such a file isn't loaded fails in the file
abbrev pub LoadsTellFlaws : Type 0
LoadsTellFlaws = (file : List ℕ) (tops : List Top) → IsInOrder file tops → length file < 2 ^ 64
    → (rule : Rule) (offset : ℕ) → IsLoadRefused file (by_index.Refused (refusals.Grammar offset rule))
    → Flaw file rule offset

-- Besides no rule fails anywhere: the file is valid, but perhaps for chunks that name a compression.
pub record IsFlawless (file : List ℕ) (tops : List Top) : Type 0 where
  pub ordered : IsInOrder file tops
  pub none : (rule : Rule) (offset : ℕ) → Flaw file rule offset → ⊥

abbrev pub ValidFilesAreFlawless : Type 0
ValidFilesAreFlawless = (file : List ℕ) (tops : List Top) → Valid file tops → IsFlawless file tops

-- the store failed, a limit is passed, or memory lacked
abbrev pub IsOutside : IndexedRefused → Type 0
IsOutside (by_index.NotIndexed why) = ⊥
IsOutside (by_index.Refused (refusals.Fault faults)) = Unit {0}
IsOutside (by_index.Refused (refusals.Grammar offset rule)) = ⊥
IsOutside (by_index.Refused (refusals.Compressed offset name)) = ⊥
IsOutside (by_index.Refused (refusals.Limit offset)) = Unit {0}
IsOutside (by_index.Refused refusals.Memory) = Unit {0}

-- a file in which no rule fails and whose Footer names a summary isn't refused for what stands in it
abbrev pub FlawlessFilesAreLoaded : Type 0
FlawlessFilesAreLoaded = (file : List ℕ) (tops : List Top) (footer : Footer) → IsFlawless file tops
    → length file < 2 ^ 64 → EndsIn file footer → footer.summary_start ≢ 0 → (why : IndexedRefused)
    → IsLoadRefused file why → IsOutside why

-- Besides each content can be read (V6), each chunk is right (V8), and none names a compression; and where a Chunk Index leads
-- to, a record of the file stands.
pub record IsReadable (file : List ℕ) (tops : List Top) : Type 0 where
  pub ordered : IsInOrder file tops
  pub layouts : Each V6 tops
  pub chunks : Each V8 tops
  pub plain : Each IsPlain tops
  pub lead : (n : ℕ) (t : Top) (f : ChunkIndexFields) → At tops n t → IsChunkIndex t f
      → (c : Top) × StandsAt tops f.offset c

-- a rule for which such a file isn't replayed by its index fails in the file, unless it has no summary
abbrev pub ReplaysTellFlaws : Type 0
ReplaysTellFlaws = (file : List ℕ) (tops : List Top) (range : Range) → IsReadable file tops → (HasNoSummary file → ⊥)
    → length file < 2 ^ 64 → (rule : Rule) (offset : ℕ)
    → IsReason file range (by_index.Refused (refusals.Grammar offset rule)) → Flaw file rule offset

-- the messages of a fully indexed file that is read to its Data End are never too much
abbrev pub FullFilesHaveRoom : Type 0
FullFilesHaveRoom = (file : List ℕ) (tops : List Top) (end : ℕ) (messages : List Seen) (range : Range) (offset : ℕ)
    → IsFullyIndexed file → Halts reading_limits file tops (at_end end) → Scan tops messages
    → IsTooMuch file range offset → ⊥
