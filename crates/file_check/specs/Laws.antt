-- Laws of the limits and compressions at which a check ends.
use Rattle.std.specs.Prelude.{◌≡◌, ◌≤◌, true, ℕ, List, length}
use Rattle.mcap_wire.specs.Layout.{content_limit}
use Rattle.mcap_wire.specs.Limits.{file_limit}
use Rattle.rec_data.specs.declared.owned.Rec.{Rec}
use Rattle.mcap_model.specs.declared.options.FileOptions.{FileOptions}
use Rattle.mcap_model.specs.Places.{Each}
use Rattle.mcap_model.specs.Tops.{Top}
use Rattle.mcap_model.specs.Kept.{reading_limits, is_beyond, compressed}
use Rattle.mcap_model.specs.File.{file_of}
use Rattle.mcap_model.specs.Whole.{StandsAt, IsWhole}
use Rattle.mcap_model.specs.Laws.{IsValid, CanBeWritten}
use Rattle.file_check.specs.Checking.{HaltsBefore, MeetsReadingLimit}

-- a record of the file stands at that offset whose content, or whose end, is past a limit of reading
pub record IsPastLimits (tops : List Top) (offset : ℕ) : Type 0 where
  pub top : Top
  pub at : StandsAt tops offset top
  pub past : is_beyond reading_limits offset (length top.content) ≡ true

-- in a file of whole records a limit is met only at such a record
abbrev pub LimitsAreReal : Type 0
LimitsAreReal = (file : List ℕ) (tops : List Top) (offset : ℕ) → IsWhole file tops → MeetsReadingLimit file offset
    → IsPastLimits tops offset

-- neither a content of the file nor the file itself is longer than what is read
pub record IsShort (file : List ℕ) : Type 0 where
  pub contents : (tops : List Top) → IsWhole file tops → Each (λ t. length t.content ≤ content_limit) tops
  pub whole : length file ≤ file_limit

-- a short file of whole records meets no limit
abbrev pub ShortFilesMeetNoLimit : Type 0
ShortFilesMeetNoLimit = (file : List ℕ) (tops : List Top) (offset : ℕ) → IsWhole file tops → IsShort file
    → MeetsReadingLimit file offset → ⊥

-- nor does a short one that is written
abbrev pub WrittenFilesMeetNoLimit : Type 0
WrittenFilesMeetNoLimit = (options : FileOptions) (extras : List Top) (history : List Rec) (offset : ℕ)
    → CanBeWritten options extras history → IsShort (file_of options extras history)
    → MeetsReadingLimit (file_of options extras history) offset → ⊥

-- no reading of a valid file halts for a compression
abbrev pub CompressionsExcludeValidity : Type 0
CompressionsExcludeValidity =
    (file name : List ℕ) (offset : ℕ) → HaltsBefore file (compressed offset name) → IsValid file → ⊥
