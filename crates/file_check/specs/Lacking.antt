-- How far a check had come where it ran out of memory.
use Rattle.std.specs.Prelude.{◌≡◌, ◌⊎◌, ℕ, ◌+◌, ◌≤◌, List, length, take, drop, Some, Result, Ok, Err}
use Rattle.mcap_io.specs.Stores.{StoreState}
use Rattle.mcap_model.specs.declared.checked.Verdict.{Verdict}
use Rattle.mcap_model.specs.declared.refusals.ReadingRefused.{ReadingRefused}
use Rattle.mcap_model.specs.declared.refusals.ReadingRefused.TheVariants as refusals
use Rattle.mcap_model.specs.Tops.{Top, Tops}
use Rattle.mcap_model.specs.Rules.{HasDataEnd}
use Rattle.mcap_model.specs.Kept.{reading_limits, Good}
use Rattle.mcap_model.specs.Whole.{EndsWithMagic, V9}
use Rattle.mcap_model.specs.Valid.{Keeps}
use Rattle.mcap_scan.specs.Sources.{MemoryLeaves}
use Rattle.index_check.specs.declared.section.Section.{Section}
use Rattle.file_check.specs.declared.flaws.FailedRule.{FailedRule}

-- So many of these bytes are good records, and no more than the next one, in which no flaw, no compression and no limit shows
-- that is told without memory. Good records may break V9: whether they do is known at the last of them.
pub record ReadsNoFlaw (part : List ℕ) (read : ℕ) : Type 0 where
  pub within : read ≤ length part
  pub tops : List Top
  pub good : Good reading_limits tops
  pub leaves : MemoryLeaves part tops (Some (drop read part))

-- the data section keeps all rules of its records, up to and with its Data End, and V9
pub record IsSectionRight (part : List ℕ) : Type 0 where
  pub tops : List Top
  pub rest : List ℕ
  pub stand : Tops part tops rest
  pub good : Good reading_limits tops
  pub ended : HasDataEnd tops
  pub v9 : Keeps V9 tops

-- Of the bytes up to that end the data section is right, and memory lacked for what stands after it; or no more was asked for
-- than so much, which shows no flaw.
abbrev pub LacksUpTo : ℕ → List ℕ → ℕ → ℕ → Type 0
LacksUpTo end file before now = IsSectionRight (take end file)
    ⊎ ((read : ℕ) × ReadsNoFlaw (take end file) read × (now ≤ before + read))

-- where the records of a file end: in front of the last magic, or without one at its end
abbrev pub EndsAt : List ℕ → ℕ → Type 0
EndsAt file end = (EndsWithMagic file × (length file ≡ end + 8)) ⊎ ((EndsWithMagic file → ⊥) × (length file ≡ end))

-- Where a check ran out of memory, its store, which was asked for so much, had shown no flaw, no compression and no limit of
-- the data section. The first and the last eight bytes, for the magics, are asked for besides.
abbrev pub TellsLack : StoreState → ℕ → Result Verdict ReadingRefused → Type 0
TellsLack old asked result = result ≡ Err refusals.Memory → (file : List ℕ) → old.bytes ≡ Some file
    → (end : ℕ) × EndsAt file end × LacksUpTo end file (old.asked + 16) asked

-- ---- the steps

-- where the data section wasn't read for want of memory, so much was asked for
abbrev pub SectionLacks : StoreState → ℕ → ℕ → Result (Result Section FailedRule) ReadingRefused → Type 0
SectionLacks old end asked (Ok it) = Unit {0}
SectionLacks old end asked (Err (refusals.Fault faults)) = Unit {0}
SectionLacks old end asked (Err (refusals.Grammar offset rule)) = Unit {0}
SectionLacks old end asked (Err (refusals.Compressed offset name)) = Unit {0}
SectionLacks old end asked (Err (refusals.Limit offset)) = Unit {0}
SectionLacks old end asked (Err refusals.Memory) = (file : List ℕ) → old.bytes ≡ Some file → end ≤ length file
    → (read : ℕ) × ReadsNoFlaw (take end file) read × (asked ≤ old.asked + read)

-- memory is told only where it lacked before, and nothing was asked for since
abbrev pub LacksAsBefore : ReadingRefused → ℕ → ℕ → Result Verdict ReadingRefused → Type 0
LacksAsBefore why before now result = result ≡ Err refusals.Memory → (why ≡ refusals.Memory) × (now ≤ before)

-- of a store whose records end there, and which was asked for so much
abbrev pub TellsLackUpTo : ℕ → StoreState → ℕ → Result Verdict ReadingRefused → Type 0
TellsLackUpTo end old asked result = result ≡ Err refusals.Memory → (file : List ℕ) → old.bytes ≡ Some file
    → end ≤ length file → LacksUpTo end file old.asked asked
