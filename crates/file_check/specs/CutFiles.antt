-- What a check tells of a file that lacks one of its magics.
use Rattle.std.specs.Prelude.{◌≡◌, ◌⊎◌, ℕ, List, length, Option, Some, Result, Ok, Err}
use Rattle.mcap_model.specs.declared.checked.Verdict.{Verdict}
use Rattle.mcap_model.specs.declared.checked.Verdict.TheVariants as verdicts
use Rattle.mcap_model.specs.Tops.{Top, Tops}
use Rattle.mcap_model.specs.Rules.{V1}
use Rattle.mcap_model.specs.Kept.{reading_limits, Good, Halt, at_end, grammar, compressed, beyond, Halts}
use Rattle.mcap_model.specs.Whole.{V2, offset_of, V9}
use Rattle.file_check.specs.declared.flaws.FailedRule.{FailedRule}
use Rattle.mcap_model.specs.declared.refusals.ReadingRefused.{ReadingRefused}
use Rattle.mcap_model.specs.declared.refusals.ReadingRefused.TheVariants as refusals
use Rattle.mcap_model.specs.declared.rules.Rule.{Rule}
use Rattle.mcap_model.specs.declared.rules.Rule.TheVariants as rules
use Rattle.file_check.specs.Halting.{lacks_magic, told_cut}
use Rattle.file_check.specs.Checking.{IsFault}
use Rattle.mcap_model.specs.Places.{At}

-- ---- the first magic

-- one of the records breaks V9 at that offset
pub record IndexFails (tops : List Top) (offset : ℕ) : Type 0 where
  pub place : ℕ
  pub top : Top
  pub at : At tops place top
  pub there : offset ≡ offset_of tops place
  pub breaks : V9 tops place top → ⊥

-- V1 fails at the front, unless the store fails
abbrev pub NamesFront : Result Verdict ReadingRefused → Type 0
NamesFront (Ok verdict) = verdict ≡ verdicts.Flawed rules.V1 0
NamesFront (Err why) = IsFault why

-- so it is told of each file without the first magic
abbrev pub TellsUnbegun : Option (List ℕ) → Result Verdict ReadingRefused → Type 0
TellsUnbegun told result = (file : List ℕ) → told ≡ Some file → (V1 file → ⊥) → NamesFront result

-- ---- the last magic

-- The rule that is told of a file of that length, whose reading halts so. Where the data section is whole, and where the
-- reading halts for no rule, the last magic is missing.
abbrev pub rule_told : ℕ → Halt → FailedRule
rule_told len (at_end offset) = lacks_magic len
rule_told len (grammar offset rule) = told_cut len offset rule
rule_told len (compressed offset name) = lacks_magic len
rule_told len (beyond offset) = lacks_magic len

-- the reading of the file halts, and this is told of it
pub record HaltIsTold (file : List ℕ) (rule : Rule) (offset : ℕ) : Type 0 where
  pub tops : List Top
  pub halt : Halt
  pub halts : Halts reading_limits file tops halt
  pub rule_is : rule ≡ (rule_told (length file) halt).rule
  pub offset_is : offset ≡ (rule_told (length file) halt).offset

-- in front of that one of the good records breaks V9 there
pub record IndexIsTold (file : List ℕ) (rule : Rule) (offset : ℕ) : Type 0 where
  pub rule_is : rule ≡ rules.V9
  pub tops : List Top
  pub rest : List ℕ
  pub stand : Tops file tops rest
  pub good : Good reading_limits tops
  pub fails : IndexFails tops offset

-- what ends the data of a file is told, unless the store fails or memory lacks
abbrev pub NamesCut : List ℕ → Result Verdict ReadingRefused → Type 0
NamesCut file (Ok (verdicts.Indexed counts)) = ⊥
NamesCut file (Ok (verdicts.Plain counts)) = ⊥
NamesCut file (Ok (verdicts.Flawed rule offset)) = HaltIsTold file rule offset ⊎ IndexIsTold file rule offset
NamesCut file (Err (refusals.Fault faults)) = Unit {0}
NamesCut file (Err (refusals.Grammar offset rule)) = ⊥
NamesCut file (Err (refusals.Compressed offset name)) = ⊥
NamesCut file (Err (refusals.Limit offset)) = ⊥
NamesCut file (Err refusals.Memory) = Unit {0}

-- so it is of each file that has the first magic, and is too short for both or hasn't the last one
abbrev pub TellsCutFile : Option (List ℕ) → Result Verdict ReadingRefused → Type 0
TellsCutFile told result = (file : List ℕ) → told ≡ Some file → V1 file → (V2 file → ⊥) → NamesCut file result
