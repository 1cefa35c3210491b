-- Laws of the definitions.
use Rattle.std.specs.Prelude.{ℕ, List}
use Rattle.mcap_model.specs.Valid.{Flaw}
use Rattle.mcap_model.specs.declared.rules.Rule.{Rule}
use Rattle.summary_read.specs.Reached.{FailsAtEnds}

-- a rule that fails on the ends of a file fails there in the whole file
abbrev pub EndsAreFlaws : Type 0
EndsAreFlaws = (file : List ℕ) (rule : Rule) (offset : ℕ) → FailsAtEnds file rule offset → Flaw file rule offset
