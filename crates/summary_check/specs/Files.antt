-- A file whose records up to the Data End are known, and what stands behind them.
use Rattle.std.specs.Prelude.{ℕ, List, ◌++◌}
use Rattle.mcap_wire.specs.Layout.{magic}
use Rattle.mcap_model.specs.Tops.{Top, spelled}
use Rattle.mcap_model.specs.Valid.{Flaw}
use Rattle.mcap_model.specs.declared.refusals.ReadingRefused.{ReadingRefused}
use Rattle.mcap_model.specs.declared.refusals.ReadingRefused.TheVariants as refusals
use Rattle.mcap_model.specs.declared.rules.Rule.{Rule}
use Rattle.summary_check.specs.PassedLimits.{PassesLimit}

-- the file of these records, of the bytes behind them, and of the last magic
abbrev pub spelled_file : List Top → List ℕ → List ℕ
spelled_file tops rest = magic ++ (spelled tops ++ (rest ++ magic))

-- a rule fails there, or a limit is passed there
abbrev pub FailsThere : List ℕ → ReadingRefused → Type 0
FailsThere file (refusals.Fault faults) = ⊥
FailsThere file (refusals.Grammar offset rule) = Flaw file rule offset
FailsThere file (refusals.Compressed offset name) = ⊥
FailsThere file (refusals.Limit offset) = PassesLimit file offset
FailsThere file refusals.Memory = Unit {0}

-- No store is read and no chunk is looked into, so that neither a fault comes nor a compression.
abbrev pub IsOfSummary : ReadingRefused → Type 0
IsOfSummary (refusals.Fault faults) = ⊥
IsOfSummary (refusals.Grammar offset rule) = Unit {0}
IsOfSummary (refusals.Compressed offset name) = ⊥
IsOfSummary (refusals.Limit offset) = Unit {0}
IsOfSummary refusals.Memory = Unit {0}

-- the rule fails at that offset
abbrev pub flawed_at : Rule → ℕ → ReadingRefused
flawed_at rule offset = refusals.Grammar offset rule
