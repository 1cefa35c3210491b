-- What a check of a file comes to.
use Rattle.std.specs.Prelude.{◌≡◌, ◌⊎◌, ℕ, ◌+◌, List, ◌++◌, Option, Some, Result, Ok, Err}
use Rattle.mcap_wire.specs.Layout.{magic}
use Rattle.mcap_io.specs.Outside.{RisesOnce}
use Rattle.mcap_model.specs.declared.checked.Counts.{Counts}
use Rattle.mcap_model.specs.declared.checked.Verdict.{Verdict}
use Rattle.mcap_model.specs.declared.checked.Verdict.TheVariants as verdicts
use Rattle.mcap_model.specs.Tops.{Top}
use Rattle.mcap_model.specs.Kept.{reading_limits, Halt, compressed, beyond, Halts}
use Rattle.mcap_model.specs.Valid.{Valid, IsFullyIndexed, FullyIndexed, CountsAre, Flaw}
use Rattle.mcap_model.specs.declared.refusals.ReadingRefused.{ReadingRefused}
use Rattle.mcap_model.specs.declared.refusals.ReadingRefused.TheVariants as refusals
use Rattle.summary_check.specs.PassedLimits.{PassesLimit}

-- the numbers of the data section
abbrev pub CountsSection : List Top → Counts → Type 0
CountsSection tops c = CountsAre tops c.messages c.channels c.schemas c.chunks c.attachments c.metadata

-- what a verdict says of a file
abbrev pub IsSo : List ℕ → Verdict → Type 0
IsSo file (verdicts.Indexed counts) = (tops : List Top) × FullyIndexed file tops × CountsSection tops counts
IsSo file (verdicts.Plain counts) =
    (tops : List Top) × Valid file tops × (IsFullyIndexed file → ⊥) × CountsSection tops counts
IsSo file (verdicts.Flawed rule offset) = Flaw file rule offset

-- a reading of the records in front of the last magic halts so
abbrev pub HaltsBefore : List ℕ → Halt → Type 0
HaltsBefore file halt =
    (inner : List ℕ) × (tops : List Top) × (file ≡ inner ++ magic) × Halts reading_limits inner tops halt

-- a record in front of the last magic passes a limit of reading there, or one behind the data section that on its content
abbrev pub MeetsReadingLimit : List ℕ → ℕ → Type 0
MeetsReadingLimit file offset = HaltsBefore file (beyond offset) ⊎ PassesLimit file offset

-- why a file isn't checked; what breaks a rule is a verdict
abbrev pub IsUnchecked : List ℕ → ReadingRefused → Type 0
IsUnchecked file (refusals.Fault faults) = Unit {0}
IsUnchecked file (refusals.Grammar offset rule) = ⊥
IsUnchecked file (refusals.Compressed offset name) = HaltsBefore file (compressed offset name)
IsUnchecked file (refusals.Limit offset) = MeetsReadingLimit file offset
IsUnchecked file refusals.Memory = Unit {0}

abbrev pub Checked : List ℕ → Result Verdict ReadingRefused → Type 0
Checked file (Ok verdict) = IsSo file verdict
Checked file (Err why) = IsUnchecked file why

-- where the store tells its bytes, these are the file
abbrev pub Checks : Option (List ℕ) → Result Verdict ReadingRefused → Type 0
Checks told result = (file : List ℕ) → told ≡ Some file → Checked file result

-- a fault comes where the store failed, and has the count; otherwise the count stands still. A rule is never the reason.
abbrev pub CheckCause : {V : Type 0} → ℕ → ℕ → Result V ReadingRefused → Type 0
CheckCause before now (Ok it) = now ≡ before
CheckCause before now (Err (refusals.Fault faults)) = RisesOnce before now × (faults ≡ now)
CheckCause before now (Err (refusals.Grammar offset rule)) = ⊥
CheckCause before now (Err (refusals.Compressed offset name)) = now ≡ before
CheckCause before now (Err (refusals.Limit offset)) = now ≡ before
CheckCause before now (Err refusals.Memory) = now ≡ before

-- ---- the steps

-- it is for a fault of the store
abbrev pub IsFault : ReadingRefused → Type 0
IsFault (refusals.Fault faults) = Unit {0}
IsFault (refusals.Grammar offset rule) = ⊥
IsFault (refusals.Compressed offset name) = ⊥
IsFault (refusals.Limit offset) = ⊥
IsFault refusals.Memory = ⊥

-- ---- what is asked for

-- Of the store no more is asked for than the file and 25 bytes: the first magic, which is looked at before the reading and
-- read with it; the last one, where the reading goes up to the end; and the head of the record at which it halts, once more.
abbrev pub margin : ℕ
margin = 8 + (8 + 9)
