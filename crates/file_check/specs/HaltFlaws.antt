-- What is told of a reading that halts, and which rule fails there.
use Rattle.std.specs.Prelude.{◌≡◌, ℕ, ◌+◌, ◌-◌, ◌^◌, ◌<◌, ◌≤◌, List, ◌++◌, length, take, drop, ◌&&◌, ◌==◌, if◌then◌else◌}
use Rattle.mcap_wire.specs.Layout.{le, magic}
use Rattle.mcap_model.specs.Tops.{Top}
use Rattle.mcap_model.specs.Kept.{reading_limits, grammar, Halts}
use Rattle.mcap_model.specs.Whole.{EndsWithMagic}
use Rattle.mcap_model.specs.RuleNumbers.{same_rule}
use Rattle.mcap_model.specs.Valid.{Flaw}
use Rattle.mcap_model.specs.declared.rules.Rule.{Rule}
use Rattle.mcap_model.specs.declared.rules.Rule.TheVariants as rules
use Rattle.file_check.specs.declared.flaws.FailedRule.{FailedRule}
use Rattle.file_check.specs.Halting.{failed, failed_at, told_cut}

-- Where whole records are followed by the last magic alone there is no Footer. Else the rule at which the reading halts fails
-- there.
abbrev pub told_flaw : ℕ → ℕ → Rule → FailedRule
told_flaw end offset rule =
    if same_rule rule rules.V4 && (offset == end) then failed rules.V17 (end - 29) else failed_at offset rule

-- the eight bytes of a length stand where a record at that offset has them
abbrev pub HasLengthAt : List ℕ → ℕ → Type 0
HasLengthAt bytes offset = (n : ℕ) × (n < 2 ^ 64) × (take 8 (drop (offset + 1) bytes) ≡ le 8 n)

abbrev pub HaltsAreFlaws : Type 0
HaltsAreFlaws = (inner : List ℕ) (tops : List Top) (offset : ℕ) (rule : Rule) → 8 ≤ length inner
    → length inner + 8 < 2 ^ 64 → (offset + 9 ≤ length inner → HasLengthAt inner offset)
    → Halts reading_limits inner tops (grammar offset rule)
    → Flaw (inner ++ magic) (told_flaw (length inner) offset rule).rule (told_flaw (length inner) offset rule).offset

-- the same of a file without the last magic
abbrev pub CutsAreFlaws : Type 0
CutsAreFlaws = (file : List ℕ) (tops : List Top) (offset : ℕ) (rule : Rule) → length file < 2 ^ 64
    → (EndsWithMagic file → ⊥) → (offset + 9 ≤ length file → HasLengthAt file offset)
    → Halts reading_limits file tops (grammar offset rule)
    → Flaw file (told_cut (length file) offset rule).rule (told_cut (length file) offset rule).offset
