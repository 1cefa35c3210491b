-- Which rule a file breaks where a reading of its bytes, up to the last magic if it has one, halts.
use Rattle.std.specs.Prelude.{ℕ, ◌-◌, ◌&&◌, ◌||◌, ◌==◌, nat_le, nat_lt, if◌then◌else◌}
use Rattle.mcap_model.specs.RuleNumbers.{same_rule}
use Rattle.mcap_model.specs.declared.rules.Rule.{Rule}
use Rattle.mcap_model.specs.declared.rules.Rule.TheVariants as rules
use Rattle.file_check.specs.declared.flaws.FailedRule.{FailedRule}

abbrev pub failed : Rule → ℕ → FailedRule
failed rule offset = record { rule = rule; offset = offset }

-- Where the first record breaks a rule on ids or on chunks it is no Header; else the rule fails at the record that breaks it.
abbrev pub failed_at : ℕ → Rule → FailedRule
failed_at offset rule = if (offset == 8) && (same_rule rule rules.V7 || same_rule rule rules.V8) then failed rules.V3 8
    else failed rule offset

-- the last magic isn't there
abbrev pub lacks_magic : ℕ → FailedRule
lacks_magic len = failed rules.V2 (len - 8)

-- Of a file of that length without the last magic: that is missing where no more than its eight bytes are left of a record
-- that is cut off, or fewer than they and a head of one of opcode 0. Else the rule fails there.
abbrev pub told_cut : ℕ → ℕ → Rule → FailedRule
told_cut len offset rule =
    if same_rule rule rules.V4 && nat_le (len - offset) 8 then lacks_magic len
    else if same_rule rule rules.V5 && nat_lt (len - offset) 17 then lacks_magic len
    else failed_at offset rule
