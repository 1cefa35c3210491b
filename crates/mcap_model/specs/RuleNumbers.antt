-- The numbers by which rules are told.
use Rattle.std.specs.Prelude.{ℕ, ◌==◌, Bool}
use Rattle.mcap_model.specs.declared.rules.Rule.{Rule}
use Rattle.mcap_model.specs.declared.rules.Rule.TheVariants as rules

abbrev pub rule_number : Rule → ℕ
rule_number rules.V1 = 1
rule_number rules.V2 = 2
rule_number rules.V3 = 3
rule_number rules.V4 = 4
rule_number rules.V5 = 5
rule_number rules.V6 = 6
rule_number rules.V7 = 7
rule_number rules.V8 = 8
rule_number rules.V9 = 9
rule_number rules.V10 = 10
rule_number rules.V11 = 11
rule_number rules.V12 = 12
rule_number rules.V13 = 13
rule_number rules.V14 = 14
rule_number rules.V15 = 15
rule_number rules.V16 = 16
rule_number rules.V17 = 17

-- both are the one rule
abbrev pub same_rule : Rule → Rule → Bool
same_rule rule other = rule_number rule == rule_number other
