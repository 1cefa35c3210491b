-- A reading so far, and halts that are the same.
use Rattle.std.specs.Prelude.{◌≡◌, ◌↔◌, ℕ, List}
use Rattle.mcap_model.specs.Tops.{Top, Tops}
use Rattle.mcap_model.specs.declared.rules.Rule.TheVariants as rules
use Rattle.mcap_model.specs.Kept.{Limits, Good, Halt, grammar}

-- a reading so far: the file begins with these good records, and this follows them
pub record Reads (limits : Limits) (bytes : List ℕ) (tops : List Top) (rest : List ℕ) : Type 0 where
  pub stands : Tops bytes tops rest
  pub good : Good limits tops

-- Two halts are the same but for the rule, which is V4 in both or in none: so it is known whether the bytes
-- are cut short.
abbrev pub SameHalt : Halt → Halt → Type 0
SameHalt (grammar n rule) (grammar m other) = (n ≡ m) × ((rule ≡ rules.V4) ↔ (other ≡ rules.V4))
SameHalt (grammar n rule) other = ⊥
SameHalt halt (grammar m other) = ⊥
SameHalt halt other = halt ≡ other
