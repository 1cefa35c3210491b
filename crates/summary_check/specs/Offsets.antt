-- Summary Offsets, and the groups that they name.
use Rattle.std.specs.Prelude.{◌≡◌, ◌≢◌, ◌↔◌, ◌<◌, ◌≤◌, ℕ, suc, List, Bool, true, false, Option, Some, None}
use Rattle.mcap_wire.specs.declared.faults.Cut.{Cut}
use Rattle.mcap_model.specs.Places.{At, Has, Each}
use Rattle.mcap_model.specs.Tops.{Top}
use Rattle.mcap_model.specs.Fields.{IsSummaryOffset}
use Rattle.mcap_model.specs.Whole.{V15}

-- the first and the last of the records of that opcode, and where the contents of the two begin and end
pub record Spans (cuts : List Cut) (op from to : ℕ) : Type 0 where
  pub first : ℕ
  pub last : ℕ
  pub first_cut : Cut
  pub last_cut : Cut
  pub at_first : At cuts first first_cut
  pub at_last : At cuts last last_cut
  pub first_is : first_cut.op ≡ op
  pub last_is : last_cut.op ≡ op
  pub between : (k : ℕ) (c : Cut) → At cuts k c → c.op ≡ op → (first ≤ k) × (k ≤ last)
  pub from_is : from ≡ first_cut.from
  pub to_is : to ≡ last_cut.to

abbrev pub SpanIs : List Cut → ℕ → Option (ℕ × ℕ) → Type 0
SpanIs cuts op None = Each (λ c. c.op ≢ op) cuts
SpanIs cuts op (Some span) = Spans cuts op span.0 span.1

-- just the opcodes that the Summary Offsets in front of that place name
abbrev pub AreNamedOpcodes : List Top → ℕ → List ℕ → Type 0
AreNamedOpcodes all n names = (op : ℕ)
    → Has names op ↔ ((i offset size : ℕ) × (u : Top) × (i < n) × At all i u × IsSummaryOffset u op offset size)

-- a record keeps the rule, and these are the opcodes that are named with it; or it breaks it
abbrev pub OffsetTaken : List Top → ℕ → Top → List ℕ → Bool → Type 0
OffsetTaken all n t names true = V15 all n t × AreNamedOpcodes all (suc n) names
OffsetTaken all n t names false = V15 all n t → ⊥
