-- The records between a Data End and a Footer, and the rules that are judged of each.
use Rattle.std.specs.Prelude.{◌≡◌, ℕ, ◌+◌, List, [], ◌∷◌, ◌++◌, take, filter, Bool, true, false, Option, Some, None}
use Rattle.mcap_model.specs.Places.{At, Each}
use Rattle.mcap_model.specs.Tops.{Top}
use Rattle.mcap_model.specs.Whole.{is_known, IsInPlace}
use Rattle.mcap_model.specs.declared.rules.Rule.{Rule}
use Rattle.summary_read.specs.Steps.{Judged}
use Rattle.index_check.specs.declared.order.Order.{Order}
use Rattle.index_check.specs.Order.{OrderOf}

-- these records stand in the file from that place on
abbrev pub StandFrom : List Top → ℕ → List Top → Type 0
StandFrom all base body = (k : ℕ) (t : Top) → At body k t → At all (base + k) t

-- each of them keeps a rule
abbrev pub KeptFrom : (List Top → ℕ → Top → Type 0) → List Top → ℕ → List Top → Type 0
KeptFrom R all base body = (k : ℕ) (t : Top) → At body k t → R all (base + k) t

-- the one at that place breaks it
abbrev pub BrokenAt : (List Top → ℕ → Top → Type 0) → List Top → ℕ → List Top → ℕ → Type 0
BrokenAt R all base body k = (t : Top) × At body k t × (R all (base + k) t → ⊥)

abbrev pub RuleJudged : (List Top → ℕ → Top → Type 0) → List Top → ℕ → List Top → Option ℕ → Type 0
RuleJudged R all base body None = KeptFrom R all base body
RuleJudged R all base body (Some k) = BrokenAt R all base body k

-- ---- kinds and layouts

-- each record may stand there, and its content can be read; or one breaks that rule
abbrev pub BrokenFound : List Top → Option (ℕ × Rule) → Type 0
BrokenFound body None = Each (λ t. Judged t None) body
BrokenFound body (Some found) = (t : Top) × At body found.0 t × Judged t (Some found.1)

-- ---- the order

abbrev pub known : List Top → List Top
known records = filter (λ t. is_known t.op) records

-- a known record is in its place behind the known ones in front of it
abbrev pub KnownInPlace : List Top → ℕ → Top → Type 0
KnownInPlace body k t = is_known t.op ≡ true → IsInPlace (known (take k body)) t

-- a record was put behind those whose order is kept, or it isn't in its place behind them
abbrev pub OpTaken : List Top → Top → Order → Bool → Type 0
OpTaken before t order true =
    (is_known t.op ≡ true → IsInPlace (known before) t) × OrderOf (known (before ++ t ∷ [])) order
OpTaken before t order false = (is_known t.op ≡ true → IsInPlace (known before) t) → ⊥

abbrev pub OrderJudged : List Top → Option ℕ → Type 0
OrderJudged body None = (k : ℕ) (t : Top) → At body k t → KnownInPlace body k t
OrderJudged body (Some k) = (t : Top) × At body k t × (KnownInPlace body k t → ⊥)
