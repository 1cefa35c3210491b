-- The opcodes of the known records of a summary.
use Rattle.std.specs.Prelude.{◌≡◌, ◌≢◌, ℕ, List, ◌++◌, ◌∷◌, []}
use Rattle.rec_index.specs.Records.{summary_offset_opcode}
use Rattle.mcap_model.specs.Places.{Has, Each}
use Rattle.mcap_model.specs.Tops.{Top}
use Rattle.index_check.specs.declared.order.Order.{Order}

-- these are the opcodes of the records, and that of the last one
pub record OrderOf (before : List Top) (kept : Order) : Type 0 where
  pub there : Each (λ u. Has kept.ops u.op) before
  pub are : (op : ℕ) → Has kept.ops op → (u : Top) × Has before u × (u.op ≡ op)
  pub last : (front : List Top) (u : Top) → before ≡ front ++ u ∷ [] → u.op ≡ kept.last

-- behind a Summary Offset stand such alone
abbrev pub OffsetsLast : List ℕ → ℕ → Type 0
OffsetsLast ops op = op ≢ summary_offset_opcode → Has ops summary_offset_opcode → ⊥
