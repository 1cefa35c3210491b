-- Known records in their order.
use Rattle.std.proofs.Common.{◌≡◌, ℕ, suc, ◌<◌, ◌≤◌, Bool, true, false, ◌&&◌, List, [], ◌∷◌, ◌++◌, cond, sym, ap, subst, ◌∙◌, append-nil, arith}
use Rattle.std.specs.Prelude.{nat_lt}
use Rattle.std.proofs.lemmas.Bool.{both_ways, le-leb, lt-ltb, lt-leb}
use Rattle.std.proofs.lemmas.List.Elements.{filter-append}
use Rattle.mcap_model.specs.Tops.{Top}
use Rattle.mcap_model.specs.Whole.{is_known}
use Rattle.index_check.specs.declared.order.Order.{Order}
use Rattle.index_check.specs.Order.{OrderOf}
use Rattle.summary_check.specs.Body.{known, OpTaken}

pub zero_unknown : (op : ℕ) → op ≡ 0 → is_known op ≡ false
zero_unknown op none = ap is_known none

pub high_unknown : (op : ℕ) → 16 ≤ op → is_known op ≡ false
high_unknown op high = ap (λ (x : Bool). x && nat_lt op 16) (le-leb 1 op (omega (arith, high))) ∙ lt-leb (suc op) 16 (omega (arith, high))

pub is_known_op : (op : ℕ) → (op ≡ 0 → ⊥) → op < 16 → is_known op ≡ true
is_known_op op some low = ap (λ (x : Bool). x && nat_lt op 16) (le-leb 1 op (omega (arith, some))) ∙ lt-ltb op 16 low

abbrev alone : Bool → Top → List Top
alone b t = cond b (t ∷ []) []

known_by : (before : List Top) (t : Top) (b : Bool) → is_known t.op ≡ b → known (before ++ t ∷ []) ≡ known before ++ alone b t
known_by before t b is = filter-append (λ (u : Top). is_known u.op) before (t ∷ []) ∙ ap (λ (x : Bool). known before ++ alone x t) is

-- a record that isn't known changes no order
pub unknown_taken : (before : List Top) (t : Top) (op : ℕ) (order : Order) → OrderOf (known before) order → t.op ≡ op → is_known op ≡ false → OpTaken before t order true
unknown_taken before t op order was same is = (
  λ known_is. absurd (both_ways (is_known t.op) (ap is_known same ∙ is) known_is),
  subst (λ (l : List Top). OrderOf l order) (sym (known_by before t false (ap is_known same ∙ is) ∙ append-nil (known before))) was,
)

pub known_more : (before : List Top) (t : Top) (op : ℕ) → t.op ≡ op → is_known op ≡ true → known (before ++ t ∷ []) ≡ known before ++ t ∷ []
known_more before t op same is = known_by before t true (ap is_known same ∙ is)
