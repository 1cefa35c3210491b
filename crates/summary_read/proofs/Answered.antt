-- What the answer of a test says.
use Rattle.std.proofs.Common.{true, false, refl}
use Rattle.std.specs.Prelude.{◌↔◌, IsTrue}
use Rattle.mcap_model.proofs.Bits.{false_not}

pub yes : {P : Type 0} → P → IsTrue true ↔ P
yes p = (λ e. p, λ q. refl)

pub no : {P : Type 0} → (P → ⊥) → IsTrue false ↔ P
no none = (λ e. absurd (false_not e), λ p. absurd (none p))
