-- What printing an equal text leaves.
use Rattle.std.proofs.Common.{◌≡◌, ℕ, List, subst}
use Rattle.mcap_io.specs.Outside.{SinkState}
use Rattle.command_base.specs.Printing.{Takes}

-- what takes a text takes an equal one
pub takes_same : (old new : SinkState) (xs ys : List ℕ) → xs ≡ ys → Takes old new xs → Takes old new ys
takes_same old new xs ys same takes =
    let P : List ℕ → Type 0 = λ l. Takes old new l in
    subst P same takes
