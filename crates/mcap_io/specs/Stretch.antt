-- What the filling of a slice from a source takes and gives.
use Rattle.std.specs.Prelude.{◌≡◌, ℕ, ◌<◌, List, length, take, drop, Option, Some, Result, Ok, Err}
use Rattle.mcap_io.specs.declared.outside.Failed.{Failed}
use Rattle.mcap_io.specs.declared.outside.OutsideRefused.{OutsideRefused}
use Rattle.mcap_io.specs.OutsideCalls.{TakesFront}

-- the first n bytes of the slice are the front of what was left, as long as the slice unless the input ended
abbrev pub Fills : Option (List ℕ) → Option (List ℕ) → List ℕ → Result ℕ Failed → Type 0
Fills old new out (Ok n) = (rest : List ℕ) → old ≡ Some rest → TakesFront rest new (length out) (take n out)
Fills old new out (Err why) =
    (rest : List ℕ) → old ≡ Some rest → (n : ℕ) × (n < length out) × (new ≡ Some (drop n rest))

-- the same of the front of a slice, of that length
abbrev pub FillsFront : Option (List ℕ) → Option (List ℕ) → List ℕ → ℕ → Result ℕ Failed → Type 0
FillsFront old new out len (Ok n) = (rest : List ℕ) → old ≡ Some rest → TakesFront rest new len (take n out)
FillsFront old new out len (Err why) =
    (rest : List ℕ) → old ≡ Some rest → (n : ℕ) × (n < len) × (new ≡ Some (drop n rest))

-- the same of room of that length behind the bytes that a buffer holds; where memory lacks for it, nothing is taken
abbrev pub FillsBehind : Option (List ℕ) → Option (List ℕ) → List ℕ → ℕ → Result ℕ OutsideRefused → Type 0
FillsBehind old new out len (Ok n) = (rest : List ℕ) → old ≡ Some rest → TakesFront rest new len (take n out)
FillsBehind old new out len (Err why) =
    (rest : List ℕ) → old ≡ Some rest → (n : ℕ) × (n < len) × (new ≡ Some (drop n rest))
