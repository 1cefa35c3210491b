-- What a reader with a buffer has left: what it read ahead, and then what its file has left.
use Rattle.std.specs.Prelude.{◌≡◌, ℕ, ◌-◌, List, ◌++◌, take, drop, Option, Some, Result, Ok, Err}
use Rattle.std.specs.Option.{option_map}
use Rattle.mcap_io.specs.declared.outside.Failed.{Failed}
use Rattle.mcap_io.specs.OutsideCalls.{GivesFront}

-- the bytes of the buffer between the two places, and then the known bytes
abbrev pub ahead : List ℕ → ℕ → ℕ → Option (List ℕ) → Option (List ℕ)
ahead buffer from to known = option_map (λ rest. take (to - from) (drop from buffer) ++ rest) known

-- where what is left is known, a read gives its front, and a failure takes nothing
abbrev pub AheadReads : Option (List ℕ) → Option (List ℕ) → List ℕ → Result ℕ Failed → Type 0
AheadReads old new out (Ok n) = (rest : List ℕ) → old ≡ Some rest → GivesFront rest new n out
AheadReads old new out (Err why) = (rest : List ℕ) → old ≡ Some rest → new ≡ Some rest
