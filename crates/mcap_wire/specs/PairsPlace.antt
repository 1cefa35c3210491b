-- The pairs that a borrowed map stands for.
use Rattle.std.specs.Prelude.{◌≡◌, ℕ, List, length}
use Rattle.mcap_wire.specs.declared.pairs.PairsPlace.{PairsPlace}
use Rattle.mcap_wire.specs.declared.pairs.PairsPlace.TheVariants as places
use Rattle.mcap_wire.specs.Maps.{IsTextMap}
use Rattle.mcap_wire.specs.PairBytes.{pairs_in, HoldsMap}

-- the pairs that stand there
abbrev pub pairs_of : PairsPlace → ℕ → List (List ℕ × List ℕ)
pairs_of (places.Bytes bytes) n = pairs_in n bytes.now
pairs_of (places.List list) n = list.now

-- n pairs stand there, and are a map
abbrev pub IsPlace : PairsPlace → ℕ → Type 0
IsPlace (places.Bytes bytes) n = HoldsMap bytes.now n
IsPlace (places.List list) n = (length list.now ≡ n) × IsTextMap list.now
