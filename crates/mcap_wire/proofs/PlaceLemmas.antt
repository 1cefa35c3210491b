-- A borrowed map holds as many pairs as it counts.
use Rattle.std.proofs.Common.{◌≡◌, ℕ, length}
use Rattle.mcap_wire.specs.declared.pairs.PairsPlace.{PairsPlace}
use Rattle.mcap_wire.specs.declared.pairs.PairsPlace.TheVariants as places
use Rattle.mcap_wire.specs.Maps.{IsTextMap}
use Rattle.mcap_wire.specs.PairsPlace.{pairs_of, IsPlace}
use Rattle.mcap_wire.proofs.PairWalks.{length-pairs_in}

pub length-pairs_of : (place : PairsPlace) (n : ℕ) → IsPlace place n → length (pairs_of place n) ≡ n
length-pairs_of (places.Bytes bytes) n is = length-pairs_in n bytes.now
length-pairs_of (places.List list) n is = is.0

pub place_is_map : (place : PairsPlace) (n : ℕ) → IsPlace place n → IsTextMap (pairs_of place n)
place_is_map (places.Bytes bytes) n is = is.is_map
place_is_map (places.List list) n is = is.1
