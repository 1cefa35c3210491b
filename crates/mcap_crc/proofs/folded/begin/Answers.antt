use Rattle.std.proofs.Common.{◌≡◌, List, ℕ, ◌++◌, take, drop, ap, ◌∙◌, bit_xor, le_refl}
use Rattle.std.proofs.lemmas.List.{take-take}
use Rattle.std.specs.Int.{to_le_bytes, w128}
use lib.Lanes.{zip2}
use Rattle.mcap_crc.specs.Register.{register_after}
use Rattle.mcap_crc.proofs.Folding.{begun}
use Rattle.mcap_crc.proofs.folded.begin.Goals as goal

pub returns : goal.returns
returns c =
    let xs = c.args.front.now in
    let twice : (ys : List ℕ) → take 16 (take 16 ys) ≡ take 16 ys = λ ys. take-take 16 16 ys (le_refl 16) in
    let own : c.to_le_bytes-register.result ≡ to_le_bytes w128 c.args.register = c.to_le_bytes-register.ensures ∙ ap (to_le_bytes w128) c.from.ensures in
    (λ i. register_after 0 (zip2 bit_xor (twice xs i) (own i) ++ twice (drop 16 xs) i ++ twice (drop 32 xs) i ++ twice (drop 48 xs) i ++ twice (drop 64 xs) i))
    ∙ begun c.args.register xs c.ranges.register.fits c.told-front
