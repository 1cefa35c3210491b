use Rattle.std.proofs.Common.{◌-◌, ◌<◌, ◌≤◌, length}
use Rattle.std.specs.List.{AllWithin}
use Rattle.mcap_wire.specs.Layout.{text_bytes}
use Rattle.mcap_wire.specs.KeyPasses.{IsBelow}
use Rattle.mcap_wire.proofs.key_passes.find.Given as goal

abbrev pub invariant-loop-low : goal.invariant-loop-low
invariant-loop-low l = (l.low ≤ l.high) × (l.high ≤ length l.places) × (l.low ≤ l.probe) × (l.low < l.high → l.probe < l.high)
    × AllWithin (λ p. IsBelow (text_bytes l.bytes p) l.key) l.places 0 l.low
    × AllWithin (λ p. IsBelow l.key (text_bytes l.bytes p)) l.places l.high (length l.places)

abbrev pub decreases-loop-low : goal.decreases-loop-low
decreases-loop-low l = l.high - l.low
