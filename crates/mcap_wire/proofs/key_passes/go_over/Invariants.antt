use Rattle.std.proofs.Common.{take}
use Rattle.mcap_wire.specs.PairBytes.{pairs_in}
use Rattle.mcap_wire.specs.KeyPasses.{IsWindow, Sifts}
use Rattle.mcap_wire.proofs.PairWalks.{WalkedTo}
use Rattle.mcap_wire.proofs.key_passes.go_over.Given as goal

abbrev pub invariant-loop-i : goal.invariant-loop-i
invariant-loop-i l = WalkedTo l.bytes (pairs_in l.count l.bytes) l.i l.at × IsWindow l.bytes l.window
    × Sifts l.bytes l.bound (take l.i (pairs_in l.count l.bytes)) l.window
