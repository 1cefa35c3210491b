use Rattle.std.proofs.Common.{◌≡◌, ℕ, length, subst, arith}
use Rattle.indexed_replay.specs.Gathering.{FirstChannels}
use Rattle.indexed_replay.proofs.channels.take_channels.Goals as goal

pub returns : goal.returns
returns c =
    let all : c.channels.i ≡ length c.args.loaded.now.channels = omega (arith, c.channels-i-end.ensures) in
    subst (λ (n : ℕ). FirstChannels c.args.loaded.now.channels n c.channels.tables.channels) all c.channels.invariant
