use Rattle.indexed_replay.specs.Gathering.{FirstChannels}
use Rattle.indexed_replay.proofs.channels.take_channels.Given as goal

abbrev pub invariant-channels : goal.invariant-channels
invariant-channels l = FirstChannels l.loaded.channels l.i l.tables.channels
