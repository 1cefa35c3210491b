use Rattle.std.proofs.Common.{◌≡◌, take}
use Rattle.merge_walk.specs.SpanHeads.{times_in}
use Rattle.merge_walk.specs.Times.{extent_of}
use Rattle.merge_walk.proofs.times.extent_among.Given as goal

abbrev pub invariant-messages : goal.invariant-messages
invariant-messages l = l.extent ≡ extent_of (times_in (take l.i l.heads))
