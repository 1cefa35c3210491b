use Rattle.play_clock.specs.Times.{times_of}
use Rattle.reading_tests.proofs.RisingTimes.{RiseUpTo}
use Rattle.reading_tests.proofs.plays.replayed.Given as goal

abbrev pub invariant-times : goal.invariant-times
invariant-times l = RiseUpTo (times_of l.shown.items) l.last
