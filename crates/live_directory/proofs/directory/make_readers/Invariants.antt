use Rattle.live_directory.specs.ReaderSteps.{AreUnread}
use Rattle.live_directory.proofs.directory.make_readers.Given as goal

abbrev pub invariant-loop : goal.invariant-loop
invariant-loop g l = AreUnread l.all.items l.counter
