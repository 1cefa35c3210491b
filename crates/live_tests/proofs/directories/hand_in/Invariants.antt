use Rattle.std.proofs.Common.{◌≡◌, None, false}
use Rattle.live_directory.specs.Published.{end_of}
use Rattle.live_tests.proofs.directories.hand_in.Given as goal

abbrev pub invariant-entries : goal.invariant-entries
invariant-entries g l = (end_of l.directory.shown ≡ None) × (l.directory.short ≡ false)
