use Rattle.std.proofs.Common.{◌≡◌, None, false}
use Rattle.live_directory.specs.Published.{end_of}
use Rattle.live_tests.proofs.directories.write.Given as goal

abbrev pub invariant-each : goal.invariant-each
invariant-each g l = (end_of l.directory.shown ≡ None) × (l.directory.short ≡ false)
