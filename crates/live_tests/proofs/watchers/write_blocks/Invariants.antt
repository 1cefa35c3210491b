use Rattle.std.proofs.Common.{◌≡◌, None, false}
use Rattle.live_directory.specs.Published.{end_of}
use Rattle.live_tests.proofs.watchers.write_blocks.Given as goal

abbrev pub invariant-blocks-2 : goal.invariant-blocks-2
invariant-blocks-2 g l = (end_of l.directory.shown ≡ None) × (l.directory.short ≡ false)
