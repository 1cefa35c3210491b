use Rattle.std.proofs.Common.{rules, refl}
use Rattle.live_entry.proofs.Nothing.{untold_follow}
use Rattle.live_directory.specs.Published.{entries_of}
use Rattle.live_tests.proofs.directories.publish_one.Goals as goal

pub publish-requires-clause-follow : goal.publish-requires-clause-follow
publish-requires-clause-follow g c = untold_follow _ (λ x. refl) _
