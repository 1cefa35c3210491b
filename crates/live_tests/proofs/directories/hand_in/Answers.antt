use Rattle.std.proofs.Common.{refl}
use Rattle.live_entry.proofs.Nothing.{untold_follow}
use Rattle.live_tests.proofs.directories.hand_in.Goals as goal

pub publish-requires-clause-follow : goal.publish-requires-clause-follow
publish-requires-clause-follow g c = untold_follow _ (λ x. refl) _
