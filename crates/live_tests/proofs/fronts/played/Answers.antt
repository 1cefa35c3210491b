use Rattle.std.proofs.Common.{refl}
use Rattle.live_entry.proofs.Nothing.{untold_follow}
use Rattle.live_tests.proofs.fronts.played.Goals as goal

pub replay_live-requires : goal.replay_live-requires
replay_live-requires c = untold_follow _ (λ x. refl) _
