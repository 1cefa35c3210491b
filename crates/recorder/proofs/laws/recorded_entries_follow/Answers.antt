use Rattle.recorder.proofs.EntriesFollow.{entries_follow}
use Rattle.recorder.proofs.laws.recorded_entries_follow.Goals as goal

pub returns : goal.returns
returns g c = entries_follow g.X.Extent.tells
