use Rattle.recorder.proofs.EntriesGathered.{entries_gathered}
use Rattle.recorder.proofs.laws.entries_are_gathered.Goals as goal

pub returns : goal.returns
returns g c = entries_gathered g.X.Extent.tells g.X.Extent.size
