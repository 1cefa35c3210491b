use Rattle.recorder.proofs.FrontsTold.{fronts_are_told}
use Rattle.recorder.proofs.laws.fronts_are_told.Goals as goal

pub returns : goal.returns
returns g c = fronts_are_told g.X.Extent.tells
