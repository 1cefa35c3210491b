use Rattle.merge_walk.proofs.Unchanged.{surveyed_fit}
use Rattle.merge_walk.proofs.walk_laws.surveyed_bytes_fit.Goals as goal

pub returns : goal.returns
returns c = surveyed_fit
