use Rattle.merge_walk.proofs.Unchanged.{told_stay}
use Rattle.merge_walk.proofs.walk_laws.told_pieces_stay.Goals as goal

pub returns : goal.returns
returns c = told_stay
