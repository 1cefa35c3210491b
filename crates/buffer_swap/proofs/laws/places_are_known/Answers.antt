use Rattle.buffer_swap.proofs.Known.{places_are_known}
use Rattle.buffer_swap.proofs.laws.places_are_known.Goals as goal

pub returns : goal.returns
returns c = places_are_known
