use Rattle.indexed_replay.proofs.Telling.{ends_in_order, tells}
use Rattle.indexed_replay.proofs.laws.loads_tell_flaws.Goals as goal

pub returns : goal.returns
returns c = λ file tops ordered few rule offset refused. tells file tops ordered.whole (ends_in_order file tops ordered refused.1) few rule offset refused.0
