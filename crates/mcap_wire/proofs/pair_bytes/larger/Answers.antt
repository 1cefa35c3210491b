use Rattle.mcap_wire.proofs.PairWalks.{above_answers, not_above, not_above_itself}
use Rattle.mcap_wire.proofs.pair_bytes.larger.Goals as goal

pub returns-then-gt-clause-one : goal.returns-then-gt-clause-one
returns-then-gt-clause-one c = not_above c.args.one.now c.args.other.now (above_answers c.args.other.now c.args.one.now _ c.if-gt.ensures)

pub returns-then-gt-clause-other : goal.returns-then-gt-clause-other
returns-then-gt-clause-other c = not_above_itself c.args.other.now

pub returns-else-gt-clause-one : goal.returns-else-gt-clause-one
returns-else-gt-clause-one c = not_above_itself c.args.one.now

pub returns-else-gt-clause-other : goal.returns-else-gt-clause-other
returns-else-gt-clause-other c = above_answers c.args.other.now c.args.one.now _ c.if-gt.ensures
