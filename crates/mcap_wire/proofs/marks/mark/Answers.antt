use Rattle.std.proofs.Common.{◌/◌, ◌%◌, get_or, arith}
use Rattle.mcap_wire.proofs.MarkLemmas.{bit_is_clear, marked_there, marked_elsewhere}
use Rattle.mcap_wire.proofs.marks.mark.Goals as goal

pub returns-clause-new : goal.returns-clause-new
returns-clause-new c = bit_is_clear (get_or c.args.marks.now (c.args.key / 64) 0) (c.args.key % 64) (omega arith)

pub returns-clause-marked : goal.returns-clause-marked
returns-clause-marked c = marked_there c.args.marks.now c.args.key (omega arith)

pub returns-clause-others : goal.returns-clause-others
returns-clause-others c = marked_elsewhere c.args.marks.now c.args.key (omega arith)
