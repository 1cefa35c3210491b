use Rattle.std.proofs.Common.{arith}
use Rattle.mcap_wire.proofs.ArrayLemmas.{length-entry_texts}
use Rattle.mcap_wire.proofs.arrays.EntriesRef.byte_len.Goals as goal

pub overflow_mul-result : goal.overflow_mul-result
overflow_mul-result c = omega (arith, length-entry_texts 8 c.args.self.now, c.count-count.ensures, c.requires)

pub returns : goal.returns
returns c = omega (arith, length-entry_texts 8 c.args.self.now, c.count-count.ensures)
