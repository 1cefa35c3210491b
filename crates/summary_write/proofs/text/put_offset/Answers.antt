use Rattle.std.proofs.Common.{rules}
use Rattle.summary_write.proofs.text.put_offset.Goals as goal

pub returns : goal.returns
returns c = search rules
