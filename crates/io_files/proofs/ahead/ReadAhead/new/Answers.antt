use Rattle.std.proofs.Common.{arith}
use Rattle.io_files.proofs.Known.{ahead-none}
use Rattle.io_files.proofs.ahead.ReadAhead.new.Goals as goal

pub returns : goal.returns
returns g c = ahead-none c.in_ok-buffer.buffer.items 0 0 _ (omega arith)
