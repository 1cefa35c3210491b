-- So far the bytes below the index were added.
use Rattle.std.proofs.Common.{◌≡◌, ◌%◌, ◌^◌, take, sum}
use Rattle.command_generate.proofs.sums.sum_bytes.Given as goal

abbrev pub invariant-bytes : goal.invariant-bytes
invariant-bytes l = l.total ≡ sum (take l.byte-index l.bytes) % 2 ^ 64
