use Rattle.std.proofs.Common.{◌≡◌, List, ℕ, Some}
use Rattle.io_files.proofs.writer.write_some.Given as goal

abbrev pub invariant-tries : goal.invariant-tries
invariant-tries g l = (before : List ℕ) → g.W.Write.contents l.fn.writer ≡ Some before → g.W.Write.contents l.writer ≡ Some before
