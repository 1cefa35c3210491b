use Rattle.std.proofs.Common.{◌≡◌, List, ℕ, Some}
use Rattle.io_files.proofs.ahead.read_some.Given as goal

abbrev pub invariant-tries : goal.invariant-tries
invariant-tries g l = (rest : List ℕ) → g.F.Read.remaining l.fn.file ≡ Some rest → g.F.Read.remaining l.file ≡ Some rest
