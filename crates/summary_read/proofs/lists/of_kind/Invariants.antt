use Rattle.std.proofs.Common.{◌≡◌, ◌==◌, take}
use Rattle.std.specs.Prelude.{filter}
use Rattle.summary_read.proofs.lists.of_kind.Given as goal

abbrev pub invariant-cuts : goal.invariant-cuts
invariant-cuts l = l.some.items ≡ filter (λ c. c.op == l.op) (take l.i l.cuts)
