use Rattle.std.proofs.Common.{◌≡◌, ◌<◌, ℕ, map}
use Rattle.std.specs.Prelude.{slice_get}
use Rattle.index_check.specs.Messages.{entry_of}
use Rattle.index_check.proofs.entries.are_listed.Given as goal

abbrev pub invariant-entries : goal.invariant-entries
invariant-entries l = (k : ℕ) → k < l.i → slice_get (map entry_of l.messages) k ≡ slice_get l.entries k
