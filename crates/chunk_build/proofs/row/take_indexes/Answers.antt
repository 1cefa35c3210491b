use Rattle.std.proofs.Common.{ℕ, List, subst, sym}
use Rattle.std.specs.Prelude.{All, Contains}
use Rattle.std.specs.List.Sorted.{IsNonDecreasing}
use Rattle.std.proofs.lemmas.List.Sorted.{IsNonDecreasingBy-from_sort}
use Rattle.chunk_build.specs.Rows.{rows_in}
use Rattle.chunk_build.proofs.Taking.{used_sorted}
use Rattle.chunk_build.proofs.row.take_indexes.Goals as goal

pub take_each-requires-clause-used : goal.take_each-requires-clause-used
take_each-requires-clause-used c =
    subst (λ (l : List ℕ). All (λ (p : ℕ × List ℕ). Contains l p.0) (rows_in c.args.rows.now.list.items)) (sym c.deref.ensures.value)
    (used_sorted c.args.rows.now.used.items c.sort_unstable.new.self.items (rows_in c.args.rows.now.list.items) c.sort_unstable.ensures.permutation c.requires.sound.used)

pub take_each-requires-clause-ascend : goal.take_each-requires-clause-ascend
take_each-requires-clause-ascend c = subst IsNonDecreasing (sym c.deref.ensures.value) (IsNonDecreasingBy-from_sort (λ (n : ℕ). n) c.sort_unstable.new.self.items c.sort_unstable.ensures.sorted)
