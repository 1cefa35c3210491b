use Rattle.std.proofs.Common.{◌+◌, ◌≤◌, ℕ, List, vec_len, vec_capacity}
use Rattle.std.specs.Prelude.{All}
use Rattle.chunk_build.specs.Rows.{rows_in, RowsRise}
use Rattle.chunk_build.proofs.Taking.{IsLeft, TakesRows}
use Rattle.chunk_build.proofs.row.take_each.Given as goal

abbrev pub invariant-used : goal.invariant-used
invariant-used l = record {
  rise : RowsRise l.rows.items;
  takes : TakesRows (rows_in l.initial.rows.items) (rows_in l.rows.items) (l.initial.bytes.items, l.bytes.items) (l.initial.parts.items, l.parts.items);
  left : All (λ (p : ℕ × List ℕ). IsLeft l.used l.i p.0) (rows_in l.rows.items);
  capacity : vec_capacity l.initial.bytes ≤ vec_capacity l.bytes;
  parts_len : vec_len l.parts ≤ vec_len l.initial.parts + l.i;
  parts_capacity : vec_capacity l.initial.parts ≤ vec_capacity l.parts;
}
