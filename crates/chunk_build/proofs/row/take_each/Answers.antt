use Rattle.std.proofs.Common.{ℕ, List, arith}
use Rattle.chunk_build.specs.Rows.{rows_in}
use Rattle.chunk_build.proofs.Taking.{IsLeft, all_left, first_left, less_left, none_left, none_yet, takes_long, takes_more, takes_all, bytes_grow, left_in}
use Rattle.chunk_build.proofs.row.take_each.Goals as goal

pub used-init : goal.used-init
used-init c = record {
  rise = c.requires.rise;
  takes = none_yet _ _ _;
  left = all_left c.args.used.now (rows_in c.args.rows.now.items) c.requires.used;
  capacity = omega arith;
  parts_len = omega arith;
  parts_capacity = omega arith;
}

pub take_index-requires-clause-first : goal.take_index-requires-clause-first
take_index-requires-clause-first c = first_left c.args.used.now c.used.i 0 (rows_in c.used.rows.items) c.requires.ascend c.used.invariant.left

pub take_index-requires-clause-small : goal.take_index-requires-clause-small
take_index-requires-clause-small c =
    let long = takes_long _ _ _ _ _ _ c.used.invariant.takes in
    let more = bytes_grow _ _ _ _ _ _ c.used.invariant.takes in
    omega (arith, long, more, c.requires.small)

pub take_index-requires-clause-room : goal.take_index-requires-clause-room
take_index-requires-clause-room c =
    let long = takes_long _ _ _ _ _ _ c.used.invariant.takes in
    omega (arith, long, c.requires.room, c.used.invariant.capacity, c.used.bytes.ok.0, c.args.bytes.now.ok.0)

pub used-preserved : goal.used-preserved
used-preserved c =
    let takes = c.take_index.ensures.taken in
    record {
      rise = c.take_index.ensures.rise;
      takes = takes_more _ _ _ _ _ _ _ _ _ _ c.used.invariant.takes takes;
      left = less_left c.args.used.now c.used.i 0 (rows_in c.take_index.new.rows.items) (omega (arith, c.used-test.true))
          (left_in (λ (p : ℕ × List ℕ). IsLeft c.args.used.now c.used.i p.0) _ takes.taken _ takes.joined c.used.invariant.left) takes.later;
      capacity = omega (arith, c.used.invariant.capacity, c.take_index.ensures.capacity);
      parts_len = omega (arith, c.used.invariant.parts_len, c.take_index.ensures.parts_len);
      parts_capacity = omega (arith, c.used.invariant.parts_capacity, c.take_index.ensures.parts_capacity);
    }

pub returns-clause-none : goal.returns-clause-none
returns-clause-none c = none_left c.args.used.now c.used.i (rows_in c.used.rows.items) (omega (arith, c.used-test.false)) c.used.invariant.left

pub returns-clause-bytes : goal.returns-clause-bytes
returns-clause-bytes c =
    (takes_all _ _ _ _ _ _ c.used.invariant.takes (none_left c.args.used.now c.used.i (rows_in c.used.rows.items) (omega (arith, c.used-test.false)) c.used.invariant.left)).0

pub returns-clause-parts : goal.returns-clause-parts
returns-clause-parts c =
    (takes_all _ _ _ _ _ _ c.used.invariant.takes (none_left c.args.used.now c.used.i (rows_in c.used.rows.items) (omega (arith, c.used-test.false)) c.used.invariant.left)).1
