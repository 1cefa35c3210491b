use Rattle.std.proofs.Common.{◌<◌, List, Err, length, refl, subst, ap, arith}
use Rattle.chunk_build.specs.declared.row.Row.{Row}
use Rattle.chunk_build.specs.Rows.{FoundRow}
use Rattle.chunk_build.proofs.RowLemmas.{rise_set, row_set, same_pair, row_insert, rise_insert}
use Rattle.chunk_build.proofs.row.row_for.Goals as goal

pub returns-in_err-make_room-in-Ok-clause-same : goal.returns-in_err-make_room-in-Ok-clause-same
returns-in_err-make_room-in-Ok-clause-same c =
    let within : c.in-Ok.i < length c.args.rows.now.items = omega (arith, c.in-Ok.ensures.0, ap (λ (l : List Row). length l) c.as_slice.ensures.value) in
    let v : Row = record { channel = c.index_mut.result.now.channel; entries = c.make_room.new.out } in
    row_set c.args.rows.now.items c.in-Ok.i v (same_pair c.args.rows.now.items c.in-Ok.i v c.index_mut.result.now within c.index_mut.ensures.value refl c.make_room.ensures.items)

pub returns-in-Ok-clause-same : goal.returns-in-Ok-clause-same
returns-in-Ok-clause-same c =
    let within : c.in-Ok.i < length c.args.rows.now.items = omega (arith, c.in-Ok.ensures.0, ap (λ (l : List Row). length l) c.as_slice.ensures.value) in
    let v : Row = record { channel = c.index_mut.result.now.channel; entries = c.make_room.new.out } in
    row_set c.args.rows.now.items c.in-Ok.i v (same_pair c.args.rows.now.items c.in-Ok.i v c.index_mut.result.now within c.index_mut.ensures.value refl c.make_room.ensures.items)

pub returns-in-Ok-insert-clause-rise : goal.returns-in-Ok-insert-clause-rise
returns-in-Ok-insert-clause-rise c =
    let v : Row = record { channel = c.args.channel; entries = c.in-Ok-with_capacity.entries } in
    let found = subst (λ (l : List Row). FoundRow l c.args.channel (Err c.in-Err.i)) c.as_slice.ensures.value c.in-Err.ensures in
    rw c.in-Ok-insert.ensures.items (rise_insert c.args.rows.now.items c.in-Err.i v c.requires found)

pub returns-in-Ok-insert-clause-same : goal.returns-in-Ok-insert-clause-same
returns-in-Ok-insert-clause-same c =
    let v : Row = record { channel = c.args.channel; entries = c.in-Ok-with_capacity.entries } in
    rw c.in-Ok-insert.ensures.items (row_insert c.args.rows.now.items c.in-Err.i v c.in-Ok-with_capacity.ensures.items)

pub returns-in_err-make_room-in-Ok-clause-rise : goal.returns-in_err-make_room-in-Ok-clause-rise
returns-in_err-make_room-in-Ok-clause-rise c =
    let within : c.in-Ok.i < length c.args.rows.now.items = omega (arith, c.in-Ok.ensures.0, ap (λ (l : List Row). length l) c.as_slice.ensures.value) in
    let v : Row = record { channel = c.index_mut.result.now.channel; entries = c.make_room.new.out } in
    rise_set c.args.rows.now.items c.in-Ok.i v c.index_mut.result.now within c.index_mut.ensures.value refl c.requires

pub returns-in-Ok-clause-rise : goal.returns-in-Ok-clause-rise
returns-in-Ok-clause-rise c =
    let within : c.in-Ok.i < length c.args.rows.now.items = omega (arith, c.in-Ok.ensures.0, ap (λ (l : List Row). length l) c.as_slice.ensures.value) in
    let v : Row = record { channel = c.index_mut.result.now.channel; entries = c.make_room.new.out } in
    rise_set c.args.rows.now.items c.in-Ok.i v c.index_mut.result.now within c.index_mut.ensures.value refl c.requires
