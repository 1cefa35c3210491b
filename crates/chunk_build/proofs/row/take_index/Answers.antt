use Rattle.std.proofs.Common.{◌≡◌, ◌<◌, ◌≤◌, ℕ, List, [], ◌∷◌, length, set, Ok, Err, refl, sym, subst, ap, ◌∙◌, arith}
use Rattle.std.specs.Prelude.{All}
use Rattle.std.proofs.lemmas.List.{append-nil, get_or_read}
use Rattle.chunk_build.specs.declared.row.Row.{Row}
use Rattle.chunk_build.specs.Rows.{rows_in, FoundRow}
use Rattle.chunk_build.proofs.RowLemmas.{row_within, size_more}
use Rattle.chunk_build.proofs.Taking.{row_taken, none_taken}
use Rattle.chunk_build.proofs.row.take_index.Goals as goal

pub add_index-requires-clause-small : goal.add_index-requires-clause-small
add_index-requires-clause-small c =
    let xs = c.args.rows.now.items in
    let within : c.in-Ok.i < length xs = omega (arith, c.in-Ok.ensures.0, ap (λ (l : List Row). length l) c.as_slice.ensures.value) in
    let size = row_within xs c.in-Ok.i c.index.result.now within in
    let same = ap (λ (l : Row). length l.entries.items) c.index.ensures in
    omega (arith, size, same, c.requires.small)

pub add_index-requires-clause-room : goal.add_index-requires-clause-room
add_index-requires-clause-room c =
    let xs = c.args.rows.now.items in
    let within : c.in-Ok.i < length xs = omega (arith, c.in-Ok.ensures.0, ap (λ (l : List Row). length l) c.as_slice.ensures.value) in
    let size = size_more xs c.in-Ok.i c.index.result.now within c.index.ensures in
    omega (arith, size, c.requires.room)

pub returns-in-Ok-clause-taken : goal.returns-in-Ok-clause-taken
returns-in-Ok-clause-taken c =
    let xs = c.args.rows.now.items in
    let x = c.index.result.now in
    let within : c.in-Ok.i < length xs = omega (arith, c.in-Ok.ensures.0, ap (λ (l : List Row). length l) c.as_slice.ensures.value) in
    let found = subst (λ (l : List Row). FoundRow l c.args.channel (Ok c.in-Ok.i)) c.as_slice.ensures.value c.in-Ok.ensures in
    let own : x.channel ≡ c.args.channel = ap (λ (r : Row). r.channel) c.index.ensures ∙ found.1 x in
    let same : c.clear_row.new.row.channel ≡ x.channel = c.clear_row.ensures.channel ∙ ap (λ (r : Row). r.channel) (get_or_read xs c.in-Ok.i c.index_mut.result.now within c.index_mut.ensures.value x ∙ sym c.index.ensures) in
    let takes = row_taken xs c.in-Ok.i c.clear_row.new.row x c.requires.rise within c.index.ensures same c.clear_row.ensures.none
    (subst (λ (n : ℕ). All (λ (p : ℕ × List ℕ). n ≤ p.0) (rows_in xs)) (sym own) c.requires.first) in
    record {
      taken = rows_in (x ∷ []);
      joined = takes.0;
      bytes_are = c.add_index.ensures.bytes;
      parts_are = c.add_index.ensures.parts;
      later = subst (λ (n : ℕ). All (λ (p : ℕ × List ℕ). n < p.0) (rows_in (set xs c.in-Ok.i c.clear_row.new.row))) own takes.1;
    }

pub returns-in-Err-clause-taken : goal.returns-in-Err-clause-taken
returns-in-Err-clause-taken c =
    let xs = c.args.rows.now.items in
    let found = subst (λ (l : List Row). FoundRow l c.args.channel (Err c.in-Err.field-0)) c.as_slice.ensures.value c.in-Err.ensures in
    record {
      taken = [];
      joined = refl;
      bytes_are = sym (append-nil c.args.bytes.now.items);
      parts_are = sym (append-nil c.args.parts.now.items);
      later = none_taken xs c.in-Err.field-0 c.args.channel found c.requires.first;
    }
