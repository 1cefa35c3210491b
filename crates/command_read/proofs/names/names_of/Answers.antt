use Rattle.std.proofs.Common.{◌+◌, List, map, take, sym, subst, refl}
use Rattle.rec_index.specs.Parsed.{chunk_index_fields}
use Rattle.mcap_model.specs.Tops.{Top}
use Rattle.std.specs.List.Sorted.{IsStrictlySortedBy}
use Rattle.std.specs.BTreeSet.{insert_key}
use Rattle.mcap_model.proofs.OneMore.{taken_more}
use Rattle.command_read.specs.Told.{AreNames}
use Rattle.command_read.proofs.Named.{Key, name_of, key_cmp, names_more}
use Rattle.command_read.proofs.names.names_of.Goals as goal

pub indexes-preserved : goal.indexes-preserved
indexes-preserved c =
    let indexes = c.args.loaded.now.chunk_indexes in
    let i = c.indexes.i in
    let given = c.chunk_index.ensures in
    let key : Key = c.chunk_index.result.compression in
    let old : List Key = c.indexes.names.keys in
    let sorted : IsStrictlySortedBy key_cmp (insert_key key_cmp old key) = subst (IsStrictlySortedBy key_cmp) c.in-Ok.ensures.keys c.insert.ensures.ordered in
    subst (λ (l : List Key). AreNames (take (i + 1) indexes) (map name_of l)) (sym c.in-Ok.ensures.keys)
    (subst (λ (l : List Top). AreNames l (map name_of (insert_key key_cmp old key))) (sym (taken_more indexes i given.0 given.1))
    (names_more (take i indexes) given.0 (chunk_index_fields c.chunk_index.result) old key given.2 refl sorted c.indexes.invariant))
