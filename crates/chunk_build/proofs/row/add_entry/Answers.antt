use Rattle.std.proofs.Common.{◌+◌, Bool, refl, ap, ◌∙◌}
use Rattle.chunk_build.proofs.RowLemmas.{entry_put, size_put, first_of}
use Rattle.chunk_build.proofs.row.add_entry.Goals as goal

pub returns-clause-entries : goal.returns-clause-entries
returns-clause-entries c =
    entry_put c.args.rows.now.items c.args.i c.args.channel c.args.time c.args.offset (record { channel = c.index_mut-row.result.now.channel; entries = c.add_u64-2.new.out })
    c.index_mut-row.result.now c.add_u64.new.out.items c.requires.rise c.requires.row.within c.index_mut-row.ensures.value c.requires.row.same refl
    c.add_u64-2.ensures.items c.add_u64.ensures.items

pub returns-clause-size : goal.returns-clause-size
returns-clause-size c =
    size_put c.args.rows.now.items c.args.i c.args.time c.args.offset c.growth-more.result c.index_mut-row.result.now.entries.len (record { channel = c.index_mut-row.result.now.channel; entries = c.add_u64-2.new.out })
    c.index_mut-row.result.now c.add_u64.new.out.items c.requires.row.within c.index_mut-row.ensures.value
    c.add_u64-2.ensures.items c.add_u64.ensures.items c.index_mut-row.result.now.entries.ok.0 (c.growth-more.ensures ∙ ap (λ (b : Bool). 16 + first_of b) c.is_empty.ensures)
