use Rattle.std.proofs.Common.{ℕ, ◌<◌, ◌≤◌, ◌^◌, List, ◌++◌, length, map, sym, ap, subst, ◌∙◌, arith}
use Rattle.std.specs.Prelude.{All}
use Rattle.mcap_wire.specs.Maps.{KeysDiffer}
use Rattle.mcap_wire.specs.Arrays.{entry_texts}
use Rattle.mcap_model.specs.declared.block.IndexPart.{IndexPart}
use Rattle.summary_write.proofs.Indexing.{moved, keys_differ, counts_fit, block_rises, block_small, block_chunk, block_index}
use Rattle.summary_write.proofs.summary.add_chunk_index.Goals as goal

pub offsets_of-requires-clause-small : goal.offsets_of-requires-clause-small
offsets_of-requires-clause-small c =
    let size = ap (λ (l : List ℕ). length l) c.as_slice.ensures in
    subst (All (λ (p : IndexPart). p.offset ≤ 9223372036854775808)) (sym c.as_slice-2.ensures.value) (block_small c.args.b.now c.requires.block.0 9223372036854775808 c.requires.block.1 (omega (arith, size, c.as_slice.type_inv.1)))

pub overflow_sub-records : goal.overflow_sub-records
overflow_sub-records c = omega (arith, block_chunk c.args.b.now c.requires.block.0 c.requires.block.1)

pub of-requires : goal.of-requires
of-requires c =
    subst (λ (l : List (ℕ × ℕ)). KeysDiffer l) (sym c.as_slice-3.ensures.value)
    (keys_differ c.in-Ok.offsets.items (block_rises c.args.b.now c.requires.block.0 c.args.at c.in-Ok.offsets.items c.requires.block.1 (c.in-Ok.ensures.are ∙ ap (map (moved c.args.at)) c.as_slice-2.ensures.value)))

pub frame-requires-clause-message_index_offsets_fit : goal.frame-requires-clause-message_index_offsets_fit
frame-requires-clause-message_index_offsets_fit c =
    let rises = block_rises c.args.b.now c.requires.block.0 c.args.at c.in-Ok.offsets.items c.requires.block.1 (c.in-Ok.ensures.are ∙ ap (map (moved c.args.at)) c.as_slice-2.ensures.value) in
    subst (λ (l : List (ℕ × ℕ)). length (entry_texts 2 l) < 2 ^ 32) (sym (c.of.ensures ∙ c.as_slice-3.ensures.value)) (counts_fit c.in-Ok.offsets.items rises c.in-Ok.ensures.ids)

pub returns-in-Ok-frame-clause-ok : goal.returns-in-Ok-frame-clause-ok
returns-in-Ok-frame-clause-ok c records is =
    c.in-Ok-frame.ensures.ok
    ∙ ap (λ (l : List ℕ). c.args.framed.now.items ++ l)
    (block_index c.args.b.now records c.args.at (length c.as_slice.result.now) c.of.result is
    (c.of.ensures ∙ c.as_slice-3.ensures.value ∙ c.in-Ok.ensures.are ∙ ap (map (moved c.args.at)) c.as_slice-2.ensures.value)
    (ap (λ (l : List ℕ). length l) c.as_slice.ensures))
