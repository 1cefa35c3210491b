use Rattle.std.proofs.Common.{◌≡◌, ℕ, ◌+◌, ◌-◌, ◌<◌, List, length, get_or, sym, ap, subst, arith}
use Rattle.std.proofs.lemmas.List.{length-map}
use Rattle.mcap_wire.specs.declared.faults.Cut.{Cut}
use Rattle.mcap_model.specs.Places.{At}
use Rattle.mcap_model.proofs.Flat.{at_mapped}
use Rattle.mcap_model.proofs.Places.{at_read}
use Rattle.mcap_model.specs.Plain.{cut_top}
use Rattle.summary_read.specs.PartSteps.{IsSummaryCut, cut_tops}
use Rattle.summary_read.proofs.loaded.Loaded.chunk_index_offset.Goals as goal

held_within : (summary : List ℕ) (cuts : List Cut) (i : ℕ) → i < length (cut_tops summary cuts) → i < length cuts
held_within summary cuts i within = omega (arith, within, length-map cuts (cut_top summary))

at_index : (cuts : List Cut) (i : ℕ) (c : Cut) → i < length cuts → c ≡ get_or cuts i c → At cuts i c
at_index cuts i c within is = subst (λ (d : Cut). At cuts i d) (sym is) (at_read cuts i c within)

pub overflow_sub-result : goal.overflow_sub-result
overflow_sub-result c =
    let within : c.args.i < length c.self.inside.chunk_indexes.items = held_within c.self.inside.summary.items c.self.inside.chunk_indexes.items c.args.i (subst (λ p. c.args.i < length p.chunk_indexes) (sym c.self.view_is) c.requires) in
    let held : IsSummaryCut c.self.inside.summary.items 8 c.index.result.now = c.self.invariant.4 c.args.i c.index.result.now (at_index c.self.inside.chunk_indexes.items c.args.i c.index.result.now within c.index.ensures) in
    held.head

pub overflow_add-result : goal.overflow_add-result
overflow_add-result c =
    let within : c.args.i < length c.self.inside.chunk_indexes.items = held_within c.self.inside.summary.items c.self.inside.chunk_indexes.items c.args.i (subst (λ p. c.args.i < length p.chunk_indexes) (sym c.self.view_is) c.requires) in
    let held : IsSummaryCut c.self.inside.summary.items 8 c.index.result.now = c.self.invariant.4 c.args.i c.index.result.now (at_index c.self.inside.chunk_indexes.items c.args.i c.index.result.now within c.index.ensures) in
    omega (arith, held.begins, held.ends, c.self.invariant.8)

pub returns : goal.returns
returns c =
    let within : c.args.i < length c.self.inside.chunk_indexes.items = held_within c.self.inside.summary.items c.self.inside.chunk_indexes.items c.args.i (subst (λ p. c.args.i < length p.chunk_indexes) (sym c.self.view_is) c.requires) in
    subst (λ (l : List ℕ). At l c.args.i (c.self.inside.footer.summary_start + (c.index.result.now.from - 9))) (ap (λ p. p.chunk_index_offsets) c.self.view_is)
    (at_mapped (λ (d : Cut). c.self.inside.footer.summary_start + (d.from - 9)) c.self.inside.chunk_indexes.items c.args.i c.index.result.now (at_index c.self.inside.chunk_indexes.items c.args.i c.index.result.now within c.index.ensures))
