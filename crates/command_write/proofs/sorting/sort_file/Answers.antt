-- What the calls did is what is promised of the command.
use Rattle.std.proofs.Common.{◌≡◌, ℕ, Bool, List, [], ◌∷◌, length, refl, subst, sym}
use Rattle.mcap_io.specs.declared.outside.ObjectKind.TheVariants as kinds
use Rattle.command_base.specs.Scenes.{scene}
use Rattle.command_base.specs.Outputs.{inputs_and_output, WritesOutput}
use Rattle.command_base.specs.OutputSteps.{NamesEnd}
use Rattle.command_write.specs.Halting.{name_at}
use Rattle.command_write.specs.Sort.{ending_of_sorting}
use Rattle.command_write.specs.SortingSteps.{NamesSorted}
use Rattle.command_write.proofs.Sortings.{sorted}
use Rattle.command_write.proofs.sorting.sort_file.Goals as goal

pub sort_names-ordered-requires-clause-one : goal.sort_names-ordered-requires-clause-one
sort_names-ordered-requires-clause-one g c κs within = subst (λ (l : List (List ℕ)). length l ≡ 1) (sym c.from_ref-inputs.ensures.value) refl

pub returns : goal.returns
returns g c =
    let input = c.args.input.now in
    let out = c.args.out_name.now in
    let inputs = c.from_ref-inputs.result.now in
    let one : inputs ≡ input ∷ [] = c.from_ref-inputs.ensures.value in
    let ordered = c.sort_names-ordered.result in
    let old = g.W.World.state c.args.world.now in
    let new = g.W.World.state c.sort_names-ordered.new.world in
    let scene_old = scene old (g.O.Sink.state c.args.out.now) (g.E.Sink.state c.args.err.now) in
    let scene_new = scene new (g.O.Sink.state c.answer_writing.new.out) (g.E.Sink.state c.answer_writing.new.err) in
    let names : NamesSorted c.args.chunk (input ∷ []) out old new ordered =
    subst (λ (l : List (List ℕ)). NamesSorted c.args.chunk l out old new ordered) one c.sort_names-ordered.ensures in
    let ends = subst (λ (l : List (List ℕ)). NamesEnd (inputs_and_output kinds.Store l out) old new names.entries c.as_slice.result.now ordered.out_failed (λ some. ending_of_sorting (name_at l 0) ordered.sorting)) (sym one)
    (subst (λ (l : List Bool). NamesEnd (inputs_and_output kinds.Store (input ∷ []) out) old new names.entries l ordered.out_failed (λ some. ending_of_sorting input ordered.sorting)) (sym c.as_slice.ensures.value) names.ends) in
    let writes = c.answer_writing.ensures kinds.Store old names.entries c.of-before.ensures.are ends in
    sorted c.args.chunk input out scene_old scene_new ordered c.answer_writing.result names
    (subst (λ (l : List (List ℕ)). WritesOutput (inputs_and_output kinds.Store l out) scene_old scene_new names.entries (λ some. ending_of_sorting (name_at l 0) ordered.sorting) c.answer_writing.result) one writes)
