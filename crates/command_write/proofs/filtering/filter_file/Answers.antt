-- What the calls did is what is promised of the command.
use Rattle.std.proofs.Common.{◌≡◌, ℕ, Bool, List, [], ◌∷◌, subst, sym}
use Rattle.mcap_io.specs.declared.outside.ObjectKind.TheVariants as kinds
use Rattle.command_base.specs.Scenes.{scene}
use Rattle.command_base.specs.Outputs.{inputs_and_output, WritesOutput}
use Rattle.command_base.specs.OutputSteps.{NamesEnd}
use Rattle.command_write.specs.Halting.{name_at}
use Rattle.command_write.specs.Filter.{ending_of_filtering, filter_request}
use Rattle.command_write.specs.FilterSteps.{NamesFiltered}
use Rattle.command_write.proofs.Filterings.{sifted_so}
use Rattle.command_write.proofs.filtering.filter_file.Goals as goal
use Rattle.mcap_model.specs.Plain.{asked_topic}
use Rattle.mcap_filter.specs.Picked.{asking}

pub returns : goal.returns
returns g c =
    let asked = filter_request (asking c.args.wanted.now.range (asked_topic c.args.wanted.now.topic)) c.args.wanted.now.chunk in
    let input = c.args.input.now in
    let out = c.args.out_name.now in
    let sifted = c.filter_names-sifted.result in
    let w0 = g.W.World.state c.args.world.now in
    let w1 = g.W.World.state c.filter_names-sifted.new.world in
    let old = scene w0 (g.O.Sink.state c.args.out.now) (g.E.Sink.state c.args.err.now) in
    let new = scene w1 (g.O.Sink.state c.answer_writing.new.out) (g.E.Sink.state c.answer_writing.new.err) in
    let names : NamesFiltered asked input out w0 w1 sifted =
    subst (λ (name : List ℕ). NamesFiltered asked name out w0 w1 sifted) c.as_str.ensures.same c.filter_names-sifted.ensures in
    let inputs = c.from_ref-inputs.result.now in
    let one : inputs ≡ input ∷ [] = c.from_ref-inputs.ensures.value in
    let ends = subst (λ (l : List (List ℕ)). NamesEnd (inputs_and_output kinds.Source l out) w0 w1 names.entries c.from_ref-flags.result.now sifted.out_failed (λ some. ending_of_filtering (name_at l 0) sifted.filtering)) (sym one)
    (subst (λ (l : List Bool). NamesEnd (inputs_and_output kinds.Source (input ∷ []) out) w0 w1 names.entries l sifted.out_failed (λ some. ending_of_filtering input sifted.filtering)) (sym c.from_ref-flags.ensures.value) names.ends) in
    let writes = c.answer_writing.ensures kinds.Source w0 names.entries c.of-before.ensures.are ends in
    sifted_so asked input out old new sifted c.answer_writing.result names
    (subst (λ (l : List (List ℕ)). WritesOutput (inputs_and_output kinds.Source l out) old new names.entries (λ some. ending_of_filtering (name_at l 0) sifted.filtering) c.answer_writing.result) one writes)
