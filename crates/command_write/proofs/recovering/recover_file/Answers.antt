-- What the calls did is what is promised of the command.
use Rattle.std.proofs.Common.{◌≡◌, ℕ, Bool, List, [], ◌∷◌, subst, sym}
use Rattle.mcap_io.specs.declared.outside.ObjectKind.TheVariants as kinds
use Rattle.command_base.specs.Scenes.{scene}
use Rattle.command_base.specs.Outputs.{inputs_and_output, WritesOutput}
use Rattle.command_base.specs.OutputSteps.{NamesEnd}
use Rattle.command_write.specs.Halting.{name_at}
use Rattle.command_write.specs.Recover.{ending_of_recovery}
use Rattle.command_write.specs.RecoverSteps.{NamesRecovered}
use Rattle.command_write.proofs.Recoveries.{recovered}
use Rattle.command_write.proofs.recovering.recover_file.Goals as goal

pub returns : goal.returns
returns g c =
    let input = c.args.input.now in
    let out = c.args.out_name.now in
    let restored = c.recover_names-restored.result in
    let w0 = g.W.World.state c.args.world.now in
    let w1 = g.W.World.state c.recover_names-restored.new.world in
    let old = scene w0 (g.O.Sink.state c.args.out.now) (g.E.Sink.state c.args.err.now) in
    let new = scene w1 (g.O.Sink.state c.answer_writing.new.out) (g.E.Sink.state c.answer_writing.new.err) in
    let names : NamesRecovered c.args.chunk input out w0 w1 restored =
    subst (λ (name : List ℕ). NamesRecovered c.args.chunk name out w0 w1 restored) c.as_str.ensures.same c.recover_names-restored.ensures in
    let inputs = c.from_ref-inputs.result.now in
    let one : inputs ≡ input ∷ [] = c.from_ref-inputs.ensures.value in
    let ends = subst (λ (l : List (List ℕ)). NamesEnd (inputs_and_output kinds.Source l out) w0 w1 names.entries c.from_ref-flags.result.now restored.out_failed (λ some. ending_of_recovery (name_at l 0) restored.recovery)) (sym one)
    (subst (λ (l : List Bool). NamesEnd (inputs_and_output kinds.Source (input ∷ []) out) w0 w1 names.entries l restored.out_failed (λ some. ending_of_recovery input restored.recovery)) (sym c.from_ref-flags.ensures.value) names.ends) in
    let writes = c.answer_writing.ensures kinds.Source w0 names.entries c.of-before.ensures.are ends in
    recovered c.args.chunk input out old new restored c.answer_writing.result names
    (subst (λ (l : List (List ℕ)). WritesOutput (inputs_and_output kinds.Source l out) old new names.entries (λ some. ending_of_recovery (name_at l 0) restored.recovery) c.answer_writing.result) one writes)
