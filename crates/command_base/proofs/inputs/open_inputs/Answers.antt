-- An input that was given is one more.
use Rattle.std.proofs.Common.{rules, ◌≡◌, ◌+◌, ℕ, List, take, subst, sym, ap, ◌∙◌, ◌++◌, ◌∷◌, []}
use Rattle.std.proofs.lemmas.List.{take_more}
use Rattle.command_base.specs.InputsSteps.{InputsOpened}
use Rattle.command_base.proofs.SomeInputs.{one_opened}
use Rattle.command_base.proofs.inputs.open_inputs.Goals as goal

pub inputs-preserved : goal.inputs-preserved
inputs-preserved g c =
    let what = c.args.what.now in
    let kind = g.K.InputKind.kind what in
    let seen = g.K.InputKind.seen what in
    let w0 = g.W.World.state c.args.world.now in
    let w2 = g.W.World.state c.open.new.world in
    let f = c.as_str.result.now in
    let inputs = c.args.inputs.now in
    let i = c.inputs.input-index in
    let more : take i inputs ++ f ∷ [] ≡ take (i + 1) inputs =
    ap (λ (x : List ℕ). take i inputs ++ x ∷ []) (c.as_str.ensures.same ∙ c.input-item.is) ∙ sym (take_more inputs i c.input-item.result c.inputs-test.true) in
    record {
      opened = subst (InputsOpened kind seen w0 w2 (take (i + 1) inputs)) (sym c.push_reserved.ensures.items) (subst (λ (l : List (List ℕ)). InputsOpened kind seen w0 w2 l (c.inputs.objects.items ++ c.in-Ok.object ∷ [])) more
          (one_opened kind seen w0 (g.W.World.state c.inputs.world) w2 (take i inputs) c.inputs.objects.items f c.in-Ok.object (g.met.K.InputKind.before what) c.inputs.invariant.opened c.in-Ok.ensures.opens c.in-Ok.ensures.counts c.in-Ok.ensures.cause c.in-Ok.ensures.seen));
      count = search rules;
      room = search rules;
    }
