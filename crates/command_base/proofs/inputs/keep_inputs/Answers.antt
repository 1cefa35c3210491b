-- One input more was kept.
use Rattle.std.proofs.Common.{◌≡◌, ◌∙◌, ◌++◌, ◌∷◌, ◌<◌, [], rules, length, get_or, sym, ap, subst, ℕ, List, ◌+◌, vec_len, length-append, arith}
use Rattle.command_base.specs.InputsSteps.{OneKept}
use Rattle.command_base.proofs.SomeInputs.{KeptSoFar, kept_none, kept_more}
use Rattle.command_base.proofs.inputs.keep_inputs.Goals as goal

pub objects-init : goal.objects-init
objects-init g c =
    let what = c.args.what.now in
    record {
      kept = kept_none (g.K.InputKind.kind what) (g.K.InputKind.keeping what) (g.W.World.state c.args.world.now) c.args.inputs.now c.args.objects.items c.args.failed.now.items (search rules) c.requires.none;
      count = search rules;
      room = search rules;
    }

pub objects-preserved : goal.objects-preserved
objects-preserved g c =
    let what = c.args.what.now in
    let kind = g.K.InputKind.kind what in
    let keeping = g.K.InputKind.keeping what in
    let inputs = c.args.inputs.now in
    let left = c.objects.objects.items in
    let after = c.pop.new.self.items in
    let items : left ≡ after ++ c.in-Some.object ∷ [] = search rules in
    let long : length left ≡ length after + 1 = ap length items ∙ length-append after (c.in-Some.object ∷ []) in
    let count : length left + vec_len c.objects.failed ≡ length inputs = search rules in
    let within : length after < length inputs = omega (arith, long, count) in
    let at_end : c.len.result ≡ length after = search rules in
    let w1 = g.W.World.state c.objects.world in
    let w2 = g.W.World.state c.keep-input_failed.new.world in
    let name : c.as_str.result.now ≡ get_or inputs (length after) c.index-inputs-len.result =
    c.as_str.ensures.same ∙ c.index-inputs-len.is ∙ ap (λ (n : ℕ). get_or inputs n c.index-inputs-len.result) at_end in
    let kept : OneKept kind keeping w1 w2 (get_or inputs (length after) c.index-inputs-len.result) c.in-Some.object c.keep-input_failed.result =
    subst (λ (f : List ℕ). OneKept kind keeping w1 w2 f c.in-Some.object c.keep-input_failed.result) name c.keep-input_failed.ensures in
    record {
      kept = subst (KeptSoFar kind keeping (g.W.World.state c.args.world.now) w2 inputs c.args.objects.items after) (sym c.push_reserved.ensures.items)
          (kept_more kind keeping (g.W.World.state c.args.world.now) w1 w2 inputs c.args.objects.items left after c.in-Some.object c.objects.failed.items c.keep-input_failed.result c.index-inputs-len.result
          (g.met.K.InputKind.reads what) c.objects.invariant.kept items within kept);
      count = search rules;
      room = search rules;
    }
