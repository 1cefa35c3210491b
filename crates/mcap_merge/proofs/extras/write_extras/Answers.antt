use Rattle.std.proofs.Common.{List, [], ◌++◌, take, get_or, sym, subst, ◌∙◌, arith}
use Rattle.mcap_model.specs.Places.{At, Each}
use Rattle.mcap_model.specs.Tops.{Top}
use Rattle.mcap_model.specs.ReadBack.{IsExtra}
use Rattle.mcap_model.proofs.Places.{at_read}
use Rattle.mcap_merge.specs.declared.input.Extra.{Extra}
use Rattle.mcap_merge.specs.Inputs.{extra_top, extra_tops}
use Rattle.mcap_merge.specs.Writing.{extras_of}
use Rattle.mcap_merge.proofs.Profiles.{inputs_next, inputs_rest}
use Rattle.mcap_merge.proofs.extras.write_extras.Goals as goal

pub write_held-requires-clause-meet : goal.write_held-requires-clause-meet
write_held-requires-clause-meet g c =
    let xs = c.args.inputs.now in
    let k = c.inputs.k in
    let x = get_or xs k c.index-inputs-k.result in
    let at : At xs k x = at_read xs k c.index-inputs-k.result (omega arith) in
    let meet = c.requires.meet in
    subst (λ (l : List Extra). Each (λ e. IsExtra (extra_top e)) l) (sym c.as_slice.ensures.value) (meet k x at)

pub returns-in-Err-clause-adds : goal.returns-in-Err-clause-adds
returns-in-Err-clause-adds g c =
    let xs = c.args.inputs.now in
    let k = c.inputs.k in
    let x = get_or xs k c.index-inputs-k.result in
    let at : At xs k x = at_read xs k c.index-inputs-k.result (omega arith) in
    let one = subst (λ (l : List Extra). g.P.Pen.adds c.inputs.pen c.write_held.new.pen (extra_tops l) []) c.as_slice.ensures.value c.in-Err.ensures.adds in
    let rest = inputs_rest xs k x at in
    let before = extras_of (take k xs) in
    let now = g.P.Pen.adds_on c.args.pen.now c.inputs.pen c.write_held.new.pen before (extra_tops x.extras.items) [] [] c.inputs.invariant.2 one in
    let all = g.P.Pen.adds_on c.args.pen.now c.write_held.new.pen c.write_held.new.pen (before ++ extra_tops x.extras.items) rest.0 [] [] now (g.P.Pen.adds_all c.write_held.new.pen c.in-Err.stop rest.0 [] c.in-Err.ensures.stopped) in
    subst (λ (l : List Top). g.P.Pen.adds c.args.pen.now c.write_held.new.pen l []) (sym rest.1) all

pub inputs-preserved : goal.inputs-preserved
inputs-preserved g c =
    let xs = c.args.inputs.now in
    let k = c.inputs.k in
    let x = get_or xs k c.index-inputs-k.result in
    let at : At xs k x = at_read xs k c.index-inputs-k.result (omega arith) in
    let one = subst (λ (l : List Extra). g.P.Pen.adds c.inputs.pen c.write_held.new.pen (extra_tops l) []) c.as_slice.ensures.value c.in-Ok.ensures.adds in
    let now = g.P.Pen.adds_on c.args.pen.now c.inputs.pen c.write_held.new.pen (extras_of (take k xs)) (extra_tops x.extras.items) [] [] c.inputs.invariant.2 one in (
      c.in-Ok.ensures.goes_on,
      c.in-Ok.ensures.cause ∙ c.inputs.invariant.1,
      subst (λ (l : List Top). g.P.Pen.adds c.args.pen.now c.write_held.new.pen l []) (sym (inputs_next xs k x at)) now,
    )
