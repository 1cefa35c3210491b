use Rattle.std.proofs.Common.{ℕ, List, [], ◌∷◌, ◌++◌, take, sym, subst, ◌∙◌, arith}
use Rattle.mcap_model.specs.Places.{At}
use Rattle.mcap_model.specs.Tops.{Top}
use Rattle.mcap_model.specs.Made.{top}
use Rattle.mcap_model.specs.ReadBack.{IsExtra}
use Rattle.mcap_model.proofs.Places.{at_read}
use Rattle.mcap_merge.specs.Inputs.{extra_top, extra_tops}
use Rattle.mcap_merge.proofs.Profiles.{extras_next, extras_rest}
use Rattle.mcap_merge.proofs.extras.write_held.Goals as goal

pub add_extra-requires-clause-extra : goal.add_extra-requires-clause-extra
add_extra-requires-clause-extra g c =
    let xs = c.args.extras.now in
    let k = c.extras.k in
    let x = c.index-extras-k.result in
    let at : At xs k x = subst (At xs k) (sym c.index-extras-k.is) (at_read xs k x (omega arith)) in
    let meet = c.requires.meet in
    subst (λ (l : List ℕ). IsExtra (top x.op l)) (sym c.as_slice.ensures) (meet k x at)

pub returns-in-Err-clause-adds : goal.returns-in-Err-clause-adds
returns-in-Err-clause-adds g c =
    let xs = c.args.extras.now in
    let k = c.extras.k in
    let x = c.index-extras-k.result in
    let at : At xs k x = subst (At xs k) (sym c.index-extras-k.is) (at_read xs k x (omega arith)) in
    let one = subst (λ (l : List ℕ). g.P.Pen.adds c.extras.pen c.add_extra.new.self (top x.op l ∷ []) []) c.as_slice.ensures c.in-Err.ensures.adds in
    let rest = extras_rest xs k x at in
    let before = extra_tops (take k xs) in
    let now = g.P.Pen.adds_on c.args.pen.now c.extras.pen c.add_extra.new.self before (extra_top x ∷ []) [] [] c.extras.invariant.2 one in
    let all = g.P.Pen.adds_on c.args.pen.now c.add_extra.new.self c.add_extra.new.self (before ++ extra_top x ∷ []) rest.0 [] [] now (g.P.Pen.adds_all c.add_extra.new.self c.in-Err.stop rest.0 [] c.in-Err.ensures.stopped) in
    subst (λ (l : List Top). g.P.Pen.adds c.args.pen.now c.add_extra.new.self l []) (sym rest.1) all

pub extras-preserved : goal.extras-preserved
extras-preserved g c =
    let xs = c.args.extras.now in
    let k = c.extras.k in
    let x = c.index-extras-k.result in
    let at : At xs k x = subst (At xs k) (sym c.index-extras-k.is) (at_read xs k x (omega arith)) in
    let one = subst (λ (l : List ℕ). g.P.Pen.adds c.extras.pen c.add_extra.new.self (top x.op l ∷ []) []) c.as_slice.ensures c.in-Ok.ensures.adds in
    let now = g.P.Pen.adds_on c.args.pen.now c.extras.pen c.add_extra.new.self (extra_tops (take k xs)) (extra_top x ∷ []) [] [] c.extras.invariant.2 one in (
      c.in-Ok.ensures.goes_on,
      c.in-Ok.ensures.cause ∙ c.extras.invariant.1,
      subst (λ (l : List Top). g.P.Pen.adds c.args.pen.now c.add_extra.new.self l []) (sym (extras_next xs k x at)) now,
    )
