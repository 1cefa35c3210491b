-- The walk has come to the file.
use Rattle.std.proofs.Common.{◌≡◌, suc, ◌-◌, ◌<◌, ◌∷◌, ◌++◌, length, get_or, take, drop, ap, sym, ◌∙◌, inl, arith}
use Rattle.mcap_io.proofs.Walking.{split_there}
use Rattle.io_files.proofs.SameFiles.{same_file}
use Rattle.io_files.proofs.inputs.let_go.Goals as goal

pub returns-then-eq : goal.returns-then-eq
returns-then-eq c =
    let inputs = c.walk.inputs.items in
    let at = c.walk.at - 1 in
    let within : at < length inputs = omega (arith, c.walk-test.true, c.walk.invariant.bound) in
    let d = c.index.result.now in
    let is : get_or inputs at d ≡ c.args.id = sym c.index.ensures ∙ same_file d c.args.id (sym c.eq.ensures ∙ c.if-eq.true) in
    inl (take at inputs, drop (suc at) inputs, sym c.walk.invariant.same ∙ split_there inputs at d within ∙ ap (λ i. take at inputs ++ i ∷ drop (suc at) inputs) is, c.remove-gone.ensures.items)
