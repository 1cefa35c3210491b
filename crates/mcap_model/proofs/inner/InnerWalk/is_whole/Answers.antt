use Rattle.std.proofs.Common.{◌≡◌, length, ap, arith, length-drop}
use Rattle.std.proofs.Math.ListN.{drop_of_length-le}
use Rattle.std.proofs.lemmas.Bool.{eqb-true}
use Rattle.std.proofs.lemmas.Grind.{common_steps}
use Rattle.mcap_model.proofs.inner.InnerWalk.is_whole.Goals as goal

pub returns : goal.returns
returns c =
    let walk = c.args.self.now in (
      λ e. let here = eqb-true walk.at (length walk.records.now) e in drop_of_length-le walk.records.now (omega (arith, here)),
      λ e. let size = ap length e in let here = length-drop walk.at walk.records.now in let same : walk.at ≡ length walk.records.now = omega (arith, size, here, walk.within) in grind (arith, common_steps),
    )
