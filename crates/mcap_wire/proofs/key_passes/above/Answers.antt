use Rattle.std.proofs.Common.{◌≡◌, List, ℕ, ap, sym, ◌∙◌, Bor}
use Rattle.std.specs.Prelude.{Option, Some}
use Rattle.mcap_wire.specs.KeyPasses.{is_above}
use Rattle.mcap_wire.proofs.PairWalks.{above_answers}
use Rattle.mcap_wire.proofs.key_passes.above.Goals as goal

pub returns-in-Some : goal.returns-in-Some
returns-in-Some c =
    let is : c.args.bound ≡ Some c.in-Some.bound = c.in-Some.is in
    sym (ap (λ (b : Option (Bor (List ℕ))). is_above b c.args.key.now) is ∙ above_answers c.args.key.now c.in-Some.bound.now _ c.gt.ensures)
