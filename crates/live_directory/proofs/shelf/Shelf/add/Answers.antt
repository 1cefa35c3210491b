use Rattle.std.proofs.Common.{rules, ◌≡◌, ◌+◌, ◌++◌, ◌∷◌, [], length, ◌∙◌, arith}
use Rattle.std.proofs.lemmas.Grind.{common_steps}
use mathlib.Core.List.{IsPrefix}
use Rattle.live_directory.proofs.Taking.{longer_by_one}
use Rattle.live_directory.proofs.shelf.Shelf.add.Goals as goal

pub invariant_of-self : goal.invariant_of-self
invariant_of-self g c =
    let len : length c.known-theirs.result.now ≡ length c.self.inside.known + 1 = grind (arith, common_steps) in
    let begins : IsPrefix c.self.inside.known c.known-theirs.result.now = search rules in
    let next = longer_by_one c.self.inside.known c.known-theirs.result.now c.args.batch.now begins len c.known-theirs.ensures in
    let last : c.self.inside.known ++ c.args.batch.now ∷ [] ≡ c.push.new.self.items = search rules in
    c.same-in-Ok-push.ensures ∙ next ∙ last
