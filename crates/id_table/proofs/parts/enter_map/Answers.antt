use Rattle.std.specs.Prelude.{ℕ, List, Option, Some, slice_get}
use Rattle.std.proofs.Common.{sym, ap, subst, ◌∙◌}
use Rattle.mcap_wire.specs.contracts.sameness.PairsPartialEq.TheImpl as it
use Rattle.id_table.specs.Given.{Lacks}
use Rattle.id_table.proofs.Sameness.{map_decides}
use Rattle.id_table.proofs.Places.{entered_last}
use Rattle.id_table.proofs.parts.enter_map.Goals as goal

pub returns-in-Ok-insert-clause-at : goal.returns-in-Ok-insert-clause-at
returns-in-Ok-insert-clause-at c =
    let old = c.args.set.now.keys in
    let new = c.insert.new.self.keys in
    let same = c.in-Ok.ensures in
    let lacks = subst (λ (x : List (List ℕ × List ℕ)). Lacks old x) (sym same) c.in-None.ensures in
    ap (λ (n : ℕ). slice_get new n) c.len-place.ensures.len
    ∙ entered_last it.ghosts.eq map_decides old new c.in-Ok.copy lacks c.in-Ok-insert.ensures.keys
    ∙ ap {B = Option (List (List ℕ × List ℕ))} Some same
