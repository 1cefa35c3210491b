-- What is kept of repaired bytes is one.
use Rattle.std.proofs.Common.{List, subst}
use Rattle.mcap_model.specs.Tops.{Top}
use Rattle.mcap_model.specs.Repaired.{Repairs}
use Rattle.mcap_model.specs.Laws.{RepairsAreOne}
use Rattle.mcap_model.proofs.Readings.{kept_once}
use Rattle.mcap_model.proofs.Repairs.{repairs_once}

pub repairs_are_one : RepairsAreOne
repairs_are_one bytes profile other_profile extras other_extras history other_history one two =
    let tops = kept_once bytes two.tops one.tops two.kept one.kept in
    repairs_once one.tops extras other_extras profile other_profile history other_history one.repairs (subst (λ (l : List Top). Repairs l other_profile other_extras other_history) tops two.repairs)
