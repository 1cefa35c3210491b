use Rattle.std.proofs.Common.{◌≡◌, ℕ, suc, ◌+◌, ◌-◌, ◌<◌, List, [], ◌∷◌, ◌++◌, length, get_or, take, set, sym, subst, rules, arith}
use Rattle.std.proofs.lemmas.List.{length-set}
use Rattle.mcap_model.specs.Places.{At}
use Rattle.mcap_model.proofs.Places.{at_read}
use Rattle.mcap_model.proofs.Lists.{length-take_at}
use Rattle.mcap_model.proofs.OneMore.{taken_more}
use Rattle.command_read.specs.IdTables.{IsPlaceTable}
use Rattle.command_read.proofs.Places.{table_again, table_new}
use Rattle.command_read.proofs.firsts.place_table.Goals as goal

pub ids-preserved-then-place-gt0 : goal.ids-preserved-then-place-gt0
ids-preserved-then-place-gt0 c =
    let ids = c.args.ids.now in
    let table = c.ids.table.items in
    let place = c.index-place.result.now in
    let id = get_or ids c.ids.i 0 in
    let at : At ids c.ids.i id = at_read ids c.ids.i 0 c.ids-test.true in
    let within : id < length table = search rules in
    let next : suc (place - 1) ≡ place = omega arith in
    let there : At table id (suc (place - 1)) = subst (At table id) (sym next) (subst (At table id) (sym c.index-place.ensures) (at_read table id place within)) in (
      c.ids.invariant.0,
      subst (λ (l : List ℕ). IsPlaceTable l table) (sym (taken_more ids c.ids.i id at)) (table_again (take c.ids.i ids) table id (place - 1) c.ids.invariant.1 there),
    )

pub ids-preserved : goal.ids-preserved
ids-preserved c =
    let ids = c.args.ids.now in
    let table = c.ids.table.items in
    let place = c.index-place.result.now in
    let id = get_or ids c.ids.i 0 in
    let at : At ids c.ids.i id = at_read ids c.ids.i 0 c.ids-test.true in
    let within : id < length table = search rules in
    let none : place ≡ 0 = omega arith in
    let there : At table id 0 = subst (At table id) none (subst (At table id) (sym c.index-place.ensures) (at_read table id place within)) in
    let next : suc (length (take c.ids.i ids)) ≡ c.ids.i + 1 = omega (arith, length-take_at ids c.ids.i id at) in (
      rw (length-set table id (c.ids.i + 1)) c.ids.invariant.0,
      subst (λ (l : List ℕ). IsPlaceTable l (set table id (c.ids.i + 1))) (sym (taken_more ids c.ids.i id at))
          (subst (λ (n : ℕ). IsPlaceTable (take c.ids.i ids ++ id ∷ []) (set table id n)) next (table_new (take c.ids.i ids) table id c.ids.invariant.1 there)),
    )
