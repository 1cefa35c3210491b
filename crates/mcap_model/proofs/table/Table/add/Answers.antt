use Rattle.std.proofs.Common.{◌≡◌, ◌<◌, ◌∷◌, [], suc, ℕ, length, length-append, List, set, sym, ap, subst, arith}
use Rattle.mcap_model.specs.Places.{At}
use Rattle.mcap_model.specs.declared.table.Declared.{Declared}
use Rattle.mcap_model.specs.Indexed.{ArePlacesOf}
use Rattle.mcap_model.proofs.TablePlaces.{grown, added}
use Rattle.mcap_model.proofs.table.Table.add.Goals as goal

pub invariant_of-self : goal.invariant_of-self
invariant_of-self c = grown c.self.inside.places.items c.make_place.new.places.items c.self.inside.first.items c.self.invariant c.in-Err.ensures.kept c.in-Err.ensures.none

pub invariant_of-self-in-Err-copied : goal.invariant_of-self-in-Err-copied
invariant_of-self-in-Err-copied c = grown c.self.inside.places.items c.make_place.new.places.items c.self.inside.first.items c.self.invariant c.in-Ok.ensures.kept c.in-Ok.ensures.none

pub invariant_of-self-in-Err-push : goal.invariant_of-self-in-Err-push
invariant_of-self-in-Err-push c =
    subst (ArePlacesOf c.make_place.new.places.items) (sym c.in-Err-push.ensures.items)
    (grown c.self.inside.places.items c.make_place.new.places.items c.self.inside.first.items c.self.invariant c.in-Ok.ensures.kept c.in-Ok.ensures.none)

pub invariant_of-self-2 : goal.invariant_of-self-2
invariant_of-self-2 c =
    let before = grown c.self.inside.places.items c.make_place.new.places.items c.self.inside.first.items c.self.invariant c.in-Ok.ensures.kept c.in-Ok.ensures.none in
    let d : Declared = record { id = c.args.id; content = c.in-Ok-copied.content } in
    let first = c.self.inside.first.items in
    let lacks = λ (k : ℕ) (e : Declared) (at : At first k e) (same : e.id ≡ c.args.id). c.requires k e (subst (λ (l : List Declared). At l k e) c.self.view_is at) same in
    let size : suc (length first) ≡ c.len.result = omega (arith, c.len.ensures, c.push.new.self.ok.0, ap length c.in-Ok-push.ensures.items, length-append first (d ∷ [])) in
    let room : c.args.id < length c.make_place.new.places.items = omega (arith, c.in-Ok.ensures.room, c.make_place.new.places.ok.0) in
    subst (λ (n : ℕ). ArePlacesOf (set c.make_place.new.places.items c.args.id n) c.push.new.self.items) size
    (subst (ArePlacesOf (set c.make_place.new.places.items c.args.id (suc (length first)))) (sym c.in-Ok-push.ensures.items)
    (added c.make_place.new.places.items first d before room lacks))
