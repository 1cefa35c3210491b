use Rattle.std.proofs.Common.{◌≡◌, ◌-◌, List, sym, ap, subst, ◌∙◌, arith}
use Rattle.std.proofs.lemmas.Option.{get_or_from_slice_get}
use Rattle.mcap_model.specs.Places.{At}
use Rattle.mcap_model.proofs.Places.{at_within}
use Rattle.mcap_model.specs.declared.table.Declared.{Declared}
use Rattle.mcap_model.proofs.TablePlaces.{place_past, place_zero, place_named, place_read}
use Rattle.mcap_model.proofs.table.Table.find.Goals as goal

pub returns-then-id-len : goal.returns-then-id-len
returns-then-id-len c = λ k d at same.
    place_past c.self.inside.places.items c.self.inside.first.items c.args.id k d c.self.invariant
    (subst (λ (l : List Declared). At l k d) (sym c.self.view_is) at) same (omega arith)

pub returns-then-place-eq0 : goal.returns-then-place-eq0
returns-then-place-eq0 c = λ k d at same.
    let there = place_read c.self.inside.places.items c.args.id c.index-place.result.now (omega arith) c.index-place.ensures in
    place_zero c.self.inside.places.items c.self.inside.first.items c.args.id k d c.self.invariant
    (subst (λ (l : List Declared). At l k d) (sym c.self.view_is) at) same (subst (λ x. At c.self.inside.places.items c.args.id x) c.if-place-eq0.true there)

pub index-requires : goal.index-requires
index-requires c =
    let there = place_read c.self.inside.places.items c.args.id c.index-place.result.now (omega arith) c.index-place.ensures in
    let named = place_named c.self.inside.places.items c.self.inside.first.items c.args.id c.index-place.result.now c.self.invariant there c.if-place-eq0.false in
    let within = at_within c.self.inside.first.items (c.index-place.result.now - 1) named.0 named.1 in
    omega (arith, within, c.self.inside.first.ok.0)

pub returns : goal.returns
returns c =
    let there = place_read c.self.inside.places.items c.args.id c.index-place.result.now (omega arith) c.index-place.ensures in
    let named = place_named c.self.inside.places.items c.self.inside.first.items c.args.id c.index-place.result.now c.self.invariant there c.if-place-eq0.false in
    let one : c.index.result.now ≡ named.0 = c.index.ensures ∙ get_or_from_slice_get c.self.inside.first.items (c.index-place.result.now - 1) named.0 c.index.result.now named.1 in (
      c.index-place.result.now - 1,
      named.0,
      subst (λ (l : List Declared). At l (c.index-place.result.now - 1) named.0) c.self.view_is named.1,
      named.2,
      sym (ap (λ (d : Declared). d.content) one) ∙ sym c.as_slice.ensures,
    )
