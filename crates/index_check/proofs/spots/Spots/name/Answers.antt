use Rattle.std.proofs.Common.{List, true, false, set, refl, sym, ap, subst, ◌∙◌, arith}
use Rattle.std.specs.Prelude.{Some}
use Rattle.mcap_model.specs.Places.{At}
use Rattle.mcap_model.proofs.Places.{at_within, at_one}
use Rattle.index_check.specs.declared.spots.Spot.{Spot}
use Rattle.index_check.specs.Spots.{FindsSpot, IsOnlySpot, spot}
use Rattle.index_check.proofs.Spotted.{spot_read, made_spot, ascends_set}
use Rattle.index_check.proofs.spots.Spots.name.Goals as goal

pub returns-then-index : goal.returns-then-index
returns-then-index c =
    let items = c.self.inside.spots.items in
    let place = c.in-Some.place in
    let x = c.index.result.now in
    let found = subst (λ (l : List Spot). FindsSpot l c.args.offset (Some place)) c.deref.ensures.value c.in-Some.ensures in
    let within = at_within items place found.0 found.1 in
    let at = spot_read items place x within c.index.ensures in
    let same = at_one items place x found.0 at found.1 in
    let is = made_spot x c.args.offset true (ap (λ (s : Spot). s.offset) same ∙ found.2) c.if-index.true in (
      (
        place,
        subst (λ (l : List Spot). At l place (spot c.args.offset true)) c.self.view_is (subst (At items place) is at),
        subst (λ (l : List Spot). IsOnlySpot l c.args.offset place) c.self.view_is found.3,
      ),
      refl,
    )

pub index_mut-requires : goal.index_mut-requires
index_mut-requires c =
    let items = c.self.inside.spots.items in
    let found = subst (λ (l : List Spot). FindsSpot l c.args.offset (Some c.in-Some.place)) c.deref.ensures.value c.in-Some.ensures in
    let within = at_within items c.in-Some.place found.0 found.1 in
    omega (arith, within, c.self.inside.spots.ok.0)

pub invariant_of-self : goal.invariant_of-self
invariant_of-self c =
    let items = c.self.inside.spots.items in
    let place = c.in-Some.place in
    let found = subst (λ (l : List Spot). FindsSpot l c.args.offset (Some place)) c.deref.ensures.value c.in-Some.ensures in
    ascends_set items place found.0 (spot c.args.offset true) c.self.invariant found.1 (sym found.2)

pub returns : goal.returns
returns c =
    let items = c.self.inside.spots.items in
    let place = c.in-Some.place in
    let x = c.index.result.now in
    let found = subst (λ (l : List Spot). FindsSpot l c.args.offset (Some place)) c.deref.ensures.value c.in-Some.ensures in
    let within = at_within items place found.0 found.1 in
    let at = spot_read items place x within c.index.ensures in
    let same = at_one items place x found.0 at found.1 in
    let is = made_spot x c.args.offset false (ap (λ (s : Spot). s.offset) same ∙ found.2) c.if-index.false in (
      subst (λ (l : List Spot). At l place (spot c.args.offset false)) c.self.view_is (subst (At items place) is at),
      subst (λ (l : List Spot). IsOnlySpot l c.args.offset place) c.self.view_is found.3,
      ap (λ (l : List Spot). set l place (spot c.args.offset true)) c.self.view_is,
    )
