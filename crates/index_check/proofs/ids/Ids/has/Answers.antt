use Rattle.std.proofs.Common.{◌<◌, ℕ, true, false, List, length, refl, sym, subst, arith}
use Rattle.std.proofs.lemmas.Bool.{both_ways}
use Rattle.mcap_model.specs.Places.{At, Has}
use Rattle.mcap_model.proofs.Places.{at_within, at_one}
use Rattle.index_check.proofs.Marks.{mark_read}
use Rattle.index_check.proofs.ids.Ids.has.Goals as goal

pub returns-then-place-len : goal.returns-then-place-len
returns-then-place-len c = (
  λ e. absurd (both_ways false refl e),
  λ has.
      let marked = (c.self.invariant.marked c.args.id).1 (subst (λ (l : List ℕ). Has l c.args.id) (sym c.self.view_is) has) in
      let within = at_within c.self.inside.marks.items c.args.id true marked in
      absurd (omega (arith, within, c.self.inside.marks.ok.0)),
)

pub returns : goal.returns
returns c =
    let within : c.args.id < length c.self.inside.marks.items = omega (arith, c.self.inside.marks.ok.0) in
    let at = mark_read c.self.inside.marks.items c.args.id c.index.result.now within c.index.ensures in (
      λ e. subst (λ (l : List ℕ). Has l c.args.id) c.self.view_is ((c.self.invariant.marked c.args.id).0 (subst (At c.self.inside.marks.items c.args.id) e at)),
      λ has. at_one c.self.inside.marks.items c.args.id c.index.result.now true at ((c.self.invariant.marked c.args.id).1 (subst (λ (l : List ℕ). Has l c.args.id) (sym c.self.view_is) has)),
    )
