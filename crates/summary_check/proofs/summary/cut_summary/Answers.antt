use Rattle.std.proofs.Common.{◌≡◌, ◌≤◌, List, [], ◌∷◌, length, refl, subst, arith}
use Rattle.mcap_wire.specs.declared.faults.Cut.{Cut}
use Rattle.summary_check.specs.Cutting.{AreCutBehind}
use Rattle.summary_check.proofs.Filing.{foot_inside, footer_room, nothing_flaw, footless_flaw}
use Rattle.summary_check.proofs.summary.cut_summary.Goals as goal

empty : (l : List Cut) → length l ≤ 0 → l ≡ []
empty [] few = refl
empty (x ∷ xs) few = absurd (omega (arith, few))

pub returns-in-None-clause-err : goal.returns-in-None-clause-err
returns-in-None-clause-err c = λ tops ended short there.
    nothing_flaw tops c.args.bytes.now c.saturating_sub-offset.result ended short
    (subst (AreCutBehind c.args.bytes.now) (empty c.in-Ok.cuts.items (omega (arith, c.in-None.ensures.cases.0))) c.in-Ok.ensures.cut) (omega (arith, c.saturating_sub-offset.ensures, there))

pub footer_of-requires-clause-begins : goal.footer_of-requires-clause-begins
footer_of-requires-clause-begins c = (foot_inside [] c.args.bytes.now c.pop.new.self.items c.in-Some.foot (subst (AreCutBehind c.args.bytes.now) c.in-Some.ensures.items c.in-Ok.ensures.cut)).0

pub footer_of-requires-clause-ends : goal.footer_of-requires-clause-ends
footer_of-requires-clause-ends c = (foot_inside [] c.args.bytes.now c.pop.new.self.items c.in-Some.foot (subst (AreCutBehind c.args.bytes.now) c.in-Some.ensures.items c.in-Ok.ensures.cut)).1

pub returns-in-Some-footer_of-clause-ok : goal.returns-in-Some-footer_of-clause-ok
returns-in-Some-footer_of-clause-ok c =
    let are = subst (AreCutBehind c.args.bytes.now) c.in-Some.ensures.items c.in-Ok.ensures.cut in
    record {
      are = are;
      footer = c.in-Some-footer_of.ensures;
      room = footer_room [] c.args.bytes.now c.pop.new.self.items c.in-Some.foot are c.in-Some-footer_of.footer c.in-Some-footer_of.ensures;
    }

pub returns-in-None-footer_of-clause-err : goal.returns-in-None-footer_of-clause-err
returns-in-None-footer_of-clause-err c = λ tops ended short there.
    footless_flaw tops c.args.bytes.now c.pop.new.self.items c.in-Some.foot c.saturating_sub-offset.result short
    (subst (AreCutBehind c.args.bytes.now) c.in-Some.ensures.items c.in-Ok.ensures.cut) c.in-None-footer_of.ensures (omega (arith, c.saturating_sub-offset.ensures, there))
