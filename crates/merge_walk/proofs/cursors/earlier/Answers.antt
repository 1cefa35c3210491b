use Rattle.std.proofs.Common.{refl, inl, inr}
use Rattle.std.proofs.lemmas.Bool.{both_ways}
use Rattle.merge_walk.proofs.Ordered.{not_behind_else, same_next}
use Rattle.merge_walk.proofs.cursors.earlier.Goals as goal

pub returns-then-is_not_behind : goal.returns-then-is_not_behind
returns-then-is_not_behind c = λ a d t u at_a at_d is_t is_u.
    let one = same_next c.args.cursors.now c.args.first c.index-cursors-first.result a t c.index-cursors-first.is at_a is_t in
    let other = same_next c.args.cursors.now c.args.i c.index-cursors-i.result d u c.index-cursors-i.is at_d is_u in
    inl (refl, (c.is_not_behind.ensures t u one other).0 c.if-is_not_behind.true)

pub returns : goal.returns
returns c = λ a d t u at_a at_d is_t is_u.
    let one = same_next c.args.cursors.now c.args.first c.index-cursors-first.result a t c.index-cursors-first.is at_a is_t in
    let other = same_next c.args.cursors.now c.args.i c.index-cursors-i.result d u c.index-cursors-i.is at_d is_u in
    inr (refl, not_behind_else t u (λ behind. both_ways c.is_not_behind.result c.if-is_not_behind.false ((c.is_not_behind.ensures t u one other).1 behind)))
