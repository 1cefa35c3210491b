use Rattle.std.proofs.Common.{◌++◌, ◌∷◌, ◌≡◌, [], sym, ◌∙◌, inr}
use Rattle.std.proofs.lemmas.Bool.{both_ways}
use Rattle.mcap_model.specs.declared.rules.Rule.TheVariants as rules
use Rattle.mcap_model.specs.Walk.{walk_rest, inner_top}
use Rattle.mcap_model.proofs.Inside.{walk_steps, walk_ends, walk_cut, all_refused}
use Rattle.mcap_model.proofs.chunks.take_all.Goals as goal

pub records-preserved : goal.records-preserved
records-preserved c = λ before are.
    let w = c.records.invariant before are in
    let j = c.in-Ok.ensures before w.0 w.1.tables_are w.1.times_are in
    (w.0 ++ inner_top c.in-Some.inner ∷ [], walk_steps before c.args.records.now (walk_rest c.records.walk) c.records.tables c.take_inner.new.tables c.records.times c.in-Ok.more w.0 _ _ (walk_rest c.next.new.self) c.in-Some.inner w.1 c.in-Some.ensures j.0 j.1 j.2)

pub returns-in-Err : goal.returns-in-Err
returns-in-Err c = λ before are.
    let w = c.records.invariant before are in
    let j = c.in-Err.ensures before w.0 w.1.tables_are w.1.times_are in
    all_refused before c.args.records.now (walk_rest c.records.walk) c.records.tables c.take_inner.new.tables c.records.times w.0 _ _ (walk_rest c.next.new.self) c.in-Some.inner c.in-Err.ruling w.1 c.in-Some.ensures j

pub returns-then-is_whole : goal.returns-then-is_whole
returns-then-is_whole c = λ before are.
    let w = c.records.invariant before are in
    let h = c.in_default.ensures in
    let all = walk_ends before c.args.records.now (walk_rest c.records.walk) c.records.tables c.records.times w.0 w.1 h.0 (sym h.2 ∙ c.is_whole.ensures.0 c.if-is_whole.true) in
    (all.whole, all.agrees, all.tables_are, all.times_are)

eight_not_seven : rules.V8 ≡ rules.V7 → ⊥
eight_not_seven e = cc

pub returns : goal.returns
returns c = λ before are.
    let w = c.records.invariant before are in
    let h = c.in_default.ensures in
    inr (eight_not_seven, walk_cut before c.args.records.now (walk_rest c.records.walk) c.records.tables c.records.times w.0 w.1 h.0 (λ e. both_ways c.is_whole.result c.if-is_whole.false (c.is_whole.ensures.1 (h.2 ∙ e))))
