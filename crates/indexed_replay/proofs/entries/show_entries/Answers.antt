use Rattle.std.proofs.Common.{◌+◌, get_or, inl, sym, subst, rules, arith}
use Rattle.std.proofs.lemmas.List.Sorted.{answers_always}
use Rattle.indexed_replay.specs.Steps.{AreTimely, EntriesAscend}
use Rattle.indexed_replay.proofs.Ascending.{Pair, all_ascend, not_less}
use Rattle.indexed_replay.proofs.Timely.{timely_moved, timely_shown}
use Rattle.time_player.specs.Keeping.{kept_in}
use Rattle.indexed_replay.proofs.entries.show_entries.Goals as goal

pub returns-clause-told : goal.returns-clause-told
returns-clause-told g c = λ file told size.
    let moved = timely_moved c.args.range c.args.entries.now c.in-Ok.listed.items c.sort_unstable_by_key.new.self.items c.sort_unstable_by_key.ensures.permutation c.in-Ok.ensures.are in
    let are = subst (AreTimely c.args.range c.args.entries.now) (sym c.deref.ensures.value) moved in
    timely_shown file c.args.range c.args.spot c.args.entries.now _ ((kept_in c.args.shown.now), (kept_in c.show_each.new.shown)) c.show_each.result are (c.show_each.ensures.told file told size)

pub returns-clause-asks : goal.returns-clause-asks
returns-clause-asks g c = λ file told size.
    let moved = timely_moved c.args.range c.args.entries.now c.in-Ok.listed.items c.sort_unstable_by_key.new.self.items c.sort_unstable_by_key.ensures.permutation c.in-Ok.ensures.are in
    let are = subst (AreTimely c.args.range c.args.entries.now) (sym c.deref.ensures.value) moved in
    let asked = c.show_each.ensures.asks file told size in
    omega (arith, asked, are.cost file c.args.spot.chunk)

pub returns-in-Err-clause-told : goal.returns-in-Err-clause-told
returns-in-Err-clause-told g c = λ file told size. let timely = c.in-Err.ensures.some in inl (timely.0, timely.1, timely.2, tt)

pub show_each-requires-clause-ascend : goal.show_each-requires-clause-ascend
show_each-requires-clause-ascend g c =
    let sorted = c.sort_unstable_by_key.new.self.items in
    subst EntriesAscend (sym c.deref.ensures.value)
    (all_ascend sorted (λ k d within.
    not_less (get_or sorted (k + 1) d) (get_or sorted k d)
    (c.sort_unstable_by_key.ensures.sorted (λ (e : Pair). (e.1, e.0)) (answers_always _ _ _ (λ f a r g h. search rules)) k d (omega arith) within)))
