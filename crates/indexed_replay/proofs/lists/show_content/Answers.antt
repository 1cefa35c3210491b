use Rattle.std.proofs.Common.{ℕ, List, ◌≤◌, ◌+◌, Ok, Err, sym, subst}
use Rattle.std.proofs.lemmas.Bool.{both_ways, cond-true}
use Rattle.indexed_replay.specs.Steps.{EntriesShown}
use Rattle.indexed_replay.specs.Costs.{entries_cost}
use Rattle.indexed_replay.specs.Lists.{ContentRefused}
use Rattle.indexed_replay.proofs.Wanting.{index_once}
use Rattle.indexed_replay.proofs.Listing.{content_shown, content_none, content_lacks}
use Rattle.time_player.specs.Keeping.{kept_in}
use Rattle.indexed_replay.proofs.lists.show_content.Goals as goal

pub unreachable-requires : goal.unreachable-requires
unreachable-requires g c = c.in-Err.ensures.none c.args.spot.channel c.requires.is.0 c.requires.is.1

pub returns-in-Ok-show_entries-clause-told : goal.returns-in-Ok-show_entries-clause-told
returns-in-Ok-show_entries-clause-told g c = λ file entries told size declare shows.
    let same = (index_once c.args.content.now c.in-Ok.index.channel_id c.args.spot.channel c.in-Ok.index.entries entries c.in-Ok.ensures.shown shows).1 in
    content_shown file c.args.request.now c.args.spot entries ((kept_in c.args.shown.now), (kept_in c.show_entries.new.shown)) (Ok c.in-Ok-show_entries.all) ((c.is_wanted.ensures declare).0 c.if-is_wanted.true)
    (subst (λ (l : List (ℕ × ℕ)). EntriesShown file c.args.request.now.range c.args.spot l ((kept_in c.args.shown.now), (kept_in c.show_entries.new.shown)) (Ok c.in-Ok-show_entries.all)) same (c.in-Ok-show_entries.ensures.told file told size))

pub returns-in-Ok-show_entries-clause-asks : goal.returns-in-Ok-show_entries-clause-asks
returns-in-Ok-show_entries-clause-asks g c = λ file chosen entries told chooses size shows.
    let same = (index_once c.args.content.now c.in-Ok.index.channel_id c.args.spot.channel c.in-Ok.index.entries entries c.in-Ok.ensures.shown shows).1 in
    let on = chooses.all c.args.spot.channel ((c.is_wanted.ensures chooses.declare).0 c.if-is_wanted.true) in
    let cost = cond-true (chosen c.args.spot.channel) (entries_cost file c.args.request.now.range c.args.spot.chunk entries) 0 on in
    subst (λ (n : ℕ). (g.T.Store.state c.show_entries.new.store).asked ≤ (g.T.Store.state c.args.store.now).asked + n) (sym cost)
    (subst (λ (l : List (ℕ × ℕ)). (g.T.Store.state c.show_entries.new.store).asked ≤ (g.T.Store.state c.args.store.now).asked + entries_cost file c.args.request.now.range c.args.spot.chunk l) same (c.in-Ok-show_entries.ensures.asks file told size))

pub returns-in-Err-show_entries-clause-told : goal.returns-in-Err-show_entries-clause-told
returns-in-Err-show_entries-clause-told g c = λ file entries told size declare shows.
    let same = (index_once c.args.content.now c.in-Ok.index.channel_id c.args.spot.channel c.in-Ok.index.entries entries c.in-Ok.ensures.shown shows).1 in
    content_shown file c.args.request.now c.args.spot entries ((kept_in c.args.shown.now), (kept_in c.show_entries.new.shown)) (Err c.in-Err-show_entries.why) ((c.is_wanted.ensures declare).0 c.if-is_wanted.true)
    (subst (λ (l : List (ℕ × ℕ)). EntriesShown file c.args.request.now.range c.args.spot l ((kept_in c.args.shown.now), (kept_in c.show_entries.new.shown)) (Err c.in-Err-show_entries.why)) same (c.in-Err-show_entries.ensures.told file told size))

pub returns-in-Err-show_entries-clause-asks : goal.returns-in-Err-show_entries-clause-asks
returns-in-Err-show_entries-clause-asks g c = λ file chosen entries told chooses size shows.
    let same = (index_once c.args.content.now c.in-Ok.index.channel_id c.args.spot.channel c.in-Ok.index.entries entries c.in-Ok.ensures.shown shows).1 in
    let on = chooses.all c.args.spot.channel ((c.is_wanted.ensures chooses.declare).0 c.if-is_wanted.true) in
    let cost = cond-true (chosen c.args.spot.channel) (entries_cost file c.args.request.now.range c.args.spot.chunk entries) 0 on in
    subst (λ (n : ℕ). (g.T.Store.state c.show_entries.new.store).asked ≤ (g.T.Store.state c.args.store.now).asked + n) (sym cost)
    (subst (λ (l : List (ℕ × ℕ)). (g.T.Store.state c.show_entries.new.store).asked ≤ (g.T.Store.state c.args.store.now).asked + entries_cost file c.args.request.now.range c.args.spot.chunk l) same (c.in-Err-show_entries.ensures.asks file told size))

pub returns-in-Ok-check_channel-clause-told : goal.returns-in-Ok-check_channel-clause-told
returns-in-Ok-check_channel-clause-told g c = λ file entries told size declare shows.
    content_none file c.args.request.now c.args.spot entries (kept_in c.args.shown.now) (λ w. both_ways c.is_wanted.result c.if-is_wanted.false ((c.is_wanted.ensures declare).1 w))

pub returns-in-Err-check_channel-clause-told : goal.returns-in-Err-check_channel-clause-told
returns-in-Err-check_channel-clause-told g c = λ file entries told size declare shows.
    let same = (index_once c.args.content.now c.in-Ok.index.channel_id c.args.spot.channel c.in-Ok.index.entries entries c.in-Ok.ensures.shown shows).1 in
    content_lacks file c.args.request.now c.args.spot entries (kept_in c.args.shown.now) c.in-Err-check_channel.why (let e = c.in-Err-check_channel.ensures in (e.0, subst (λ (l : List (ℕ × ℕ)). Rattle.indexed_replay.specs.Lists.HasTimely c.args.request.now.range l) same e.1, e.2))
