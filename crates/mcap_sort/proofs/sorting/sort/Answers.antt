-- What was read and written is what is answered.
use Rattle.std.proofs.Common.{◌≡◌, List, length, map, sym, subst, ◌∙◌}
use Rattle.std.specs.Prelude.{Result, Err}
use Rattle.std.proofs.lemmas.List.{length-map}
use Rattle.mcap_io.specs.Outside.{LiveState}
use Rattle.mcap_io.specs.Stores.{StoreState}
use Rattle.mcap_sort.specs.declared.answers.SortCounts.{SortCounts}
use Rattle.mcap_sort.specs.declared.answers.SortRefused.{SortRefused}
use Rattle.mcap_sort.specs.Sorting.{SortFails, SortsSo, OfOne}
use Rattle.mcap_sort.specs.SortSteps.{IsUnready}
use Rattle.mcap_sort.proofs.OneStore.{of_both}
use Rattle.mcap_sort.proofs.Answered.{sorted_unready, asks_twice, begins, one_left, is_held, are_met, all_fit, has_begun, size_fits, sorted_so, keeps_so, asked_so}
use Rattle.mcap_sort.proofs.sorting.sort.Goals as goal

pub returns-in-Err-clause-sorts : goal.returns-in-Err-clause-sorts
returns-in-Err-clause-sorts g c =
    let state : g.row.T.Denot → StoreState = λ s. g.T.Store.state s in
    let olds = map state c.args.stores.now.items in
    let mids = map state c.make_ready.new.stores.items in
    let opened = g.L.LiveStore.state c.args.live in
    let why = c.in-Err.why in
    of_both olds mids (λ old new. IsUnready old new why) (λ old new. SortsSo c.args.chunk old new opened opened (Err c.answer_for.result)) c.in-Err.ensures.refused
    (λ s t it. subst (λ (a : SortRefused). SortFails s t opened opened c.args.chunk a) (sym c.answer_for.ensures) (sorted_unready s t opened c.args.chunk why it))

pub returns-in-Err-clause-asked : goal.returns-in-Err-clause-asked
returns-in-Err-clause-asked g c =
    let state : g.row.T.Denot → StoreState = λ s. g.T.Store.state s in
    asks_twice (map state c.args.stores.now.items) (map state c.make_ready.new.stores.items) c.make_ready.ensures.asked

pub write_file-live-requires-clause-one : goal.write_file-live-requires-clause-one
write_file-live-requires-clause-one g c =
    let state : g.row.T.Denot → StoreState = λ s. g.T.Store.state s in
    let b = begins (map state c.args.stores.now.items) (map state c.make_ready.new.stores.items) c.args.chunk c.in-Ok.ready c.in-Ok.ensures.ready c.in-Ok.ensures.keeps in
    sym (length-map c.make_ready.new.stores.items state) ∙ one_left (map state c.args.stores.now.items) (map state c.make_ready.new.stores.items) c.args.chunk c.in-Ok.ready b

pub write_file-live-requires-clause-held : goal.write_file-live-requires-clause-held
write_file-live-requires-clause-held g c =
    let state : g.row.T.Denot → StoreState = λ s. g.T.Store.state s in
    let olds = map state c.args.stores.now.items in
    let mids = map state c.make_ready.new.stores.items in
    is_held olds mids c.args.chunk c.in-Ok.ready (begins olds mids c.args.chunk c.in-Ok.ready c.in-Ok.ensures.ready c.in-Ok.ensures.keeps)

pub write_file-live-requires-clause-meet : goal.write_file-live-requires-clause-meet
write_file-live-requires-clause-meet g c =
    let state : g.row.T.Denot → StoreState = λ s. g.T.Store.state s in
    let olds = map state c.args.stores.now.items in
    let mids = map state c.make_ready.new.stores.items in
    are_met olds mids c.args.chunk c.in-Ok.ready (begins olds mids c.args.chunk c.in-Ok.ready c.in-Ok.ensures.ready c.in-Ok.ensures.keeps)

pub write_file-live-requires-clause-begun : goal.write_file-live-requires-clause-begun
write_file-live-requires-clause-begun g c =
    let state : g.row.T.Denot → StoreState = λ s. g.T.Store.state s in
    let olds = map state c.args.stores.now.items in
    let mids = map state c.make_ready.new.stores.items in
    has_begun olds mids c.args.chunk c.in-Ok.ready (begins olds mids c.args.chunk c.in-Ok.ready c.in-Ok.ensures.ready c.in-Ok.ensures.keeps)

pub write_file-live-requires-clause-fits : goal.write_file-live-requires-clause-fits
write_file-live-requires-clause-fits g c =
    let state : g.row.T.Denot → StoreState = λ s. g.T.Store.state s in
    let olds = map state c.args.stores.now.items in
    let mids = map state c.make_ready.new.stores.items in
    all_fit olds mids c.args.chunk c.in-Ok.ready (begins olds mids c.args.chunk c.in-Ok.ready c.in-Ok.ensures.ready c.in-Ok.ensures.keeps)

pub write_file-live-requires-clause-size : goal.write_file-live-requires-clause-size
write_file-live-requires-clause-size g c =
    let state : g.row.T.Denot → StoreState = λ s. g.T.Store.state s in
    let olds = map state c.args.stores.now.items in
    let mids = map state c.make_ready.new.stores.items in
    size_fits olds mids c.args.chunk c.in-Ok.ready (begins olds mids c.args.chunk c.in-Ok.ready c.in-Ok.ensures.ready c.in-Ok.ensures.keeps) c.requires.size.0 c.requires.size.1

pub write_file-live-requires-clause-profile : goal.write_file-live-requires-clause-profile
write_file-live-requires-clause-profile g c =
    let state : g.row.T.Denot → StoreState = λ s. g.T.Store.state s in
    let olds = map state c.args.stores.now.items in
    let mids = map state c.make_ready.new.stores.items in
    (begins olds mids c.args.chunk c.in-Ok.ready c.in-Ok.ensures.ready c.in-Ok.ensures.keeps).ready.short

pub returns-clause-sorts : goal.returns-clause-sorts
returns-clause-sorts g c =
    let state : g.row.T.Denot → StoreState = λ s. g.T.Store.state s in
    let seen : g.row.L.Denot → LiveState = λ l. g.L.LiveStore.state l in
    let olds = map state c.args.stores.now.items in
    let mids = map state c.make_ready.new.stores.items in
    let news = map state c.write_file-live.new.stores.items in
    let r = c.in-Ok.ready in
    let opened = seen c.args.live in
    let now = seen c.write_file-live.result.0 in
    let end = c.write_file-live.result.1 in
    subst (λ (a : Result SortCounts SortRefused). OfOne olds news (λ old new. SortsSo c.args.chunk old new opened now a)) (sym c.answer_of.ensures)
    (sorted_so olds mids c.args.chunk r (begins olds mids c.args.chunk r c.in-Ok.ensures.ready c.in-Ok.ensures.keeps) news c.write_file-live.ensures.stay opened now end c.write_file-live.ensures.files c.write_file-live.ensures.why c.write_file-live.ensures.counts)

pub returns-clause-keeps : goal.returns-clause-keeps
returns-clause-keeps g c =
    let state : g.row.T.Denot → StoreState = λ s. g.T.Store.state s in
    let seen : g.row.L.Denot → LiveState = λ l. g.L.LiveStore.state l in
    let olds = map state c.args.stores.now.items in
    let mids = map state c.make_ready.new.stores.items in
    let news = map state c.write_file-live.new.stores.items in
    let r = c.in-Ok.ready in
    keeps_so olds mids c.args.chunk r (begins olds mids c.args.chunk r c.in-Ok.ensures.ready c.in-Ok.ensures.keeps) news c.write_file-live.ensures.stay (seen c.args.live).faults (seen c.write_file-live.result.0).faults c.write_file-live.result.1 c.write_file-live.ensures.counts

pub returns-clause-asked : goal.returns-clause-asked
returns-clause-asked g c =
    let state : g.row.T.Denot → StoreState = λ s. g.T.Store.state s in
    let olds = map state c.args.stores.now.items in
    let mids = map state c.make_ready.new.stores.items in
    let news = map state c.write_file-live.new.stores.items in
    let r = c.in-Ok.ready in
    asked_so olds mids c.args.chunk r (begins olds mids c.args.chunk r c.in-Ok.ensures.ready c.in-Ok.ensures.keeps) news c.write_file-live.ensures.stay c.in-Ok.ensures.asked c.write_file-live.ensures.asked
