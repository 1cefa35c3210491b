use Rattle.std.proofs.Common.{ℕ, map, sym, subst}
use Rattle.std.specs.Prelude.{Ok}
use Rattle.std.proofs.lemmas.Result.{IfOk-weaker, IfErr-weaker}
use Rattle.mcap_io.specs.Outside.{LiveState}
use Rattle.mcap_io.specs.Stores.{StoreState}
use Rattle.merge_walk.specs.Stores.{files_of}
use Rattle.merge_walk.proofs.Stayed.{stay_so, counts_so}
use Rattle.mcap_merge.specs.declared.answers.Merged.{Merged}
use Rattle.mcap_merge.specs.declared.answers.MergeRefused.{MergeRefused}
use Rattle.mcap_merge.specs.Turns.{PutCounts}
use Rattle.mcap_merge.specs.Putting.{MergeStart, WholeStands}
use Rattle.mcap_merge.specs.Filing.{FilesAs, FileStops}
use Rattle.mcap_merge.proofs.Filing.{whole_filed, stops_filed, not_opened}
use Rattle.mcap_merge.proofs.Behind.{asked_still}
use Rattle.mcap_merge.proofs.merge_stores.write_file.Goals as goal

pub returns-in-Ok-clause-written : goal.returns-in-Ok-clause-written
returns-in-Ok-clause-written g c =
    let state : g.row.T.Denot → StoreState = λ s. g.T.Store.state s in
    let seen : g.row.L.Denot → LiveState = λ l. g.L.LiveStore.state l in
    let start : MergeStart = record { files = files_of (map state c.args.stores.now.items); inputs = c.args.inputs.now; walk = c.args.begun.walk } in
    let options = c.args.options.now in
    let opened = seen c.args.live in
    IfOk-weaker c.write_all-end.result _ (λ (m : Merged). WholeStands (FilesAs options (Ok tt)) start opened (seen c.into_store.result) m) (λ m ends.
    subst (λ (l : g.row.L.Denot). WholeStands (FilesAs options (Ok tt)) start opened (seen l) m) (sym c.into_store.ensures) (whole_filed seen options opened c.in-Ok.scribe c.write_all-end.new.pen c.in-Ok.ensures.stands start m (Ok tt) ends)) c.write_all-end.ensures.written

pub returns-in-Ok-clause-stopped : goal.returns-in-Ok-clause-stopped
returns-in-Ok-clause-stopped g c =
    let state : g.row.T.Denot → StoreState = λ s. g.T.Store.state s in
    let seen : g.row.L.Denot → LiveState = λ l. g.L.LiveStore.state l in
    let start : MergeStart = record { files = files_of (map state c.args.stores.now.items); inputs = c.args.inputs.now; walk = c.args.begun.walk } in
    let options = c.args.options.now in
    let opened = seen c.args.live in
    IfErr-weaker c.write_all-end.result _ (λ (why : MergeRefused). FileStops options start opened (seen c.into_store.result) why) (λ why stops.
    subst (λ (l : g.row.L.Denot). FileStops options start opened (seen l) why) (sym c.into_store.ensures) (stops_filed seen options opened c.in-Ok.scribe c.write_all-end.new.pen c.in-Ok.ensures.stands start why stops)) c.write_all-end.ensures.stopped

pub returns-in-Ok-clause-counts : goal.returns-in-Ok-clause-counts
returns-in-Ok-clause-counts g c =
    let state : g.row.T.Denot → StoreState = λ s. g.T.Store.state s in
    let seen : g.row.L.Denot → LiveState = λ l. g.L.LiveStore.state l in
    let olds = map state c.args.stores.now.items in
    let news = map state c.write_all-end.new.stores.items in
    let counts = subst (λ (l : g.row.L.Denot). PutCounts olds news (seen c.in-Ok.scribe.store).faults (seen l).faults c.write_all-end.result) (sym c.into_store.ensures) c.write_all-end.ensures.counts in
    subst (λ (n : ℕ). PutCounts olds news n (seen c.into_store.result).faults c.write_all-end.result) c.in-Ok.ensures.still counts

pub returns-in-Err-clause-stopped : goal.returns-in-Err-clause-stopped
returns-in-Err-clause-stopped g c =
    let state : g.row.T.Denot → StoreState = λ s. g.T.Store.state s in
    let seen : g.row.L.Denot → LiveState = λ l. g.L.LiveStore.state l in
    not_opened (files_of (map state c.args.stores.now.items)) c.args.inputs.now c.args.begun c.args.options.now (seen c.args.live) (seen c.in-Err.live) c.in-Err.stop c.requires.ready c.in-Err.ensures.refused

pub returns-in-Err-clause-stay : goal.returns-in-Err-clause-stay
returns-in-Err-clause-stay g c =
    let state : g.row.T.Denot → StoreState = λ s. g.T.Store.state s in
    stay_so (map state c.args.stores.now.items)

pub returns-in-Err-clause-counts : goal.returns-in-Err-clause-counts
returns-in-Err-clause-counts g c =
    let state : g.row.T.Denot → StoreState = λ s. g.T.Store.state s in
    (counts_so (map state c.args.stores.now.items), c.in-Err.ensures.cause)

pub returns-in-Err-clause-asked : goal.returns-in-Err-clause-asked
returns-in-Err-clause-asked g c =
    let state : g.row.T.Denot → StoreState = λ s. g.T.Store.state s in
    asked_still (map state c.args.stores.now.items) c.args.begun.walk
