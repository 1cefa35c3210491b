use Rattle.std.proofs.Common.{List, length, map, sym, ap, subst, ◌∙◌}
use Rattle.std.specs.Prelude.{Ok, IfOk, IfErr}
use Rattle.std.proofs.lemmas.List.{length-map}
use Rattle.mcap_io.specs.Outside.{LiveState}
use Rattle.mcap_io.specs.Stores.{StoreState}
use Rattle.merge_walk.specs.Stores.{files_of}
use Rattle.mcap_merge.specs.declared.input.Input.{Input}
use Rattle.mcap_merge.specs.Turns.{WhyNotAll}
use Rattle.mcap_merge.specs.Writing.{ExtrasMeet}
use Rattle.mcap_merge.specs.Putting.{WholeStands}
use Rattle.mcap_merge.specs.Filing.{FilesAs, FileStops}
use Rattle.mcap_merge.proofs.Behind.{asks_twice}
use Rattle.mcap_merge.proofs.MergeFiled.{merged_so, refused_so, inputs_many, pieces_fit, asked_then, kept_then}
use Rattle.mcap_merge.proofs.merge_stores.merge.Goals as goal

pub returns-in-Err-clause-asked : goal.returns-in-Err-clause-asked
returns-in-Err-clause-asked g c =
    let state : g.row.T.Denot → StoreState = λ s. g.T.Store.state s in
    asks_twice (map state c.args.stores.now.items) (map state c.make_ready.new.stores.items) c.make_ready.ensures.asked

pub write_file-requires-clause-meet : goal.write_file-requires-clause-meet
write_file-requires-clause-meet g c = subst ExtrasMeet (sym c.as_slice-inputs.ensures.value) c.in-Ok.ensures.ready.gathered.meet

pub write_file-requires-clause-many : goal.write_file-requires-clause-many
write_file-requires-clause-many g c =
    let state : g.row.T.Denot → StoreState = λ s. g.T.Store.state s in
    let many = inputs_many (map state c.args.stores.now.items) (map state c.make_ready.new.stores.items) c.args.chunk c.in-Ok.ready c.in-Ok.ensures.ready c.in-Ok.ensures.keeps in
    sym (length-map c.make_ready.new.stores.items state) ∙ many ∙ ap length (sym c.as_slice-inputs.ensures.value)

pub write_file-requires-clause-fits : goal.write_file-requires-clause-fits
write_file-requires-clause-fits g c =
    let state : g.row.T.Denot → StoreState = λ s. g.T.Store.state s in
    pieces_fit (map state c.args.stores.now.items) (map state c.make_ready.new.stores.items) c.args.chunk c.in-Ok.ready c.in-Ok.ensures.ready c.in-Ok.ensures.keeps

pub returns-clause-merged : goal.returns-clause-merged
returns-clause-merged g c =
    let state : g.row.T.Denot → StoreState = λ s. g.T.Store.state s in
    let seen : g.row.L.Denot → LiveState = λ l. g.L.LiveStore.state l in
    let mids = map state c.make_ready.new.stores.items in
    let news = map state c.write_file.new.stores.items in
    let r = c.in-Ok.ready in
    let opened = seen c.args.live in
    let now = seen c.write_file.result.0 in
    let result = c.write_file.result.1 in
    let whole = subst (λ (l : List Input). IfOk result (λ m. WholeStands (FilesAs r.options (Ok tt)) (record { files = files_of mids; inputs = l; walk = r.begun.walk }) opened now m)) c.as_slice-inputs.ensures.value c.write_file.ensures.written in
    merged_so (map state c.args.stores.now.items) mids c.args.chunk r c.in-Ok.ensures.ready c.in-Ok.ensures.keeps news opened now result c.write_file.ensures.stay whole c.write_file.ensures.counts

pub returns-clause-refused : goal.returns-clause-refused
returns-clause-refused g c =
    let state : g.row.T.Denot → StoreState = λ s. g.T.Store.state s in
    let seen : g.row.L.Denot → LiveState = λ l. g.L.LiveStore.state l in
    let mids = map state c.make_ready.new.stores.items in
    let news = map state c.write_file.new.stores.items in
    let r = c.in-Ok.ready in
    let opened = seen c.args.live in
    let now = seen c.write_file.result.0 in
    let result = c.write_file.result.1 in
    let stopped = subst (λ (l : List Input). IfErr result (λ why. FileStops r.options (record { files = files_of mids; inputs = l; walk = r.begun.walk }) opened now why)) c.as_slice-inputs.ensures.value c.write_file.ensures.stopped in
    let cause = subst (λ (l : List Input). IfErr result (λ why. WhyNotAll (files_of mids) r.begun.walk l why)) c.as_slice-inputs.ensures.value c.write_file.ensures.why in
    refused_so (map state c.args.stores.now.items) mids c.args.chunk r c.in-Ok.ensures.ready c.in-Ok.ensures.keeps news opened now result c.write_file.ensures.stay stopped c.write_file.ensures.counts cause

pub returns-clause-keeps : goal.returns-clause-keeps
returns-clause-keeps g c =
    let state : g.row.T.Denot → StoreState = λ s. g.T.Store.state s in
    let seen : g.row.L.Denot → LiveState = λ l. g.L.LiveStore.state l in
    kept_then (map state c.args.stores.now.items) (map state c.make_ready.new.stores.items) c.args.chunk c.in-Ok.ready c.in-Ok.ensures.ready c.in-Ok.ensures.keeps (map state c.write_file.new.stores.items) (seen c.args.live).faults (seen c.write_file.result.0).faults c.write_file.result.1
    c.write_file.ensures.stay c.write_file.ensures.counts

pub returns-clause-asked : goal.returns-clause-asked
returns-clause-asked g c =
    let state : g.row.T.Denot → StoreState = λ s. g.T.Store.state s in
    asked_then (map state c.args.stores.now.items) (map state c.make_ready.new.stores.items) c.args.chunk c.in-Ok.ready c.in-Ok.ensures.ready c.in-Ok.ensures.keeps (map state c.write_file.new.stores.items) c.write_file.ensures.stay c.in-Ok.ensures.asked c.write_file.ensures.asked
