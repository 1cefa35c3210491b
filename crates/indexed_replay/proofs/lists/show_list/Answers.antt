use Rattle.std.proofs.Common.{Global, ◌≡◌, ℕ, List, ◌≤◌, ◌+◌, ◌∙◌, inl, sym, subst}
use Rattle.rec_index.specs.Records.{ShowsMessageIndex}
use Rattle.mcap_model.specs.declared.refusals.ReadingRefused.{ReadingRefused}
use Rattle.mcap_model.specs.declared.refusals.ReadingRefused.TheVariants as refusals
use Rattle.mcap_model.specs.declared.refusals.IndexedRefused.TheVariants as by_index
use Rattle.indexed_replay.specs.declared.spots.Spot.{Spot}
use Rattle.indexed_replay.specs.declared.spots.Request.{Request}
use Rattle.indexed_replay.specs.Steps.{IndexIs}
use Rattle.indexed_replay.specs.Lists.{ListRefused}
use Rattle.indexed_replay.proofs.Listing.{list_shown, list_found, lacks_reason, limit_reason, cost_front, cost_content}
use Rattle.time_player.specs.Keeping.{kept_in}
use Rattle.indexed_replay.proofs.lists.show_list.Goals as goal

index_reason : (file : List ℕ) (request : Request) (at : ℕ) (spot : Spot) (why : ReadingRefused) → IndexIs {Y = Global} file spot (Rattle.std.proofs.Common.Err why) → ListRefused file request at spot (by_index.Refused why)
index_reason file request at spot (refusals.Fault faults) is = λ f place names. tt
index_reason file request at spot (refusals.Grammar offset rule) is = absurd is
index_reason file request at spot (refusals.Compressed offset name) is = absurd is
index_reason file request at spot (refusals.Limit offset) is = limit_reason file request at spot offset is
index_reason file request at spot refusals.Memory is = λ f place names. tt

pub returns-in-Err-clause-told : goal.returns-in-Err-clause-told
returns-in-Err-clause-told g c = λ file told size knows. inl (index_reason file c.args.request.now c.args.at c.args.spot c.in-Err.why (c.in-Err.ensures.told file told size))

pub returns-in-Err-clause-asks : goal.returns-in-Err-clause-asks
returns-in-Err-clause-asks g c = λ file chosen cost told chooses size is. cost_front file c.args.request.now.range chosen c.args.spot cost (g.T.Store.state c.args.store.now).asked (g.T.Store.state c.read_index.new.store).asked is (c.in-Err.ensures.asks file told size)

pub show_content-requires-clause-is : goal.show_content-requires-clause-is
show_content-requires-clause-is g c =
    let is = rw c.in-Some.is at c.in-Ok.ensures.is in
    (is.0, subst (λ (l : List ℕ). ShowsMessageIndex l c.args.spot.channel is.0) (sym c.deref.ensures.value) is.1)

pub returns-in-Some-clause-told : goal.returns-in-Some-clause-told
returns-in-Some-clause-told g c = λ file told size knows.
    let here = rw c.in-Some.is at (c.in-Ok.ensures.told file told size) in
    let there = here.0 in
    let entries = here.1.0 in
    let shows = here.1.1 in
    let told_1 = c.in-Ok.ensures.stays.bytes ∙ told in
    list_shown file c.args.request.now c.args.at c.args.spot c.in-Some.content.items entries there shows ((kept_in c.args.shown.now), (kept_in c.show_content.new.shown)) c.show_content.result knows
    (c.show_content.ensures.told file entries told_1 size knows.declare (subst (λ (l : List ℕ). ShowsMessageIndex l c.args.spot.channel entries) (sym c.deref.ensures.value) shows))

pub returns-in-Some-clause-asks : goal.returns-in-Some-clause-asks
returns-in-Some-clause-asks g c = λ file chosen cost told chooses size is.
    let here = rw c.in-Some.is at (c.in-Ok.ensures.told file told size) in
    let told_1 = c.in-Ok.ensures.stays.bytes ∙ told in
    cost_content file c.args.request.now.range chosen c.args.spot c.in-Some.content.items here.1.0 cost (g.T.Store.state c.args.store.now).asked (g.T.Store.state c.read_index.new.store).asked (g.T.Store.state c.show_content.new.store).asked is here.0 here.1.1 (c.in-Ok.ensures.asks file told size)
    (λ entries shows. c.show_content.ensures.asks file chosen entries told_1 chooses size (subst (λ (l : List ℕ). ShowsMessageIndex l c.args.spot.channel entries) (sym c.deref.ensures.value) shows))

pub returns-in-Some-clause-found : goal.returns-in-Some-clause-found
returns-in-Some-clause-found g c = λ file told size.
    let here = rw c.in-Some.is at (c.in-Ok.ensures.told file told size) in
    list_found file c.args.spot c.in-Some.content.items here.1.0 c.show_content.result here.0 here.1.1

pub returns-in-None-clause-told : goal.returns-in-None-clause-told
returns-in-None-clause-told g c = λ file told size knows. inl (lacks_reason file c.args.request.now c.args.at c.args.spot (rw c.in-None.is at (c.in-Ok.ensures.told file told size)))

pub returns-in-None-clause-asks : goal.returns-in-None-clause-asks
returns-in-None-clause-asks g c = λ file chosen cost told chooses size is. cost_front file c.args.request.now.range chosen c.args.spot cost (g.T.Store.state c.args.store.now).asked (g.T.Store.state c.read_index.new.store).asked is (c.in-Ok.ensures.asks file told size)
