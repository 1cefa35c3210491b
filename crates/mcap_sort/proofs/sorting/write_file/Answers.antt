-- What was written of the file.
use Rattle.std.proofs.Common.{◌≡◌, ℕ, List, [], length, map, refl, sym, ap, subst, ◌∙◌, Ok, Err}
use Rattle.std.specs.Prelude.{Result}
use Rattle.mcap_io.specs.Outside.{LiveState}
use Rattle.mcap_io.specs.Stores.{StoreState}
use Rattle.mcap_model.specs.Places.{Each}
use Rattle.mcap_model.specs.ReadBack.{IsExtra}
use Rattle.chunk_writer.specs.Stops.{StopCause}
use Rattle.merge_walk.specs.Stores.{files_of}
use Rattle.merge_walk.proofs.Stayed.{stay_so, counts_so}
use Rattle.mcap_merge.specs.declared.input.Extra.{Extra}
use Rattle.mcap_merge.specs.Inputs.{extra_top, extra_tops}
use Rattle.mcap_merge.specs.declared.answers.MergeRefused.TheVariants as merges
use Rattle.mcap_merge.specs.Turns.{PutCounts}
use Rattle.mcap_merge.proofs.Behind.{asked_still}
use Rattle.record_keeping.specs.Ending.{EndsFile}
use Rattle.record_keeping.specs.Keeping.{AddsRecords}
use Rattle.mcap_sort.specs.declared.answers.SortCounts.{SortCounts}
use Rattle.mcap_sort.specs.SortSteps.{start, Files}
use Rattle.mcap_sort.proofs.Filed.{begun_stands, unopened, extras_stopped, turns_stopped, ended_whole, ended_part, ended_so}
use Rattle.mcap_sort.proofs.sorting.write_file.Goals as goal

pub returns-in-Err-clause-files : goal.returns-in-Err-clause-files
returns-in-Err-clause-files g c =
    let state : g.row.T.Denot → StoreState = λ s. g.T.Store.state s in
    let seen : g.row.L.Denot → LiveState = λ l. g.L.LiveStore.state l in
    let files = files_of (map state c.args.stores.now.items) in
    let gathered = c.args.gathered.now in
    let options = c.args.options.now in
    let opened = seen c.args.live in
    unopened seen options opened files gathered c.args.walk (seen c.in-Err.live) c.in-Err.stop c.requires.begun c.in-Err.ensures.refused

pub returns-in-Err-clause-stay : goal.returns-in-Err-clause-stay
returns-in-Err-clause-stay g c =
    let state : g.row.T.Denot → StoreState = λ s. g.T.Store.state s in
    stay_so (map state c.args.stores.now.items)

pub returns-in-Err-clause-counts : goal.returns-in-Err-clause-counts
returns-in-Err-clause-counts g c =
    let state : g.row.T.Denot → StoreState = λ s. g.T.Store.state s in
    (counts_so (map state c.args.stores.now.items), c.in-Err.ensures.cause)

pub returns-in-Err-clause-asked : goal.returns-in-Err-clause-asked
returns-in-Err-clause-asked g c =
    let state : g.row.T.Denot → StoreState = λ s. g.T.Store.state s in
    asked_still (map state c.args.stores.now.items) c.args.walk

pub put_extras-requires-clause-meet : goal.put_extras-requires-clause-meet
put_extras-requires-clause-meet g c =
    subst (λ (l : List Extra). Each (λ e. IsExtra (extra_top e)) l) (sym c.as_slice.ensures.value) c.requires.meet

pub put_turns-requires-clause-held : goal.put_turns-requires-clause-held
put_turns-requires-clause-held g c =
    let (r, holds) = c.requires.held in
    (r, holds.holds)

pub returns-in-Err-put_extras-clause-files : goal.returns-in-Err-put_extras-clause-files
returns-in-Err-put_extras-clause-files g c =
    let state : g.row.T.Denot → StoreState = λ s. g.T.Store.state s in
    let seen : g.row.L.Denot → LiveState = λ l. g.L.LiveStore.state l in
    let files = files_of (map state c.args.stores.now.items) in
    let gathered = c.args.gathered.now in
    let options = c.args.options.now in
    let opened = seen c.args.live in
    let k = c.keeping_of-k.result in
    let begun = begun_stands seen options opened c.in-Ok.scribe k c.in-Ok.ensures.stands c.keeping_of-k.ensures.scribe c.keeping_of-k.ensures.counts in
    let adds = subst (λ (l : List Extra). AddsRecords seen k c.put_extras.new.k (extra_tops l) []) c.as_slice.ensures.value c.in-Err-put_extras.ensures.adds in
    subst (λ (l : g.row.L.Denot). Files options (start files gathered c.args.walk) opened (seen l) (Err (merges.Stopped c.in-Err-put_extras.stop))) (sym c.into_store.ensures)
    (extras_stopped seen options opened files gathered c.args.walk k c.put_extras.new.k begun adds c.in-Err-put_extras.stop c.requires.begun c.in-Err-put_extras.ensures.stopped)

pub returns-in-Err-put_extras-clause-stay : goal.returns-in-Err-put_extras-clause-stay
returns-in-Err-put_extras-clause-stay g c =
    let state : g.row.T.Denot → StoreState = λ s. g.T.Store.state s in
    stay_so (map state c.args.stores.now.items)

pub returns-in-Err-put_extras-clause-counts : goal.returns-in-Err-put_extras-clause-counts
returns-in-Err-put_extras-clause-counts g c =
    let state : g.row.T.Denot → StoreState = λ s. g.T.Store.state s in
    let seen : g.row.L.Denot → LiveState = λ l. g.L.LiveStore.state l in
    let opened = seen c.args.live in
    let k = c.keeping_of-k.result in
    let still : (seen k.scribe.store).faults ≡ opened.faults = ap (λ s. (seen s.store).faults) c.keeping_of-k.ensures.scribe ∙ c.in-Ok.ensures.still in
    let cause = subst (λ (n : ℕ). StopCause n (seen c.put_extras.new.k.scribe.store).faults c.in-Err-put_extras.stop) still c.in-Err-put_extras.ensures.cause in
    (counts_so (map state c.args.stores.now.items), subst (λ (l : g.row.L.Denot). StopCause opened.faults (seen l).faults c.in-Err-put_extras.stop) (sym c.into_store.ensures) cause)

pub returns-in-Err-put_extras-clause-asked : goal.returns-in-Err-put_extras-clause-asked
returns-in-Err-put_extras-clause-asked g c =
    let state : g.row.T.Denot → StoreState = λ s. g.T.Store.state s in
    asked_still (map state c.args.stores.now.items) c.args.walk

pub returns-in-Err-put_turns-clause-files : goal.returns-in-Err-put_turns-clause-files
returns-in-Err-put_turns-clause-files g c =
    let state : g.row.T.Denot → StoreState = λ s. g.T.Store.state s in
    let seen : g.row.L.Denot → LiveState = λ l. g.L.LiveStore.state l in
    let files = files_of (map state c.args.stores.now.items) in
    let gathered = c.args.gathered.now in
    let options = c.args.options.now in
    let opened = seen c.args.live in
    let k = c.keeping_of-k.result in
    let begun = begun_stands seen options opened c.in-Ok.scribe k c.in-Ok.ensures.stands c.keeping_of-k.ensures.scribe c.keeping_of-k.ensures.counts in
    let adds = subst (λ (l : List Extra). AddsRecords seen k c.put_extras.new.k (extra_tops l) []) c.as_slice.ensures.value c.in-Ok-put_extras.ensures.adds in
    subst (λ (l : g.row.L.Denot). Files options (start files gathered c.args.walk) opened (seen l) (Err c.in-Err-put_turns.why)) (sym c.into_store-in-Err-put_turns.ensures)
    (turns_stopped seen options opened files gathered c.args.walk k c.put_extras.new.k begun adds c.put_turns.new.k c.in-Err-put_turns.why c.in-Err-put_turns.ensures.some c.in-Err-put_turns.ensures.stopped)

pub returns-in-Err-put_turns-clause-counts : goal.returns-in-Err-put_turns-clause-counts
returns-in-Err-put_turns-clause-counts g c =
    let state : g.row.T.Denot → StoreState = λ s. g.T.Store.state s in
    let seen : g.row.L.Denot → LiveState = λ l. g.L.LiveStore.state l in
    let olds = map state c.args.stores.now.items in
    let news = map state c.put_turns.new.stores.items in
    let opened = seen c.args.live in
    let k = c.keeping_of-k.result in
    let still : (seen k.scribe.store).faults ≡ opened.faults = ap (λ s. (seen s.store).faults) c.keeping_of-k.ensures.scribe ∙ c.in-Ok.ensures.still in
    let behind = c.in-Ok-put_extras.ensures.cause ∙ still in
    let counts = subst (λ (n : ℕ). PutCounts {X = SortCounts} olds news n (seen c.put_turns.new.k.scribe.store).faults (Err c.in-Err-put_turns.why)) behind c.in-Err-put_turns.ensures.counts in
    subst (λ (l : g.row.L.Denot). PutCounts {X = SortCounts} olds news opened.faults (seen l).faults (Err c.in-Err-put_turns.why)) (sym c.into_store-in-Err-put_turns.ensures) counts

pub returns-in-Ok-end-clause-files : goal.returns-in-Ok-end-clause-files
returns-in-Ok-end-clause-files g c =
    let state : g.row.T.Denot → StoreState = λ s. g.T.Store.state s in
    let seen : g.row.L.Denot → LiveState = λ l. g.L.LiveStore.state l in
    let files = files_of (map state c.args.stores.now.items) in
    let gathered = c.args.gathered.now in
    let options = c.args.options.now in
    let opened = seen c.args.live in
    let k = c.keeping_of-k.result in
    let begun = begun_stands seen options opened c.in-Ok.scribe k c.in-Ok.ensures.stands c.keeping_of-k.ensures.scribe c.keeping_of-k.ensures.counts in
    let adds = subst (λ (l : List Extra). AddsRecords seen k c.put_extras.new.k (extra_tops l) []) c.as_slice.ensures.value c.in-Ok-put_extras.ensures.adds in
    let now = seen c.end_file-live.result.0 in
    let ends = subst (λ e. EndsFile seen c.put_turns.new.k now e) c.in-Ok-end.is c.end_file-live.ensures.ends in
    ended_whole seen options opened files gathered c.args.walk k c.put_extras.new.k begun adds c.put_turns.new.k c.in-Ok-put_turns.ensures.all now c.in-Ok-end.kept ends

pub returns-in-Err-end-clause-files : goal.returns-in-Err-end-clause-files
returns-in-Err-end-clause-files g c =
    let state : g.row.T.Denot → StoreState = λ s. g.T.Store.state s in
    let seen : g.row.L.Denot → LiveState = λ l. g.L.LiveStore.state l in
    let files = files_of (map state c.args.stores.now.items) in
    let gathered = c.args.gathered.now in
    let options = c.args.options.now in
    let opened = seen c.args.live in
    let k = c.keeping_of-k.result in
    let begun = begun_stands seen options opened c.in-Ok.scribe k c.in-Ok.ensures.stands c.keeping_of-k.ensures.scribe c.keeping_of-k.ensures.counts in
    let adds = subst (λ (l : List Extra). AddsRecords seen k c.put_extras.new.k (extra_tops l) []) c.as_slice.ensures.value c.in-Ok-put_extras.ensures.adds in
    let now = seen c.end_file-live.result.0 in
    let ends = subst (λ e. EndsFile seen c.put_turns.new.k now e) c.in-Err-end.is c.end_file-live.ensures.ends in
    ended_part seen options opened files gathered c.args.walk k c.put_extras.new.k begun adds c.put_turns.new.k c.in-Ok-put_turns.ensures.all now c.in-Err-end.stop ends

pub returns-in-Ok-end-clause-counts : goal.returns-in-Ok-end-clause-counts
returns-in-Ok-end-clause-counts g c =
    let state : g.row.T.Denot → StoreState = λ s. g.T.Store.state s in
    let seen : g.row.L.Denot → LiveState = λ l. g.L.LiveStore.state l in
    let files = files_of (map state c.args.stores.now.items) in
    let gathered = c.args.gathered.now in
    let options = c.args.options.now in
    let opened = seen c.args.live in
    let k = c.keeping_of-k.result in
    let begun = begun_stands seen options opened c.in-Ok.scribe k c.in-Ok.ensures.stands c.keeping_of-k.ensures.scribe c.keeping_of-k.ensures.counts in
    let adds = subst (λ (l : List Extra). AddsRecords seen k c.put_extras.new.k (extra_tops l) []) c.as_slice.ensures.value c.in-Ok-put_extras.ensures.adds in
    let still : (seen k.scribe.store).faults ≡ opened.faults = ap (λ s. (seen s.store).faults) c.keeping_of-k.ensures.scribe ∙ c.in-Ok.ensures.still in
    let now = seen c.end_file-live.result.0 in
    let ends = subst (λ e. EndsFile seen c.put_turns.new.k now e) c.in-Ok-end.is c.end_file-live.ensures.ends in
    let behind = c.in-Ok-put_extras.ensures.cause ∙ still in
    let (r, holds) = c.requires.held in
    let last = ended_so seen options opened files gathered c.args.walk k c.put_extras.new.k begun adds c.put_turns.new.k c.in-Ok-put_turns.ensures.all r holds now (Ok c.in-Ok-end.kept) ends in
    (c.in-Ok-put_turns.ensures.counts.0, last ∙ c.in-Ok-put_turns.ensures.counts.1 ∙ behind)

pub returns-in-Err-end-clause-counts : goal.returns-in-Err-end-clause-counts
returns-in-Err-end-clause-counts g c =
    let state : g.row.T.Denot → StoreState = λ s. g.T.Store.state s in
    let seen : g.row.L.Denot → LiveState = λ l. g.L.LiveStore.state l in
    let files = files_of (map state c.args.stores.now.items) in
    let gathered = c.args.gathered.now in
    let options = c.args.options.now in
    let opened = seen c.args.live in
    let k = c.keeping_of-k.result in
    let begun = begun_stands seen options opened c.in-Ok.scribe k c.in-Ok.ensures.stands c.keeping_of-k.ensures.scribe c.keeping_of-k.ensures.counts in
    let adds = subst (λ (l : List Extra). AddsRecords seen k c.put_extras.new.k (extra_tops l) []) c.as_slice.ensures.value c.in-Ok-put_extras.ensures.adds in
    let still : (seen k.scribe.store).faults ≡ opened.faults = ap (λ s. (seen s.store).faults) c.keeping_of-k.ensures.scribe ∙ c.in-Ok.ensures.still in
    let now = seen c.end_file-live.result.0 in
    let ends = subst (λ e. EndsFile seen c.put_turns.new.k now e) c.in-Err-end.is c.end_file-live.ensures.ends in
    let behind = c.in-Ok-put_extras.ensures.cause ∙ still in
    let (r, holds) = c.requires.held in
    let last = ended_so seen options opened files gathered c.args.walk k c.put_extras.new.k begun adds c.put_turns.new.k c.in-Ok-put_turns.ensures.all r holds now (Err c.in-Err-end.stop) ends in
    (c.in-Ok-put_turns.ensures.counts.0, subst (λ (n : ℕ). StopCause n now.faults c.in-Err-end.stop) (c.in-Ok-put_turns.ensures.counts.1 ∙ behind) last)
