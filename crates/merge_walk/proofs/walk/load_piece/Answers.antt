use Rattle.std.proofs.Common.{◌∷◌, [], ◌+◌, ◌≤◌, refl, subst, Ok, Err, arith}
use Rattle.mcap_model.proofs.Places.{at_one}
use Rattle.merge_walk.proofs.Places.{read_there}
use Rattle.merge_walk.proofs.Stayed.{store_of, store_there, bytes_loaded, reads_piece}
use Rattle.merge_walk.proofs.walk.load_piece.Goals as goal

pub index_mut-requires : goal.index_mut-requires
index_mut-requires g c =
    let there = store_there (λ s. g.T.Store.state s) c.args.stores.now.items (c.args.piece ∷ []) 0 c.args.piece c.requires.fits refl in
    omega (arith, there, c.args.stores.now.ok.0)

pub load-requires-clause-within : goal.load-requires-clause-within
load-requires-clause-within g c =
    let stores = c.args.stores.now.items in
    let there = store_there (λ s. g.T.Store.state s) stores (c.args.piece ∷ []) 0 c.args.piece c.requires.fits refl in
    let found = store_of (λ s. g.T.Store.state s) stores (c.args.piece ∷ []) 0 c.args.piece c.requires.fits refl in
    let at = read_there stores c.args.piece.input c.index_mut.result.now c.index_mut.ensures.value there in
    subst (λ x. c.args.piece.span.at + c.args.piece.span.length ≤ (g.T.Store.state x).known) (at_one stores c.args.piece.input found.0 c.index_mut.result.now found.1 at) found.2

pub returns-in-Ok-clause-loads : goal.returns-in-Ok-clause-loads
returns-in-Ok-clause-loads g c =
    let stores = c.args.stores.now.items in
    let there = store_there (λ s. g.T.Store.state s) stores (c.args.piece ∷ []) 0 c.args.piece c.requires.fits refl in
    let at = read_there stores c.args.piece.input c.index_mut.result.now c.index_mut.ensures.value there in
    let loads = c.in-Ok.ensures.loads in
    (loads.0, bytes_loaded (λ s. g.T.Store.state s) stores c.args.piece c.index_mut.result.now loads.0 at loads.1, loads.2)

pub returns-in-Ok-clause-stores : goal.returns-in-Ok-clause-stores
returns-in-Ok-clause-stores g c =
    let stores = c.args.stores.now.items in
    let there = store_there (λ s. g.T.Store.state s) stores (c.args.piece ∷ []) 0 c.args.piece c.requires.fits refl in
    let at = read_there stores c.args.piece.input c.index_mut.result.now c.index_mut.ensures.value there in
    reads_piece (λ s. g.T.Store.state s) stores c.args.piece c.index_mut.result.now c.load.new.store (Ok tt) (Ok tt) at c.in-Ok.ensures.store c.in-Ok.ensures.store.cause

pub returns-in-Err-clause-stores : goal.returns-in-Err-clause-stores
returns-in-Err-clause-stores g c =
    let stores = c.args.stores.now.items in
    let there = store_there (λ s. g.T.Store.state s) stores (c.args.piece ∷ []) 0 c.args.piece c.requires.fits refl in
    let at = read_there stores c.args.piece.input c.index_mut.result.now c.index_mut.ensures.value there in
    let reads = c.in-Err.ensures.store in
    reads_piece (λ s. g.T.Store.state s) stores c.args.piece c.index_mut.result.now c.load.new.store (Err c.in-Err.why) _ at reads (refl, reads.cause)
