use Rattle.std.proofs.Common.{◌≡◌, List, [], ◌∷◌, ◌++◌, length, map, refl, sym, ap, subst, ◌∙◌, inl, inr, arith}
use Rattle.std.specs.Prelude.{IsPermutation}
use Rattle.mcap_io.specs.Stores.{StoreState}
use Rattle.mcap_model.specs.Places.{At}
use Rattle.mcap_model.proofs.Places.{at_read}
use Rattle.merge_walk.specs.declared.spans.Span.{Span}
use Rattle.merge_walk.specs.declared.pieces.Piece.{Piece}
use Rattle.merge_walk.specs.Pieces.{pieces_with}
use Rattle.merge_walk.specs.Walks.{pieces_in}
use Rattle.mcap_merge.specs.ReadingSteps.{StoreKeeps, AsksWithinLength}
use Rattle.mcap_sort.specs.SortSteps.{IsReady, IsUnready}
use Rattle.mcap_sort.proofs.OneStore.{of_set}
use Rattle.mcap_sort.proofs.sorting.make_ready.Goals as goal

pub returns-in-Err-clause-keeps : goal.returns-in-Err-clause-keeps
returns-in-Err-clause-keeps g c =
    let state : g.row.T.Denot → StoreState = λ s. g.T.Store.state s in
    let olds = c.args.stores.now.items in
    let x = c.index_mut.result.now in
    let y = c.read_store.new.store in
    let at : At olds 0 x = subst (At olds 0) (sym c.index_mut.ensures.value) (at_read olds 0 x (omega (arith, c.requires.one))) in
    of_set state olds x y StoreKeeps c.requires.one at c.read_store.ensures.keeps

pub returns-in-Err-clause-asked : goal.returns-in-Err-clause-asked
returns-in-Err-clause-asked g c =
    let state : g.row.T.Denot → StoreState = λ s. g.T.Store.state s in
    let olds = c.args.stores.now.items in
    let x = c.index_mut.result.now in
    let y = c.read_store.new.store in
    let at : At olds 0 x = subst (At olds 0) (sym c.index_mut.ensures.value) (at_read olds 0 x (omega (arith, c.requires.one))) in
    of_set state olds x y AsksWithinLength c.requires.one at c.read_store.ensures.asked

pub returns-in-Err-options_of-clause-keeps : goal.returns-in-Err-options_of-clause-keeps
returns-in-Err-options_of-clause-keeps g c =
    let state : g.row.T.Denot → StoreState = λ s. g.T.Store.state s in
    let olds = c.args.stores.now.items in
    let x = c.index_mut.result.now in
    let y = c.read_store.new.store in
    let at : At olds 0 x = subst (At olds 0) (sym c.index_mut.ensures.value) (at_read olds 0 x (omega (arith, c.requires.one))) in
    of_set state olds x y StoreKeeps c.requires.one at c.read_store.ensures.keeps

pub returns-in-Err-options_of-clause-asked : goal.returns-in-Err-options_of-clause-asked
returns-in-Err-options_of-clause-asked g c =
    let state : g.row.T.Denot → StoreState = λ s. g.T.Store.state s in
    let olds = c.args.stores.now.items in
    let x = c.index_mut.result.now in
    let y = c.read_store.new.store in
    let at : At olds 0 x = subst (At olds 0) (sym c.index_mut.ensures.value) (at_read olds 0 x (omega (arith, c.requires.one))) in
    of_set state olds x y AsksWithinLength c.requires.one at c.read_store.ensures.asked

pub returns-in-Err-pieces_of-clause-keeps : goal.returns-in-Err-pieces_of-clause-keeps
returns-in-Err-pieces_of-clause-keeps g c =
    let state : g.row.T.Denot → StoreState = λ s. g.T.Store.state s in
    let olds = c.args.stores.now.items in
    let x = c.index_mut.result.now in
    let y = c.read_store.new.store in
    let at : At olds 0 x = subst (At olds 0) (sym c.index_mut.ensures.value) (at_read olds 0 x (omega (arith, c.requires.one))) in
    of_set state olds x y StoreKeeps c.requires.one at c.read_store.ensures.keeps

pub returns-in-Err-pieces_of-clause-asked : goal.returns-in-Err-pieces_of-clause-asked
returns-in-Err-pieces_of-clause-asked g c =
    let state : g.row.T.Denot → StoreState = λ s. g.T.Store.state s in
    let olds = c.args.stores.now.items in
    let x = c.index_mut.result.now in
    let y = c.read_store.new.store in
    let at : At olds 0 x = subst (At olds 0) (sym c.index_mut.ensures.value) (at_read olds 0 x (omega (arith, c.requires.one))) in
    of_set state olds x y AsksWithinLength c.requires.one at c.read_store.ensures.asked

pub returns-clause-keeps : goal.returns-clause-keeps
returns-clause-keeps g c =
    let state : g.row.T.Denot → StoreState = λ s. g.T.Store.state s in
    let olds = c.args.stores.now.items in
    let x = c.index_mut.result.now in
    let y = c.read_store.new.store in
    let at : At olds 0 x = subst (At olds 0) (sym c.index_mut.ensures.value) (at_read olds 0 x (omega (arith, c.requires.one))) in
    of_set state olds x y StoreKeeps c.requires.one at c.read_store.ensures.keeps

pub returns-clause-asked : goal.returns-clause-asked
returns-clause-asked g c =
    let state : g.row.T.Denot → StoreState = λ s. g.T.Store.state s in
    let olds = c.args.stores.now.items in
    let x = c.index_mut.result.now in
    let y = c.read_store.new.store in
    let at : At olds 0 x = subst (At olds 0) (sym c.index_mut.ensures.value) (at_read olds 0 x (omega (arith, c.requires.one))) in
    of_set state olds x y AsksWithinLength c.requires.one at c.read_store.ensures.asked

pub returns-in-Err-clause-refused : goal.returns-in-Err-clause-refused
returns-in-Err-clause-refused g c =
    let state : g.row.T.Denot → StoreState = λ s. g.T.Store.state s in
    let olds = c.args.stores.now.items in
    let x = c.index_mut.result.now in
    let y = c.read_store.new.store in
    let at : At olds 0 x = subst (At olds 0) (sym c.index_mut.ensures.value) (at_read olds 0 x (omega (arith, c.requires.one))) in
    of_set state olds x y (λ old new. IsUnready old new c.refusal_at.result) c.requires.one at (inl (c.in-Err.why, c.in-Err.ensures.reads, c.refusal_at.ensures))

pub returns-in-Err-options_of-clause-refused : goal.returns-in-Err-options_of-clause-refused
returns-in-Err-options_of-clause-refused g c =
    let state : g.row.T.Denot → StoreState = λ s. g.T.Store.state s in
    let olds = c.args.stores.now.items in
    let x = c.index_mut.result.now in
    let y = c.read_store.new.store in
    let at : At olds 0 x = subst (At olds 0) (sym c.index_mut.ensures.value) (at_read olds 0 x (omega (arith, c.requires.one))) in
    let (r, holds, is, still) = c.in-Ok.ensures.reads in
    of_set state olds x y (λ old new. IsUnready old new _) c.requires.one at (inr (still, refl, (r, is, holds.holds.good)))

pub returns-in-Err-pieces_of-clause-refused : goal.returns-in-Err-pieces_of-clause-refused
returns-in-Err-pieces_of-clause-refused g c =
    let state : g.row.T.Denot → StoreState = λ s. g.T.Store.state s in
    let olds = c.args.stores.now.items in
    let x = c.index_mut.result.now in
    let y = c.read_store.new.store in
    let at : At olds 0 x = subst (At olds 0) (sym c.index_mut.ensures.value) (at_read olds 0 x (omega (arith, c.requires.one))) in
    let (r, holds, is, still) = c.in-Ok.ensures.reads in
    of_set state olds x y (λ old new. IsUnready old new _) c.requires.one at (inr (still, refl, (r, is, holds.holds.good)))

pub returns-clause-ready : goal.returns-clause-ready
returns-clause-ready g c =
    let state : g.row.T.Denot → StoreState = λ s. g.T.Store.state s in
    let olds = c.args.stores.now.items in
    let x = c.index_mut.result.now in
    let y = c.read_store.new.store in
    let at : At olds 0 x = subst (At olds 0) (sym c.index_mut.ensures.value) (at_read olds 0 x (omega (arith, c.requires.one))) in
    let (r, holds, is, still) = c.in-Ok.ensures.reads in
    let gathered = c.in-Ok.gathered in
    let listed = c.in-Ok-pieces_of.ensures ∙ ap (λ (l : List Piece). l ++ pieces_with 0 c.as_slice.result.now) c.new-pieces.ensures.items ∙ ap (λ (l : List Span). pieces_with 0 l) c.as_slice.ensures.value in
    of_set state olds x y (λ old new. IsReady old new c.args.chunk _) c.requires.one at (record {
      read = r;
      is = is;
      holds = holds;
      still = still;
      fits = c.in-Ok.ensures.fits;
      options_are = c.in-Ok-options_of.ensures.options;
      short = c.in-Ok-options_of.ensures.short;
      pieces = subst (λ (l : List Piece). IsPermutation l (pieces_in c.new-walk.result)) (listed) c.new-walk.ensures.pieces;
      stands = c.new-walk.ensures.stands;
    })
