use Rattle.std.proofs.Common.{map, max, refl, ap, ◌∙◌}
use Rattle.std.proofs.lemmas.Bool.{both_ways}
use Rattle.merge_walk.specs.Windows.{loaded_in}
use Rattle.merge_walk.specs.Stores.{files_of}
use Rattle.merge_walk.proofs.Places.{read_there}
use Rattle.merge_walk.proofs.Stayed.{read_refused, read_well}
use Rattle.merge_walk.proofs.Steps.{fit_one, twice_refused, twice_leaves, part_there, part_is, cursor_refused, cursor_leaves, memory_leaves}
use Rattle.merge_walk.proofs.walk.Walk.load_next.Goals as goal

pub returns-then-is_loaded-clause-loads : goal.returns-then-is_loaded-clause-loads
returns-then-is_loaded-clause-loads g c =
    let w = c.args.self.now in
    let p = c.index.result.now in
    let at = read_there w.pieces.items w.next p c.index.ensures c.requires.within in
    let olds = map (λ s. g.T.Store.state s) c.args.stores.now.items in
    twice_refused (files_of olds) w p c.changed.result c.requires.stands at (c.is_loaded.ensures.0 c.if-is_loaded.true) c.changed.ensures

pub returns-then-is_loaded-clause-stores : goal.returns-then-is_loaded-clause-stores
returns-then-is_loaded-clause-stores g c =
    let w = c.args.self.now in
    let p = c.index.result.now in
    let at = read_there w.pieces.items w.next p c.index.ensures c.requires.within in
    let olds = map (λ s. g.T.Store.state s) c.args.stores.now.items in
    twice_leaves olds w _ p.input p.span.offset c.changed.result c.changed.ensures

pub load_piece-requires-clause-fits : goal.load_piece-requires-clause-fits
load_piece-requires-clause-fits g c =
    let w = c.args.self.now in
    let p = c.index.result.now in
    let at = read_there w.pieces.items w.next p c.index.ensures c.requires.within in
    let olds = map (λ s. g.T.Store.state s) c.args.stores.now.items in
    fit_one olds w.pieces.items w.next p c.requires.fits at

pub returns-in-Err-clause-stores : goal.returns-in-Err-clause-stores
returns-in-Err-clause-stores g c =
    let w = c.args.self.now in
    let p = c.index.result.now in
    let at = read_there w.pieces.items w.next p c.index.ensures c.requires.within in
    let olds = map (λ s. g.T.Store.state s) c.args.stores.now.items in
    let news = map (λ s. g.T.Store.state s) c.load_piece.new.stores.items in
    read_refused olds news w p at _ c.in-Err.why c.in-Err.ensures.stores

pub bytes-bytes-requires : goal.bytes-bytes-requires
bytes-bytes-requires g c =
    let w = c.args.self.now in
    let p = c.index.result.now in
    let at = read_there w.pieces.items w.next p c.index.ensures c.requires.within in
    let olds = map (λ s. g.T.Store.state s) c.args.stores.now.items in
    part_there (files_of olds) p (loaded_in w.window) (loaded_in c.load_piece.new.window) (tt {0}) c.in-Ok.ensures.loads

pub returns-in-Err-cursor_of-clause-loads : goal.returns-in-Err-cursor_of-clause-loads
returns-in-Err-cursor_of-clause-loads g c =
    let w = c.args.self.now in
    let p = c.index.result.now in
    let at = read_there w.pieces.items w.next p c.index.ensures c.requires.within in
    let olds = map (λ s. g.T.Store.state s) c.args.stores.now.items in
    let bytes = c.bytes-bytes.result.now in
    let found = part_is (files_of olds) p (loaded_in w.window) (loaded_in c.load_piece.new.window) (tt {0}) bytes (λ loaded. both_ways c.is_loaded.result c.if-is_loaded.false (c.is_loaded.ensures.1 loaded)) c.in-Ok.ensures.loads c.bytes-bytes.ensures in
    cursor_refused (files_of olds) w p bytes c.in-Err-cursor_of.why at found.are c.in-Err-cursor_of.ensures

pub returns-in-Err-cursor_of-clause-stores : goal.returns-in-Err-cursor_of-clause-stores
returns-in-Err-cursor_of-clause-stores g c =
    let w = c.args.self.now in
    let p = c.index.result.now in
    let at = read_there w.pieces.items w.next p c.index.ensures c.requires.within in
    let olds = map (λ s. g.T.Store.state s) c.args.stores.now.items in
    let news = map (λ s. g.T.Store.state s) c.load_piece.new.stores.items in
    cursor_leaves olds news w _ p c.bytes-bytes.result.now (tt {0}) c.in-Err-cursor_of.why at c.in-Ok.ensures.stores c.in-Err-cursor_of.ensures

pub returns-in-Err-push-clause-stores : goal.returns-in-Err-push-clause-stores
returns-in-Err-push-clause-stores g c =
    let w = c.args.self.now in
    let p = c.index.result.now in
    let at = read_there w.pieces.items w.next p c.index.ensures c.requires.within in
    let olds = map (λ s. g.T.Store.state s) c.args.stores.now.items in
    let news = map (λ s. g.T.Store.state s) c.load_piece.new.stores.items in
    memory_leaves olds news w _ p (tt {0}) at c.in-Ok.ensures.stores

pub returns-clause-loads : goal.returns-clause-loads
returns-clause-loads g c =
    let w = c.args.self.now in
    let p = c.index.result.now in
    let at = read_there w.pieces.items w.next p c.index.ensures c.requires.within in
    let olds = map (λ s. g.T.Store.state s) c.args.stores.now.items in
    let bytes = c.bytes-bytes.result.now in
    let found = part_is (files_of olds) p (loaded_in w.window) (loaded_in c.load_piece.new.window) (tt {0}) bytes (λ loaded. both_ways c.is_loaded.result c.if-is_loaded.false (c.is_loaded.ensures.1 loaded)) c.in-Ok.ensures.loads c.bytes-bytes.ensures in
    record {
      piece = p;
      at = at;
      unloaded = λ loaded. both_ways c.is_loaded.result c.if-is_loaded.false (c.is_loaded.ensures.1 loaded);
      bytes = bytes;
      are = found.are;
      cursor = c.in-Ok-cursor_of.cursor;
      fresh = c.in-Ok-cursor_of.ensures;
      pieces = refl;
      cursors = c.in-Ok-push.ensures.items;
      next = refl;
      loaded = found.is;
      peak = c.max-self.ensures ∙ ap (max w.peak) c.held.ensures;
    }

pub returns-clause-stores : goal.returns-clause-stores
returns-clause-stores g c =
    let w = c.args.self.now in
    let p = c.index.result.now in
    let at = read_there w.pieces.items w.next p c.index.ensures c.requires.within in
    let olds = map (λ s. g.T.Store.state s) c.args.stores.now.items in
    let news = map (λ s. g.T.Store.state s) c.load_piece.new.stores.items in
    read_well olds news w p at _ (tt {0}) (tt {0}) c.in-Ok.ensures.stores refl refl
