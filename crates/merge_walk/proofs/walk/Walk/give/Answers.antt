use Rattle.std.proofs.Common.{◌+◌, refl, ap, subst}
use Rattle.mcap_model.specs.Places.{At}
use Rattle.merge_walk.specs.declared.cursors.Cursor.{Cursor}
use Rattle.merge_walk.specs.Cursors.{turn_of}
use Rattle.merge_walk.proofs.Ordered.{read_is, read_at}
use Rattle.merge_walk.proofs.walk.Walk.give.Goals as goal

pub returns : goal.returns
returns c =
    let cursors = c.args.self.now.cursors.items in
    let i = c.args.i in
    let m = c.index_mut.result.now in
    let e = c.next_head-head.result in
    let there : At cursors i m = read_at cursors i m c.index_mut.ensures.value c.requires.within in
    record {
      pieces = refl;
      next = refl;
      peak = refl;
      loaded = refl;
      last = refl;
      old_cursor = m;
      cursor = record { piece = m.piece; heads = m.heads; given = m.given + 1 };
      at = there;
      cursors = refl;
      is = (
        e,
        subst (λ (y : Cursor). At y.heads.items y.given e) (read_is cursors i c.index.result.now m c.index.ensures there) c.next_head-head.ensures,
        ap (λ (y : Cursor). turn_of y.piece e) (read_is cursors i c.index-2.result.now m c.index-2.ensures there),
      );
      piece = refl;
      heads = refl;
      given = refl;
    }
