use Rattle.std.proofs.Common.{List, ◌<◌, ◌≤◌, ◌≡◌, length, refl, sym, subst, inr, arith}
use Rattle.mcap_model.specs.Places.{Each}
use Rattle.mcap_model.proofs.Places.{at_one}
use Rattle.merge_walk.specs.Windows.{loaded_in}
use Rattle.merge_walk.specs.declared.cursors.Cursor.{Cursor}
use Rattle.merge_walk.specs.Cursors.{HasLeft}
use Rattle.merge_walk.proofs.Places.{read_there}
use Rattle.merge_walk.proofs.Going.{released_last, loaded_at, left_but_last, gone_left}
use Rattle.merge_walk.proofs.walk.Walk.let_go.Goals as goal

pub release-requires : goal.release-requires
release-requires c =
    let w = c.args.self.now in
    let x = c.remove-cursor.result in
    let at = read_there w.cursors.items w.last x c.remove-cursor.ensures.value (omega (arith, c.if-self-len.false, c.len.ensures, w.cursors.ok.0)) in
    loaded_at c.requires.0 w w.last x c.requires.1 at

pub returns : goal.returns
returns c =
    let w = c.args.self.now in
    let x = c.remove-cursor.result in
    let y = c.index.result.now in
    let within : w.last < length w.cursors.items = omega (arith, c.if-self-len.false, c.len.ensures, w.cursors.ok.0) in
    let at = read_there w.cursors.items w.last x c.remove-cursor.ensures.value within in
    let same : y ≡ x = at_one w.cursors.items w.last y x (read_there w.cursors.items w.last y c.index.ensures within) at in
    record {
      pieces = refl;
      next = refl;
      peak = refl;
      goes = inr (record {
        cursor = x;
        at = at;
        over = subst (λ (z : Cursor). length z.heads.items ≤ z.given) same (c.is_over.ensures.0 c.if-not-is_over.false);
        cursors = c.remove-cursor.ensures.items;
        loaded = released_last c.requires.0 w x (loaded_in c.release.new.self) c.requires.1 at c.release.ensures;
      });
      left = subst (λ (l : List Cursor). Each HasLeft l) (sym c.remove-cursor.ensures.items) (gone_left w.cursors.items w.last (left_but_last c.requires.0 w c.requires.1));
    }
