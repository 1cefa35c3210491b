use Rattle.std.proofs.Common.{ap, sym, subst, ◌≡◌, ◌∙◌, take}
use Rattle.live_directory.specs.declared.front.Front.{Front}
use Rattle.live_directory.specs.Published.{entries_of}
use Rattle.live_directory.proofs.Beginnings.{prefix_trans}
use Rattle.live_watcher.specs.Text.{sealed_by}
use Rattle.live_watcher.specs.Watching.{Written, WatcherState, Watches}
use Rattle.live_watcher.proofs.Steps.{finished, least_on}
use Rattle.live_watcher.proofs.watcher.Watcher.finish.Goals as goal

pub conclude-end-requires : goal.conclude-end-requires
conclude-end-requires g c =
    let is = c.requires.sealed in
    record { sealed = (is.0, ap (λ (f : Front). f.end) (c.learn.ensures.rises.stays is.0 is.1) ∙ is.1) }

pub returns-clause-watches : goal.returns-clause-watches
returns-clause-watches g c = λ first end w is.
    let note = c.args.note.now in
    let mid = c.learn.new.self in
    let after = c.conclude-end.new.self in
    let held = c.entries-held.ensures.first in
    let watched = c.conclude-end.ensures.since first (c.learn.ensures.since first w) in
    subst (λ (wr : Written). Watches g.X.Extent.tells first.range (entries_of note) (sealed_by end) first.written wr) (sym c.into_watched.ensures)
    (finished g.X.Extent.tells first after note end held.0 watched (subst (λ (s : WatcherState g.row.X.Denot). s.reader.entries ≡ entries_of (take held.0 s.reader.known)) c.watcher.view_is held.1)
    (prefix_trans note mid.reader.known after.reader.known c.learn.ensures.learnt c.conclude-end.ensures.knows)
    (least_on g.X.Extent.tells note mid.reader.known after.reader.known c.learn.ensures.rises c.conclude-end.ensures.rises) is)

pub returns-clause-stays : goal.returns-clause-stays
returns-clause-stays g c = λ why is.
    let learnt = c.learn.ensures.stays in
    c.into_watched.ensures ∙ c.conclude-end.ensures.stays why (ap (λ (w : Written). w.end) learnt ∙ is) ∙ learnt
