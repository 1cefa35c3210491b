use Rattle.std.proofs.Common.{sym, subst, ap, ◌≡◌, ◌∙◌, take}
use Rattle.live_directory.specs.Published.{entries_of}
use Rattle.live_directory.specs.Reading.{ReaderState}
use Rattle.live_watcher.specs.Text.{unsealed}
use Rattle.live_watcher.specs.Watching.{Written, WatcherState, Watches}
use Rattle.live_watcher.specs.WatcherSteps.{EndsUnsealed}
use Rattle.live_watcher.proofs.Steps.{unsealed_of}
use Rattle.live_watcher.proofs.watcher.Watcher.finish_unsealed.Goals as goal

pub returns-clause-watches : goal.returns-clause-watches
returns-clause-watches g c = λ first w.
    let note = c.args.note.now in
    let after = c.conclude_unsealed-end.new.self in
    let held = c.entries-held.ensures.first in
    let reader_is = c.conclude_unsealed-end.ensures.reader in
    let ends = c.conclude_unsealed-end.ensures.since first w in
    subst (λ (wr : Written). Watches g.X.Extent.tells first.range (entries_of note) unsealed first.written wr) (sym c.into_watched.ensures)
    (unsealed_of g.X.Extent.tells first c.args.self.reader after.written note held.0 ends
    (subst (λ (r : ReaderState g.row.X.Denot). r.entries ≡ entries_of (take held.0 r.known)) reader_is (subst (λ (s : WatcherState g.row.X.Denot). s.reader.entries ≡ entries_of (take held.0 s.reader.known)) c.watcher.view_is held.1))
    c.await_note.ensures c.requires.unsealed)
