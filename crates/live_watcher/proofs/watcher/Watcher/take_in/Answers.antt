use Rattle.std.proofs.Common.{◌≡◌, ℕ, List, [], ◌∷◌, ◌++◌, length, sym, ap, subst, ◌∙◌, Some}
use mathlib.Core.List.{IsPrefix}
use Rattle.live_directory.specs.declared.front.Added.{Added}
use Rattle.live_directory.specs.declared.front.Front.{Front}
use Rattle.live_directory.specs.Published.{entries_of}
use Rattle.live_directory.specs.Reading.{ReaderState}
use Rattle.live_watcher.specs.declared.report.WatchEnd.TheVariants as watch_ends
use Rattle.live_watcher.specs.Watching.{WatcherState}
use Rattle.live_watcher.specs.WatcherSteps.{IsTold}
use Rattle.live_watcher.proofs.Fronts.{told_by}
use Rattle.live_watcher.proofs.Steps.{lacked, moved, refreshed}
use Rattle.live_watcher.proofs.watcher.Watcher.take_in.Goals as goal

pub returns-in-Err-clause-since : goal.returns-in-Err-clause-since
returns-in-Err-clause-since g c = λ first w.
    lacked g.X.Extent.tells first c.args.self.now _ w c.requires.goes_on (ap (λ (s : WatcherState g.row.X.Denot). s.range) c.self.view_is)
    (ap (λ (s : WatcherState g.row.X.Denot). record s.written { end = Some watch_ends.Memory }) c.self.view_is) (c.in-Err.ensures.1.held ∙ ap (λ (s : WatcherState g.row.X.Denot). s.reader.entries) c.self.view_is)

pub returns-in-Some-clause-since : goal.returns-in-Some-clause-since
returns-in-Some-clause-since g c = λ first w.
    c.write_end.ensures.since first
    (moved g.X.Extent.tells first c.args.self.now _ w c.requires.goes_on (ap (λ (s : WatcherState g.row.X.Denot). s.range) c.self.view_is) (ap (λ (s : WatcherState g.row.X.Denot). s.written) c.self.view_is)
    (subst (λ (s : WatcherState g.row.X.Denot). IsPrefix s.reader.entries c.refresh.new.self.entries) c.self.view_is (refreshed g.X.Extent.tells c.self.inside.reader c.refresh.new.self c.in-Ok.front c.entries-held.ensures.first.0 c.entries-held.ensures.first.1 c.in-Ok.ensures)))

pub returns-then-is_due-clause-since : goal.returns-then-is_due-clause-since
returns-then-is_due-clause-since g c = λ first w.
    c.write_front.ensures.since first
    (moved g.X.Extent.tells first c.args.self.now _ w c.requires.goes_on (ap (λ (s : WatcherState g.row.X.Denot). s.range) c.self.view_is) (ap (λ (s : WatcherState g.row.X.Denot). s.written) c.self.view_is)
    (subst (λ (s : WatcherState g.row.X.Denot). IsPrefix s.reader.entries c.refresh.new.self.entries) c.self.view_is (refreshed g.X.Extent.tells c.self.inside.reader c.refresh.new.self c.in-Ok.front c.entries-held.ensures.first.0 c.entries-held.ensures.first.1 c.in-Ok.ensures)))

pub returns-else-is_due-clause-since : goal.returns-else-is_due-clause-since
returns-else-is_due-clause-since g c = λ first w.
    moved g.X.Extent.tells first c.args.self.now _ w c.requires.goes_on (ap (λ (s : WatcherState g.row.X.Denot). s.range) c.self.view_is) (ap (λ (s : WatcherState g.row.X.Denot). s.written) c.self.view_is)
    (subst (λ (s : WatcherState g.row.X.Denot). IsPrefix s.reader.entries c.refresh.new.self.entries) c.self.view_is (refreshed g.X.Extent.tells c.self.inside.reader c.refresh.new.self c.in-Ok.front c.entries-held.ensures.first.0 c.entries-held.ensures.first.1 c.in-Ok.ensures))

pub returns-then-is_due-clause-told : goal.returns-then-is_due-clause-told
returns-then-is_due-clause-told g c = λ none.
    let found = c.in-Ok.ensures in
    let fronts = c.self.inside.fronts.items in
    let now = c.write_front.new.self in
    let blocks : length (entries_of now.reader.known) ≡ c.in-Ok.front.blocks =
    ap (λ (r : ReaderState g.row.X.Denot). length (entries_of r.known)) c.write_front.ensures.reader ∙ ap (λ (h : List (Added g.row.X.Denot)). length (entries_of h)) found.known ∙ sym (ap (λ (f : Front). f.blocks) found.front_is) in
    subst (λ (ns : List ℕ). IsTold ns (length (entries_of now.reader.known))) (sym (c.write_front.ensures.told none))
    (subst (λ (n : ℕ). IsTold (fronts ++ c.in-Ok.front.blocks ∷ []) n) (sym blocks) (told_by fronts c.in-Ok.front.blocks (c.is_due.ensures.some c.if-is_due.true)))
