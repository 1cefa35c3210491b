use Rattle.std.proofs.Common.{rules, ◌++◌, ◌∙◌, sym, ap, subst, List, true}
use Rattle.live_entry.specs.Entries.{EntriesFollow}
use Rattle.live_directory.specs.declared.front.Added.{Added}
use Rattle.live_directory.specs.Published.{entries_of, end_of}
use Rattle.live_directory.specs.Writing.{DirectoryState, Publishes, Defers, seen_of}
use Rattle.live_directory.proofs.Sending.{none_waits, all_shown, publishes, defers_waiting}
use Rattle.live_directory.proofs.directory.Directory.publish.Goals as goal

pub hand_in-requires-clause-none_waits : goal.hand_in-requires-clause-none_waits
hand_in-requires-clause-none_waits g c = none_waits c.self.inside.outbox (c.self.invariant.1 (ap (λ d. d.short) c.self.view_is ∙ c.requires.first_want))

pub hand_in-requires-clause-unsealed : goal.hand_in-requires-clause-unsealed
hand_in-requires-clause-unsealed g c =
    let none = c.self.invariant.1 (ap (λ d. d.short) c.self.view_is ∙ c.requires.first_want) in
    ap end_of (all_shown c.self.inside.outbox none ∙ ap (λ d. d.shown) c.self.view_is) ∙ c.requires.unsealed

pub hand_in-requires-clause-follow : goal.hand_in-requires-clause-follow
hand_in-requires-clause-follow g c =
    let none = c.self.invariant.1 (ap (λ d. d.short) c.self.view_is ∙ c.requires.first_want) in
    subst (λ (w : List (Added g.row.X.Denot)). EntriesFollow g.X.Extent.tells (entries_of w ++ c.args.entries.items))
    (sym (all_shown c.self.inside.outbox none ∙ ap (λ d. d.shown) c.self.view_is)) c.requires.follow

pub returns-in-Err : goal.returns-in-Err
returns-in-Err g c =
    let o = c.self.inside.outbox in
    let none = c.self.invariant.1 (ap (λ d. d.short) c.self.view_is ∙ c.requires.first_want) in
    subst (λ (d : DirectoryState g.row.X.Denot). Defers d (seen_of c.hand_in.new.self true) c.args.entries.items) c.self.view_is
    (defers_waiting o c.hand_in.new.self c.args.entries.items c.self.inside.short none (search rules))

pub returns-in-Ok-show : goal.returns-in-Ok-show
returns-in-Ok-show g c =
    let o = c.self.inside.outbox in
    let short = ap (λ d. d.short) c.self.view_is ∙ c.requires.first_want in
    subst (λ (d : DirectoryState g.row.X.Denot). Publishes d (seen_of c.show.new.self c.self.inside.short) c.args.entries.items c.note-note.result) c.self.view_is
    (publishes o c.hand_in.new.self c.show.new.self c.args.entries.items c.self.inside.short c.note-note.result (c.self.invariant.1 short) (search rules) (search rules) c.note-note.ensures.note short
    (ap (λ d. end_of d.shown) c.self.view_is ∙ c.requires.unsealed))
