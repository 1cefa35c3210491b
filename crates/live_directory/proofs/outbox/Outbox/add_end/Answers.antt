use Rattle.std.proofs.Common.{rules, ◌≡◌, ◌++◌, ◌∙◌, sym, ap, subst, List, append-nil, None}
use Rattle.live_entry.specs.declared.entry.Entry.{Entry}
use Rattle.live_entry.specs.Entries.{EntriesFollow}
use Rattle.live_directory.specs.Published.{entries_of, end_of}
use Rattle.live_directory.specs.Writing.{outbox_history}
use Rattle.live_directory.proofs.Histories.{follow_whole, both_ways}
use Rattle.live_directory.proofs.Sending.{end_added, end_waits}
use Rattle.live_directory.proofs.outbox.Outbox.add_end.Goals as goal

pub hand_in-requires-clause-follow : goal.hand_in-requires-clause-follow
hand_in-requires-clause-follow g c =
    let all = outbox_history c.args.self.now in
    subst (EntriesFollow g.X.Extent.tells)
    (sym (ap (λ (es : List (Entry g.row.X.Denot)). entries_of all ++ es) c.new.ensures.items ∙ append-nil (entries_of all)))
    (follow_whole g.X.Extent.tells all c.end.ensures.history)

pub returns-in-None : goal.returns-in-None
returns-in-None g c =
    let o = c.args.self.now in
    let n = c.hand_in-in-None.new.self in
    let unsealed : end_of (outbox_history o) ≡ None = search rules in
    both_ways c.hand_in-in-None.result c.hand_in-in-None.ensures
    (λ is. end_added o n c.args.end c.requires.none_waits.0 unsealed (search rules))
    (λ w. end_waits o n c.args.end c.requires.none_waits.0 c.requires.none_waits.1 (search rules))
