-- The complaints of one watcher more.
use Rattle.std.proofs.Common.{◌≡◌, ℕ, ◌+◌, ◌∙◌, ◌∷◌, ◌++◌, [], List, Option, ap, sym, drop, rules}
use Rattle.std.specs.List.{flat_map}
use Rattle.std.proofs.lemmas.List.{drop_more}
use Rattle.command_base.specs.ComplaintTroubles.{complained}
use Rattle.command_base.specs.declared.complaint.Complaint.{Complaint}
use Rattle.command_record.specs.WatchedSteps.{watch_flags_of}
use Rattle.command_record.proofs.WatchedDue.{watch_due, watches_from}
use Rattle.command_record.proofs.watched_answer.put_watch_complaints.Goals as goal

pub watches-preserved : goal.watches-preserved
watches-preserved c =
    let watches = c.args.watches.now in
    let reports = c.args.reports.now in
    let flags = watch_flags_of watches c.args.failed in
    let i = c.watches.i in
    let next : drop i watches ≡ c.as_str-name.result.now ∷ drop (i + 1) watches =
    drop_more watches i c.index-watches-i.result c.watches-test.true ∙ ap (λ (x : List ℕ). x ∷ drop (i + 1) watches) (sym (c.as_str-name.ensures.same ∙ c.index-watches-i.is)) in
    record {
      troubles = watch_due c.watches.complaints.items (flat_map complained c.args.complaints.now.items ++ watches_from 0 watches reports flags) i watches reports flags c.as_str-name.result.now c.flaw_complaint.result c.due_when.result c.push-in-watches.new.self.items c.watches.invariant.troubles next
          c.flaw_complaint.ensures (c.due_when.ensures ∙ search rules) (c.push-in-watches.ensures.items ∙ ap (λ (l : List (Option Complaint)). l ++ c.due_when.result ∷ []) c.push.ensures.items);
      many = search rules;
    }
