-- An answer is added at a place, or there is none.
use Rattle.std.proofs.Common.{◌∙◌, Bool, set, sym, ap}
use Rattle.command_record.specs.Watched.{is_watch_fault}
use Rattle.command_record.proofs.WatchEnds.{or_at_within, or_at_past}
use Rattle.command_record.proofs.watched_names.add_end.Goals as goal

pub returns-then-index-failed : goal.returns-then-index-failed
returns-then-index-failed c = sym (or_at_past c.args.failed.now c.args.index (is_watch_fault c.args.report.now.end) c.if-index-failed.true)

pub returns : goal.returns
returns c = ap (λ (b : Bool). set c.args.failed.now c.args.index b) c.is_watch_failed.ensures ∙ sym (or_at_within c.args.failed.now c.args.index _ (is_watch_fault c.args.report.now.end) c.if-index-failed.false)
