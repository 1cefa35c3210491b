-- The answer of one report more was added.
use Rattle.std.proofs.Common.{◌≡◌, ◌+◌, ◌∙◌, ℕ, List, Bool, suc, take, length, sym, ap, subst, rules, arith}
use Rattle.mcap_model.specs.Places.{At}
use Rattle.mcap_model.proofs.Places.{at_read}
use Rattle.command_record.specs.Watched.{is_watch_fault, with_ends}
use Rattle.command_record.specs.WatchedSteps.{or_at}
use Rattle.command_record.proofs.WatchEnds.{ends_nothing, ends_more, written_over}
use Rattle.command_record.proofs.watched_names.add_ends.Goals as goal

pub reports-init : goal.reports-init
reports-init c = record { added = sym (ends_nothing c.args.failed.now.items) }

pub reports-preserved : goal.reports-preserved
reports-preserved c =
    let reports = c.args.reports.now in
    let i = c.reports.i in
    let r = c.index-reports-i.result in
    let there : At reports i r = subst (At reports i) (sym c.index-reports-i.is) (at_read reports i r c.reports-test.true) in
    let next : suc i ≡ i + 1 = omega arith in
    let now = c.add_end.new.failed in
    let old = c.reports.failed.items in
    let same : length now ≡ length old = search rules in
    let size : c.reports.failed.len ≡ length old = search rules in
    record {
      added = written_over c.reports.failed.len now old same size ∙ c.add_end.ensures ∙ ap (λ (l : List Bool). or_at l i (is_watch_fault r.end)) (c.deref_mut.ensures.value ∙ c.reports.invariant.added) ∙ ends_more c.args.failed.now.items reports i r there
          ∙ ap (λ (n : ℕ). with_ends c.args.failed.now.items (take n reports)) next;
    }
