use Rattle.std.proofs.Common.{sym, subst}
use Rattle.summary_check.specs.Cutting.{CutsBehindTo}
use Rattle.summary_check.proofs.Cuts.{cuts_more, refused_behind}
use Rattle.summary_check.proofs.cutting.cut_records.Goals as goal

pub records-preserved : goal.records-preserved
records-preserved c =
    subst (CutsBehindTo c.args.bytes.now c.in-Ok.cut.to) (sym c.in-Ok-push.ensures.items) (cuts_more c.args.bytes.now c.records.at c.records.cuts.items c.in-Ok.cut c.records.invariant c.in-Ok.ensures.judged)

pub returns-in-Err-clause-cut : goal.returns-in-Err-clause-cut
returns-in-Err-clause-cut c = refused_behind c.args.bytes.now c.records.at c.args.start c.records.cuts.items c.in-Err.why c.records.invariant c.in-Err.ensures.judged
