use Rattle.std.proofs.Common.{sym, subst}
use Rattle.summary_read.specs.Steps.{CutsTo}
use Rattle.summary_read.proofs.Walking.{cuts_more}
use Rattle.summary_read.proofs.walk.cut_records.Goals as goal

pub records-preserved : goal.records-preserved
records-preserved c =
    subst (CutsTo c.args.bytes.now c.in-Ok.cut.to) (sym c.in-Ok-push.ensures.items) (cuts_more c.args.bytes.now c.records.at c.records.cuts.items c.in-Ok.cut c.records.invariant c.in-Ok.ensures)
