use Rattle.std.proofs.Common.{arith}
use Rattle.summary_check.proofs.Naming.{front_fits}
use Rattle.summary_check.proofs.Footed.{first_stands, none_stands}
use Rattle.summary_check.proofs.closing.first_offset.Goals as goal

pub returns-in-None : goal.returns-in-None
returns-in-None c = λ tops bytes foot laid. none_stands tops bytes c.args.cuts.now c.args.start foot laid c.in-None.ensures

pub returns-in-Some : goal.returns-in-Some
returns-in-Some c = λ tops bytes foot laid.
    let s = c.in-Some.ensures in
    first_stands tops bytes c.args.cuts.now c.args.start foot laid c.in-Some.from c.in-Some.field-0-1 s c.saturating_add.result
    (omega (arith, c.saturating_add.ensures, c.saturating_sub.ensures, front_fits tops bytes c.args.cuts.now c.args.start foot laid 14 c.in-Some.from c.in-Some.field-0-1 s))
