use Rattle.std.proofs.Common.{ap, arith}
use Rattle.summary_check.specs.Files.{flawed_at}
use Rattle.summary_check.proofs.Laying.{offset_cut}
use Rattle.summary_check.proofs.flaws.flawed.Goals as goal

pub returns-clause-fails : goal.returns-clause-fails
returns-clause-fails c = λ tops bytes foot t laid at.
    let (cut, at_cut, from) = c.from_at-from.ensures in
    let inside = laid.inside c.args.i cut at_cut in
    ap (flawed_at c.args.rule) (omega (arith, c.saturating_add-offset.ensures, c.saturating_sub.ensures, from, offset_cut tops bytes c.args.cuts.now c.args.start foot laid c.args.i cut at_cut, inside.0, inside.1, laid.fits))
