use Rattle.std.proofs.Common.{refl, arith}
use Rattle.mcap_model.specs.Plain.{cut_top}
use Rattle.summary_check.proofs.Footed.{fits, places_are}
use Rattle.summary_check.proofs.closing.places_of.Goals as goal

pub returns-clause-are : goal.returns-clause-are
returns-clause-are c = λ tops bytes filed.
    let foot = c.args.foot.now in
    let cuts = c.args.cuts.now in
    places_are tops bytes cuts foot c.args.start filed (record { behind = c.args.start; footer = c.saturating_add.result; first_offset = c.first_offset-first_offset.result }) refl
    (omega (arith, c.saturating_add.ensures, c.saturating_sub.ensures, fits tops bytes cuts foot c.args.start filed)) (c.first_offset-first_offset.ensures tops bytes (cut_top bytes foot) filed.laid)

pub returns-clause-footer : goal.returns-clause-footer
returns-clause-footer c = λ tops bytes filed.
    omega (arith, c.saturating_add.ensures, c.saturating_sub.ensures, fits tops bytes c.args.cuts.now c.args.foot.now c.args.start filed)
