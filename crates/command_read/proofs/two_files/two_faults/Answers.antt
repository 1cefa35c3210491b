use Rattle.std.proofs.Common.{Bool, false, not, if◌then◌else◌, ap, ◌∙◌, ◌||◌, refl}
use Rattle.command_read.proofs.TwoDue.{two_show}
use Rattle.command_read.proofs.two_files.two_faults.Goals as goal

pub returns : goal.returns
returns c =
    two_show c.args.before.now c.args.now.now c.args.file_failed c.args.other_failed c.args.broke c.rose-world.result c.rose-inputs.result c.rose-printing.result _
    (c.any_holds.ensures ∙ ap (λ (b : Bool). c.args.file_failed || (b || c.holds_alone-inputs_alone.result)) c.holds_alone-world_alone.ensures
    ∙ ap (λ (b : Bool). c.args.file_failed || ((if c.rose-world.result then not c.args.other_failed else false) || b)) c.holds_alone-inputs_alone.ensures)
    refl c.any_holds-2.ensures c.rose-world.ensures c.rose-inputs.ensures c.rose-printing.ensures
