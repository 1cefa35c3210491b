-- Memory lacked for the reading back, where it has an ending.
use Rattle.std.proofs.Common.{sym, ap, ◌∙◌}
use Rattle.command_generate.specs.Generating.{is_lack_after}
use Rattle.command_generate.proofs.generating.back_lacked.Goals as goal

pub returns-in-Some : goal.returns-in-Some
returns-in-Some c = λ out. c.has_lacked.ensures out ∙ ap (is_lack_after c.args.what.now.feeds out) (sym c.in-Some.is)
