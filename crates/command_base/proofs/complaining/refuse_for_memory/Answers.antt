use Rattle.command_base.specs.Texts.{trouble_line}
use Rattle.command_base.proofs.complaining.refuse_for_memory.Goals as goal

pub returns : goal.returns
unfolding trouble_line
returns g c = c.tell.ensures
