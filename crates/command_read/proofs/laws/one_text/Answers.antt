use Rattle.command_read.proofs.Once.{one_text}
use Rattle.command_read.proofs.laws.one_text.Goals as goal

pub returns : goal.returns
returns c = one_text
