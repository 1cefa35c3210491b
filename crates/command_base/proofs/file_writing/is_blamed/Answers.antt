use Rattle.command_base.proofs.BlamedNames.{every_blamed}
use Rattle.command_base.proofs.file_writing.is_blamed.Goals as goal

pub returns-then-failed : goal.returns-then-failed
returns-then-failed c = λ names within. every_blamed names c.args.failed c.args.index c.if-failed.true within
