use Rattle.io_files.proofs.Gathering.{puts-past}
use Rattle.io_files.proofs.gather.Gather.write_past.Goals as goal

pub returns-in-Ok-clause-puts : goal.returns-in-Ok-clause-puts
returns-in-Ok-clause-puts g c = puts-past _ _ _ _ c.requires.none_waits c.in-Ok.ensures.1
