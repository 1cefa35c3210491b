use Rattle.command_record.proofs.Flags.{every_of}
use Rattle.command_record.proofs.watched_answer.is_watch_blamed.Goals as goal

pub returns-then-failed : goal.returns-then-failed
returns-then-failed c = λ watches within. every_of watches c.args.failed.every_watch c.args.failed.watches.now c.args.index c.if-failed.true within
