use Rattle.std.proofs.Common.{rules}
use Rattle.json.specs.Print.{escape_byte}
use Rattle.command_base.proofs.Behind.{puts_same}
use Rattle.command_base.proofs.waiting.Waiting.put_escaped.Goals as goal

pub returns-then-letter-gt0 : goal.returns-then-letter-gt0
unfolding escape_byte
returns-then-letter-gt0 g c = puts_same _ _ _ _ _ _ (search rules) c.put.ensures

pub returns-then-byte-lt-FIRST_PRINTED : goal.returns-then-byte-lt-FIRST_PRINTED
unfolding escape_byte
returns-then-byte-lt-FIRST_PRINTED g c = puts_same _ _ _ _ _ _ (search rules) c.put-then-byte-lt-FIRST_PRINTED.ensures

pub returns : goal.returns
unfolding escape_byte
returns g c = puts_same _ _ _ _ _ _ (search rules) c.put_byte.ensures
