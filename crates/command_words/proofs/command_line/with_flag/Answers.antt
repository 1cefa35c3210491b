-- The argument is added.
use Rattle.std.proofs.Common.{rules}
use Rattle.command_words.specs.CommandLine.{flag_given}
use Rattle.command_words.proofs.LineLemmas.{more_args}
use Rattle.command_words.proofs.command_line.with_flag.Goals as goal

pub returns : goal.returns
returns c = λ app made. more_args app (flag_given c.args.name.now) c.in_ok-made.field-0 c.args.made c.arg.result c.action.result c.in_ok-made.was c.arg.ensures (search rules) (search rules) made
