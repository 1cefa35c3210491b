-- The argument is added.
use Rattle.clap.specs.Words.{new_rule}
use Rattle.command_words.proofs.LineLemmas.{more_args}
use Rattle.command_words.proofs.command_line.with_place.Goals as goal

pub returns : goal.returns
returns c = λ app made. more_args app (new_rule c.args.name.now) c.in_ok-made.field-0 c.args.made c.arg.result c.new.result c.in_ok-made.was c.arg.ensures c.new.ensures.rule c.new.ensures.optional.1 made
