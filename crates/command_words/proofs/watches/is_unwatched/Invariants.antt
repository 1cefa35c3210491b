-- The name is none of those of the numbers so far.
use Rattle.command_words.specs.Commands.{IsUnwatched}
use Rattle.command_words.proofs.watches.is_unwatched.Given as goal

abbrev pub invariant-numbers : goal.invariant-numbers
invariant-numbers l = IsUnwatched l.fn.out l.number l.fn.name
