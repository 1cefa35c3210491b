-- The names so far are those of the numbers so far.
use Rattle.std.proofs.Common.{◌≡◌}
use Rattle.command_words.specs.Defaults.{watch_names}
use Rattle.command_words.proofs.watches.watch_names.Given as goal

abbrev pub invariant-numbers : goal.invariant-numbers
invariant-numbers l = l.names.items ≡ watch_names l.fn.out l.number
