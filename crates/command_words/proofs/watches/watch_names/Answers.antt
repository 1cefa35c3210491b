-- The names are those of the numbers.
use Rattle.std.proofs.Common.{arith, rules, subst, sym}
use Rattle.command_words.specs.Commands.{NamesDiffer}
use Rattle.command_words.proofs.WatchLemmas.{names_apart, one_more}
use Rattle.command_words.proofs.watches.watch_names.Goals as goal

pub numbers-preserved : goal.numbers-preserved
numbers-preserved c = one_more c.args.out.now c.numbers.names.items c.push.new.self.items c.numbers.number c.in-Ok.name c.numbers.invariant c.in-Ok.ensures (search rules)

pub returns-clause-apart : goal.returns-clause-apart
returns-clause-apart c = subst (NamesDiffer c.args.out.now) (sym c.numbers.invariant) (names_apart c.args.out.now c.numbers.number (omega (arith, c.numbers.auto.number-end, c.requires)))
