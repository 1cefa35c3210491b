-- The name is that of none of the numbers.
use Rattle.std.proofs.Common.{◌≡◌, false, sym, true, ◌∙◌}
use Rattle.command_words.proofs.WatchLemmas.{next_unwatched}
use Rattle.command_words.proofs.watches.is_unwatched.Goals as goal

pub numbers-preserved : goal.numbers-preserved
numbers-preserved c =
    next_unwatched c.args.out.now c.args.name.now c.in-Some.text.now c.numbers.number c.in-Some.ensures
    (λ same. let wrong : false ≡ true = sym c.if-is_number.false ∙ c.is_number.ensures.1 same in cc) c.numbers.invariant
