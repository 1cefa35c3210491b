-- The feeds are those that were found.
use Rattle.std.proofs.Common.{subst, sym}
use Rattle.std.proofs.lemmas.List.Elements.{All-map}
use Rattle.command_words.specs.Commands.{IsUnwatched}
use Rattle.command_words.specs.Matches.{AreUnwatched}
use Rattle.command_words.proofs.CommandLemmas.{texts_each}
use Rattle.command_words.proofs.watches.feeds_are_unwatched.Goals as goal

pub returns-in-Some : goal.returns-in-Some
returns-in-Some c = (
  λ is. subst (AreUnwatched c.args.out.now c.args.watchers) c.in-Some.ensures
      (All-map (IsUnwatched c.args.out.now c.args.watchers) (λ word. word.now) c.in-Some.feeds.now (c.are_unwatched.ensures.0 is)),
  λ are. c.are_unwatched.ensures.1 (texts_each (IsUnwatched c.args.out.now c.args.watchers) c.in-Some.feeds.now (subst (AreUnwatched c.args.out.now c.args.watchers) (sym c.in-Some.ensures) are)),
)
