-- The names are enough, and not too many.
use Rattle.std.proofs.Common.{◌≤◌, length, rules}
use Rattle.command_words.proofs.CommandLemmas.{feeds_are, feeds_fit}
use Rattle.command_words.proofs.parse.are_feeds.Goals as goal

pub returns : goal.returns
returns c =
    let some : 1 ≤ length c.args.feeds.now = search rules in
    let few : length c.args.feeds.now ≤ 64 = search rules in
    (λ named. feeds_are c.args.out.now c.args.feeds.now some few (c.are_named.ensures.0 named), λ are. c.are_named.ensures.1 (feeds_fit c.args.out.now c.args.feeds.now are).2)
