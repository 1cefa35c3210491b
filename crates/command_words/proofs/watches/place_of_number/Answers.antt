-- The number stands behind `.watch`.
use Rattle.command_words.proofs.WatchLemmas.{behind_both}
use Rattle.command_words.proofs.watches.place_of_number.Goals as goal

pub returns-in-Some : goal.returns-in-Some
returns-in-Some c = behind_both c.args.out.now c.args.name.now c.in-Some.rest.now c.behind-in-Some.result c.in-Some.ensures c.behind-in-Some.ensures
