-- What the parser finds is what the words say, and what it refuses fits no command.
use Rattle.command_words.specs.Items.{texts}
use Rattle.std.proofs.Common.{◌∙◌}
use Rattle.command_words.proofs.MatchLemmas.{found_is, refused_is}
use Rattle.command_words.proofs.read.read_words.Goals as goal

pub returns-in-Ok-try_get_matches_from-clause-read : goal.returns-in-Ok-try_get_matches_from-clause-read
returns-in-Ok-try_get_matches_from-clause-read c =
    let words = texts c.args.words.now in
    found_is c.in-Ok.program words c.in-Ok-try_get_matches_from.found c.in-Ok.ensures c.requires c.in-Ok-try_get_matches_from.ensures.kinds c.in-Ok-try_get_matches_from.ensures.matches

pub returns-in_default-kind : goal.returns-in_default-kind
returns-in_default-kind c = record {
  read = tt;
  bad = λ why. refused_is c.in-Ok.program (texts c.args.words.now) c.in-Err.error c.in-Ok.ensures (λ is. c.in_default-kind.not-OutOfMemory (c.kind.ensures ∙ is)) c.in-Err.ensures.kinds;
}
