-- The merge is the one whose names and size were found.
use Rattle.std.proofs.Common.{refl}
use Rattle.command_words.specs.Matches.{rows_found}
use Rattle.command_words.proofs.CommandLemmas.{merge_fed, merge_is, merge_names, merge_size}
use Rattle.command_words.proofs.parse.merge_of.Goals as goal

pub returns-in_default-clause-bad : goal.returns-in_default-clause-bad
returns-in_default-clause-bad c = λ words reading why merge is.
    c.in_default.ensures merge.out is.out_named (merge_names words (rows_found c.args.found.now) reading merge is).0

pub returns-in-Err-clause-bad : goal.returns-in-Err-clause-bad
returns-in-Err-clause-bad c = λ words reading why merge is.
    c.in-Err.ensures.bad is.size (merge_size words (rows_found c.args.found.now) reading merge is)

pub returns-in-Err-feeds_of-clause-bad : goal.returns-in-Err-feeds_of-clause-bad
returns-in-Err-feeds_of-clause-bad c = λ words reading why merge is.
    c.in-Err-feeds_of.ensures.bad why (merge_fed words (rows_found c.args.found.now) reading merge is c.in-Some.out.now c.in-Some.ensures.1)

pub returns-in-Ok-copy_of-clause-command : goal.returns-in-Ok-copy_of-clause-command
returns-in-Ok-copy_of-clause-command c = λ words reading.
    let (found, fed) = c.in-Ok-feeds_of.ensures.feeds in
    let is = merge_is words (rows_found c.args.found.now) reading c.in-Some.out.now c.in-Ok-feeds_of.inputs c.in-Ok.chunk c.in-Some.ensures.1 found c.in-Some.ensures.0 fed c.in-Ok.ensures.number in
    (rw (c.in-Ok-copy_of.ensures.copy, c.unwrap_or-chunk.ensures) is, refl)
