-- The names and the size are those that were found.
use Rattle.command_words.proofs.rewriting.rewriting_of.Goals as goal

pub returns-in_default-clause-bad : goal.returns-in_default-clause-bad
returns-in_default-clause-bad c = λ why input out chunk finds. c.in_default.ensures input finds.in_named finds.input_is

pub returns-in-Err-clause-bad : goal.returns-in-Err-clause-bad
returns-in-Err-clause-bad c = λ why input out chunk finds. c.in-Err.ensures.bad finds.size finds.sized
