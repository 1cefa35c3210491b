-- The copies so far are of the words so far.
use Rattle.std.proofs.Common.{◌≡◌, take}
use Rattle.command_words.specs.Items.{texts}
use Rattle.command_words.proofs.parse.copies_of.Given as goal

abbrev pub invariant-loop-word : goal.invariant-loop-word
invariant-loop-word l = l.copies.items ≡ texts (take l.word-index l.words)
