-- The words so far are texts.
use Rattle.std.proofs.Common.{◌≡◌, take}
use Rattle.std.specs.List.{All}
use Rattle.std.specs.Str.{IsUtf8}
use Rattle.command_words.specs.Items.{texts}
use Rattle.command_words.proofs.read.plain_words.Given as goal

abbrev pub invariant-loop-word : goal.invariant-loop-word
invariant-loop-word l = record {
  same : texts l.plain.items ≡ take l.word-index l.words;
  utf8 : All IsUtf8 (take l.word-index l.words);
}
