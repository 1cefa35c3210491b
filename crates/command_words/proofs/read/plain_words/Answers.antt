-- Each word is a text.
use Rattle.std.proofs.Common.{◌<◌, ◌+◌, add-one, arith, get_or, length, subst, take}
use Rattle.std.specs.List.{All}
use Rattle.std.specs.Str.{IsUtf8}
use Rattle.std.proofs.Math.Seq.{take-suc}
use Rattle.std.proofs.lemmas.Grind.{common_steps}
use Rattle.std.proofs.lemmas.List.{take_all}
use Rattle.std.proofs.lemmas.List.Elements.{All-push}
use Rattle.command_words.proofs.read.plain_words.Goals as goal

pub loop-word-preserved : goal.loop-word-preserved
loop-word-preserved c =
    let i = c.loop-word.word-index in
    let words = c.args.words.now in
    let less : i < length words = omega arith in
    let this : IsUtf8 (get_or words i c.word-item.result) = subst IsUtf8 c.word-item.is c.as_str.ensures.utf8 in
    let more : All IsUtf8 (take (i + 1) words) = rw (add-one, take-suc words i c.word-item.result less) (All-push IsUtf8 (take i words) (get_or words i c.word-item.result) c.loop-word.invariant.utf8 this) in
    record {
      same = grind (arith, common_steps);
      utf8 = more;
    }

pub returns-clause-utf8 : goal.returns-clause-utf8
returns-clause-utf8 c = subst (All IsUtf8) (take_all c.loop-word.word-index c.args.words.now (omega arith)) c.loop-word.invariant.utf8
