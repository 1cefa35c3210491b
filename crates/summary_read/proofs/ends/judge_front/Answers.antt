use Rattle.std.proofs.Common.{◌∙◌, arith}
use Rattle.std.proofs.lemmas.Bool.{both_ways}
use Rattle.summary_read.proofs.FileFront.{magic_missing, other_header, declares_past, header_falls_short, has_head_of, head_fails}
use Rattle.summary_read.proofs.ends.judge_front.Goals as goal

pub returns-then-not-begins_with_magic-clause-judged : goal.returns-then-not-begins_with_magic-clause-judged
returns-then-not-begins_with_magic-clause-judged c = λ file size is some.
    (magic_missing file c.args.front.now is (λ v1. both_ways c.begins_with_magic.result c.if-not-begins_with_magic.true (c.begins_with_magic.ensures.1 v1)), some)

pub returns-in-Err-clause-judged : goal.returns-in-Err-clause-judged
returns-in-Err-clause-judged c = λ file size is some.
    (other_header file c.args.front.now is c.requires.size (head_fails c.args.front.now c.in-Err.field-0 c.requires.size c.in-Err.ensures) (c.begins_with_magic.ensures.0 c.if-not-begins_with_magic.false), some)

pub returns-then-head-ne-HEADER-clause-judged : goal.returns-then-head-ne-HEADER-clause-judged
returns-then-head-ne-HEADER-clause-judged c = λ file size is some.
    (other_header file c.args.front.now is c.requires.size (λ kind. c.if-head-ne-HEADER.true (c.in-Ok.ensures.opcode ∙ kind)) (c.begins_with_magic.ensures.0 c.if-not-begins_with_magic.false), some)

pub returns-then-head-gt-CONTENT_LIMIT-clause-judged : goal.returns-then-head-gt-CONTENT_LIMIT-clause-judged
returns-then-head-gt-CONTENT_LIMIT-clause-judged c = λ file size is some. (
  declares_past file c.args.front.now c.in-Ok.head.op c.in-Ok.head.len is c.requires.size (omega (arith, size, c.requires.whole)) c.in-Ok.ensures c.if-head-ne-HEADER.false c.in-Ok.ensures.len_there.fits c.if-head-gt-CONTENT_LIMIT.true,
  some,
)

pub returns-then-head-len-clause-judged : goal.returns-then-head-len-clause-judged
returns-then-head-len-clause-judged c = λ file size is some. (
  header_falls_short file c.args.front.now c.in-Ok.head.op c.in-Ok.head.len is c.requires.size (omega (arith, size, c.requires.whole)) c.in-Ok.ensures c.if-head-ne-HEADER.false c.in-Ok.ensures.len_there.fits (c.begins_with_magic.ensures.0 c.if-not-begins_with_magic.false) (omega (arith, size, c.if-head-len.true)),
  some,
)

pub returns-clause-judged : goal.returns-clause-judged
returns-clause-judged c = λ file size is some.
    has_head_of file c.args.front.now c.in-Ok.head.op c.in-Ok.head.len is c.requires.size c.in-Ok.ensures c.if-head-ne-HEADER.false (c.begins_with_magic.ensures.0 c.if-not-begins_with_magic.false) c.if-head-gt-CONTENT_LIMIT.false (omega (arith, size, c.if-head-len.false))
