use Rattle.std.proofs.Common.{sym, subst, ◌∙◌, arith}
use Rattle.std.proofs.lemmas.Bool.{both_ways}
use Rattle.mcap_model.specs.Fields.{IsHeader}
use Rattle.mcap_model.specs.Made.{top}
use Rattle.summary_read.proofs.FileFront.{declared_of, header_stands, header_fails}
use Rattle.summary_read.proofs.loading.read_header.Goals as goal

pub returns-in-Err-take_part-clause-asks : goal.returns-in-Err-take_part-clause-asks
returns-in-Err-take_part-clause-asks g c = λ file told size some.
    let head = c.in-Ok.ensures.judged file told size some in
    omega (arith, declared_of file c.in-Ok.declared head, c.in-Ok.ensures.takes.asked, c.in-Err-take_part.ensures.takes.asked)

pub returns-then-is_header-clause-judged : goal.returns-then-is_header-clause-judged
returns-then-is_header-clause-judged g c = λ file told size some.
    let head = c.in-Ok.ensures.judged file told size some in
    header_stands file c.in-Ok-take_part.content.items c.in-Ok.declared head (c.in-Ok-take_part.ensures.given.1 file (c.in-Ok.ensures.takes.bytes ∙ told))

pub returns-then-is_header-clause-asks : goal.returns-then-is_header-clause-asks
returns-then-is_header-clause-asks g c = λ file told size some.
    let head = c.in-Ok.ensures.judged file told size some in
    omega (arith, declared_of file c.in-Ok.declared head, c.in-Ok.ensures.takes.asked, c.in-Ok-take_part.ensures.takes.asked)

pub returns-clause-judged : goal.returns-clause-judged
returns-clause-judged g c = λ file told size some.
    let head = c.in-Ok.ensures.judged file told size some in (
      header_fails file c.in-Ok-take_part.content.items c.in-Ok.declared head (c.in-Ok-take_part.ensures.given.1 file (c.in-Ok.ensures.takes.bytes ∙ told)) (omega (arith, size, c.ranges.len.fits)) (
          λ is. both_ways c.is_header.result c.if-is_header.false (c.is_header.ensures.1 (subst (λ l. IsHeader (top 1 l)) (sym c.deref.ensures.value) is))
          ),
      some,
    )

pub returns-clause-asks : goal.returns-clause-asks
returns-clause-asks g c = λ file told size some.
    let head = c.in-Ok.ensures.judged file told size some in
    omega (arith, declared_of file c.in-Ok.declared head, c.in-Ok.ensures.takes.asked, c.in-Ok-take_part.ensures.takes.asked)
