use Rattle.std.proofs.Common.{sym, ◌∙◌, arith}
use Rattle.chunk_writer.proofs.Writing.{fills_none, ends_so, stopped_ends, last_begun, back_begun}
use Rattle.chunk_writer.proofs.scribe.Scribe.finish.Goals as goal

pub returns-in-Stopped-clause-ends : goal.returns-in-Stopped-clause-ends
returns-in-Stopped-clause-ends g c = λ options extras opened history (stands, waits, through).
    let stopped = stopped_ends options extras opened.held _ history c.args.self.now.plan c.in-Stopped.stop (sym c.phase.ensures ∙ c.in-Stopped.is) stands in (
      ends_so options extras opened.held _ history _ _ _ _ _ _ c.finished.ensures.is.1 c.finished.ensures.is.2 c.finished.ensures.is.3 stopped.stops,
      omega (arith, c.finished.ensures.is.3, stopped.begun),
      rw c.finished.ensures.is.1 tt,
    )

pub returns-in-Ok-append_extras-clause-ends : goal.returns-in-Ok-append_extras-clause-ends
returns-in-Ok-append_extras-clause-ends g c = λ options extras opened history (stands, waits, through).
    let (is, each) = waits (sym c.phase.ensures ∙ c.in-Going.is) in
    let last = fills_none options opened.held _ history c.append_last.new.self.plan (c.in-Ok.ensures.last options extras opened history (stands, waits, through)) in
    let fills = c.in-Ok-append_extras.ensures.fills options extras opened history (c.in-Ok.ensures.waiting ∙ is) last in
    let ends = c.append_back-end.ensures.ends options extras opened history fills in (
      ends_so options extras opened.held _ history _ _ _ _ _ _ c.finished-in-Ok-append_extras.ensures.is.1 c.finished-in-Ok-append_extras.ensures.is.2 c.finished-in-Ok-append_extras.ensures.is.3 ends,
      omega (arith, c.finished-in-Ok-append_extras.ensures.is.3, back_begun options extras opened.held _ _ history c.append_extras.new.self.plan _ _ c.append_back-end.result fills ends c.append_back-end.ensures.uncounted),
      rw c.finished-in-Ok-append_extras.ensures.is.1 c.append_back-end.ensures.through,
    )

pub returns-in-Err-append_extras-clause-ends : goal.returns-in-Err-append_extras-clause-ends
returns-in-Err-append_extras-clause-ends g c = λ options extras opened history (stands, waits, through).
    let (is, each) = waits (sym c.phase.ensures ∙ c.in-Going.is) in
    let last = fills_none options opened.held _ history c.append_last.new.self.plan (c.in-Ok.ensures.last options extras opened history (stands, waits, through)) in
    let stopped = c.in-Err-append_extras.ensures.refused options extras opened history (c.in-Ok.ensures.waiting ∙ is) last in (
      ends_so options extras opened.held _ history _ _ _ _ _ _ c.finished-in-Err-append_extras.ensures.is.1 c.finished-in-Err-append_extras.ensures.is.2 c.finished-in-Err-append_extras.ensures.is.3 stopped.stops,
      omega (arith, c.finished-in-Err-append_extras.ensures.is.3, stopped.begun),
      rw c.finished-in-Err-append_extras.ensures.is.1 tt,
    )

pub returns-in-Err-clause-ends : goal.returns-in-Err-clause-ends
returns-in-Err-clause-ends g c = λ options extras opened history (stands, waits, through).
    let begun = last_begun options opened.held _ history c.args.self.now.plan (sym c.phase.ensures ∙ c.in-Going.is) stands in (
      ends_so options extras opened.held _ history _ _ _ _ _ _ c.finished-in-Err.ensures.is.1 c.finished-in-Err.ensures.is.2 c.finished-in-Err.ensures.is.3 (c.in-Err.ensures.refused options extras opened history (stands, waits, through)),
      omega (arith, c.finished-in-Err.ensures.is.3, c.in-Err.ensures.stopped.bytes_are, begun),
      rw c.finished-in-Err.ensures.is.1 tt,
    )
