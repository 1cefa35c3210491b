-- The chunk stays open, or it doesn't.
use Rattle.std.proofs.Common.{arith, inl, sym, ◌∙◌}
use Rattle.std.proofs.lemmas.List.{length-drop}
use Rattle.chunk_build.proofs.Marks.{not_so}
use Rattle.chunk_build.proofs.building.stays_open.Goals as goal
use Rattle.chunk_build.proofs.building.stays_open.Goals.{else-held-size-via-then-held-size+else-len-size, else-held-size-via-else-held-size}

pub returns-then-len-size-clause-open : goal.returns-then-len-size-clause-open
returns-then-len-size-clause-open c = λ is. record {
  short = omega (arith, length-drop 49 c.args.chunk.now.bytes.items, c.len-2.ensures, c.if-held-size.true, c.if-len-size.true, c.if-len-lt-HEAD.false);
  near = sym c.reaches_span.ensures ∙ not_so c.reaches_span.result is;
}

pub returns-clause-over : goal.returns-clause-over
returns-clause-over c = λ is begun. inl (elim c.else-held-size.branch [
  | else-held-size-via-then-held-size+else-len-size w ↦ omega (arith, begun, length-drop 49 c.args.chunk.now.bytes.items, c.len-2.ensures, w.if-held-size.true, w.if-len-size.false)
  | else-held-size-via-else-held-size w ↦ omega (arith, begun, length-drop 49 c.args.chunk.now.bytes.items, c.len-2.ensures, w.if-held-size.false)
])
