use Rattle.std.proofs.Common.{◌∷◌, [], sym, ◌∙◌}
use Rattle.std.proofs.lemmas.Result.{on_ok_weaker}
use Rattle.chunk_writer.specs.Scribes.{blocks_through}
use Rattle.chunk_writer.proofs.Taking.{stopped_on}
use Rattle.chunk_writer.proofs.scribe.Scribe.put_bytes.Goals as goal

pub returns-in-Stopped-clause-stands : goal.returns-in-Stopped-clause-stands
returns-in-Stopped-clause-stands g c = λ r framed options extras opened history (stands, waits, through).
    (stopped_on options opened.held _ history (r ∷ []) c.args.self.now.plan c.in-Stopped.stop (sym c.phase.ensures ∙ c.in-Stopped.is) stands, waits, through)

pub returns-clause-through : goal.returns-clause-through
returns-clause-through g c =
    let (r, framed) = c.requires.framed in
    on_ok_weaker c.put_framed.result (blocks_through g.L.LiveStore.state c.args.self.now c.put_framed.new.self (r ∷ []) (c.put_framed.ensures.grows r framed)) c.put_framed.ensures.goes_on
