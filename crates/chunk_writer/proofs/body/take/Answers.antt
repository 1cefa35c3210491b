-- A record is noted, and put into the open chunk.
use Rattle.chunk_writer.proofs.Noting.{took}
use Rattle.chunk_writer.proofs.body.take.Goals as goal

pub returns-in-Ok-put_framed-clause-ok : goal.returns-in-Ok-put_framed-clause-ok
returns-in-Ok-put_framed-clause-ok c = λ r framed size span at history is.
    took size span at history r c.args.body.now c.put_framed.new.self c.note_framed.new.self _ (c.in-Ok.ensures.ok r framed) (c.in-Ok-put_framed.ensures.put r framed) framed.inner is
