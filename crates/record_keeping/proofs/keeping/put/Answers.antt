-- What is put is no extra, whichever record is read of its bytes.
use Rattle.std.proofs.Common.{sym, ap, ◌∙◌}
use Rattle.std.proofs.lemmas.Bool.{false≢true}
use Rattle.rec_data.proofs.OwnedReading.{framed_decided}
use Rattle.mcap_model.specs.History.{is_inner}
use Rattle.record_keeping.proofs.keeping.put.Goals as goal

pub put_bytes-requires-clause-framed : goal.put_bytes-requires-clause-framed
put_bytes-requires-clause-framed g c = let (r, is) = c.requires.framed in (r, is.framed)

pub put_bytes-requires-clause-extra : goal.put_bytes-requires-clause-extra
put_bytes-requires-clause-extra g c = λ other framed aside.
    let (r, is) = c.requires.framed in
    let same = framed_decided c.args.framed.now other r (_, _, framed.spelled, framed.shown) (_, _, is.framed.spelled, is.framed.shown) in
    absurd (false≢true (sym aside ∙ ap is_inner same ∙ is.inner))
