use Rattle.std.proofs.Common.{refl, ◌∙◌}
use Rattle.recorder.specs.Writing.{seen_tape}
use Rattle.recorder.proofs.Filing.{listed_so, zip_same, onto_so}
use Rattle.recorder.proofs.recording.record_onto.Goals as goal

-- nothing was read
pub returns-in-Err-clause-stays : goal.returns-in-Err-clause-stays
returns-in-Err-clause-stays g c = rw c.unread.ensures (zip_same g.S.Source.stays g.S.Source.stays_so _)

pub returns-in-Err-make_ready-clause-stays : goal.returns-in-Err-make_ready-clause-stays
returns-in-Err-make_ready-clause-stays g c = rw c.unread-in-Err-make_ready.ensures (zip_same g.S.Source.stays g.S.Source.stays_so _)

pub returns-clause-recorded : goal.returns-clause-recorded
returns-clause-recorded g c = λ r is.
    let members = g.T.Tape in
    let ran = c.run_onto-report in
    let limit = c.in-Ok-make_ready.ensures.limit ∙ c.in-Ok.ensures.turn.1 in
    onto_so (seen_tape members.grows members.ends members.limit_met members.phase members.numbers members.failures) _ _ _ _ _ _ _ _ _ ran.result.report r is limit c.in-Ok-make_ready.ensures.lossless refl ran.ensures.recorded

pub returns-clause-listed : goal.returns-clause-listed
returns-clause-listed g c = λ r is. let ran = c.run_onto-report in listed_so c.args.listed ran.result.report r is ran.ensures.listed
