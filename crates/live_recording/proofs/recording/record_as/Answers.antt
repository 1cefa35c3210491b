use Rattle.live_recording.proofs.Watchers.{zip_same}
use Rattle.live_recording.proofs.recording.record_as.Goals as goal

-- nothing was read
pub returns-in-Err-clause-stays : goal.returns-in-Err-clause-stays
returns-in-Err-clause-stays g c = rw c.unread.ensures.same.0 (zip_same g.S.Source.stays g.S.Source.stays_so _)
