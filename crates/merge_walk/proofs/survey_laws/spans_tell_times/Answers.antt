use Rattle.merge_walk.proofs.Telling.{spans_tell_times}
use Rattle.merge_walk.proofs.survey_laws.spans_tell_times.Goals as goal

pub returns : goal.returns
returns c = spans_tell_times
