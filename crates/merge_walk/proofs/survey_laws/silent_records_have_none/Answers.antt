use Rattle.merge_walk.proofs.Telling.{silent_records_have_none}
use Rattle.merge_walk.proofs.survey_laws.silent_records_have_none.Goals as goal

pub returns : goal.returns
returns c = silent_records_have_none
