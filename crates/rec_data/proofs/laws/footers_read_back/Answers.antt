use Rattle.rec_data.proofs.Contents.{footer_shown, footer_decided, footer_not_refused}
use Rattle.rec_data.proofs.laws.footers_read_back.Goals as goal

pub returns : goal.returns
returns c = record { shown = footer_shown; decided = footer_decided; refused = footer_not_refused }
