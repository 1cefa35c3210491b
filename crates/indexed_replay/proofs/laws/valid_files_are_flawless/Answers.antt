use Rattle.mcap_model.proofs.Flaws.{flaws_exclude_validity}
use Rattle.indexed_replay.proofs.laws.valid_files_are_flawless.Goals as goal

pub returns : goal.returns
returns c = λ file tops valid. record { ordered = record { whole = valid.v4; footer = valid.v17; order = valid.v11 }; none = λ rule offset flaw. flaws_exclude_validity file rule offset flaw (tops, valid) }
