use Rattle.std.proofs.Common.{false, refl}
use Rattle.std.proofs.lemmas.Bool.{both_ways}
use Rattle.file_check.proofs.Followed.{ends_none}
use Rattle.file_check.proofs.last_chunk.LastChunk.new.Goals as goal

pub returns : goal.returns
returns c = record { kept = λ e. absurd (both_ways false refl e); none = λ e. ends_none }
