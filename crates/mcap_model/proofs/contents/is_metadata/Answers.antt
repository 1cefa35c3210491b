use Rattle.mcap_model.proofs.Bits.{false_not}
use Rattle.mcap_model.proofs.contents.is_metadata.Goals as goal

pub returns-in-Err : goal.returns-in-Err
returns-in-Err c = (λ f. absurd (false_not f), λ is. absurd (c.in-Err.ensures.none (record { name = is.0; metadata = is.1 }) is.2.layout))
