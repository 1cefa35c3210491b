use Rattle.mcap_model.proofs.Bits.{false_not}
use Rattle.mcap_model.proofs.contents.is_header.Goals as goal

pub returns-in-Err : goal.returns-in-Err
returns-in-Err c = (λ f. absurd (false_not f), λ is. absurd (c.in-Err.ensures.none (record { profile = is.profile; library = is.library }) is.layout))
