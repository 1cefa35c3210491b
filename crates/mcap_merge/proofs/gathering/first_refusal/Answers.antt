use Rattle.std.proofs.Common.{subst}
use Rattle.mcap_merge.specs.ReadInputs.{read_tops}
use Rattle.mcap_merge.specs.Joining.{LackMet}
use Rattle.mcap_merge.proofs.SeenSchemas.{told_lack}
use Rattle.mcap_merge.proofs.gathering.first_refusal.Goals as goal

pub returns-in-TooManySchemas : goal.returns-in-TooManySchemas
returns-in-TooManySchemas c = λ reads hold lack. subst (LackMet (read_tops reads)) c.in-TooManySchemas.is lack

pub returns-in-Ok : goal.returns-in-Ok
returns-in-Ok c = λ reads hold lack. (subst (LackMet (read_tops reads)) c.in-TooManyChannels.is lack, c.in-Ok.ensures.few reads hold)

pub returns-in-Err : goal.returns-in-Err
returns-in-Err c = λ reads hold lack. told_lack (read_tops reads) c.in-Err.refused (c.in-Err.ensures.refused reads hold)
