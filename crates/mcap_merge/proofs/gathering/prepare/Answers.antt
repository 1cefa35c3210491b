use Rattle.mcap_merge.specs.ReadInputs.{read_tops}
use Rattle.mcap_merge.proofs.MergeThere.{prepared}
use Rattle.mcap_merge.proofs.gathering.prepare.Goals as goal

pub returns-in-Ok-common_profile-clause-prepared : goal.returns-in-Ok-common_profile-clause-prepared
returns-in-Ok-common_profile-clause-prepared c = λ reads hold.
    let suffice = c.in-Ok.ensures.suffice in
    let common = c.in-Ok-common_profile.ensures in
    prepared reads c.args.inputs.now c.in-Ok-common_profile.profile hold (suffice reads hold) (common reads hold)

pub returns-in-Err-clause-refused : goal.returns-in-Err-clause-refused
returns-in-Err-clause-refused c = λ reads hold.
    let answer = c.id_refusal.ensures in
    let why = c.in-Err.ensures.refused in
    answer (read_tops reads) (why reads hold)
