use Rattle.std.proofs.lemmas.Bool.{false≢true}
use Rattle.mcap_model.specs.declared.rules.Rule.TheVariants as rules
use Rattle.summary_read.specs.Reached.{at_ends, first_magic}
use Rattle.summary_read.proofs.loading.refuse_end.Goals as goal

pub returns-in-Ok-false-clause-judged : goal.returns-in-Ok-false-clause-judged
returns-in-Ok-false-clause-judged g c = λ file told size refused.
    let is = rw c.in-Ok-false.field-0-test at c.in-Ok-false.ensures.told file told size in
    (at_ends rules.V1 0 (first_magic (λ v1. false≢true (is.1 v1))), refused.1)
