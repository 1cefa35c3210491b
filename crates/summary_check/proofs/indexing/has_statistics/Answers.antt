use Rattle.std.proofs.Common.{false, refl}
use Rattle.std.proofs.lemmas.Bool.{both_ways}
use Rattle.summary_check.proofs.FullyIndexing.{some_statistics, no_statistics}
use Rattle.summary_check.proofs.indexing.has_statistics.Goals as goal

pub returns-in-Some : goal.returns-in-Some
returns-in-Some c = λ bytes. ((λ e. some_statistics bytes c.args.cuts.now c.in-Some.field-0.0 c.in-Some.field-0.1 c.in-Some.ensures), λ has. refl)

pub returns-in-None : goal.returns-in-None
returns-in-None c = λ bytes. ((λ e. absurd (both_ways false refl e)), λ has. absurd (no_statistics bytes c.args.cuts.now c.in-None.ensures has))
