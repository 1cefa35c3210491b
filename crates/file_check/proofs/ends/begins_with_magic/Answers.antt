use Rattle.std.proofs.Common.{ℕ, ◌∙◌, refl, false, take, sym, ap, subst}
use Rattle.std.proofs.lemmas.Bool.{both_ways}
use Rattle.mcap_model.specs.Rules.{V1}
use Rattle.file_check.proofs.Parts.{begins_whole, whole_begins, too_brief}
use Rattle.file_check.proofs.ends.begins_with_magic.Goals as goal

pub returns-in-Ok-clause-tells : goal.returns-in-Ok-clause-tells
returns-in-Ok-clause-tells g c = λ file told size.
    let first = c.in-Ok.ensures.gives file told ∙ ap (λ (n : ℕ). take n file) c.read_at.auto.out in
    let is = c.are_begun.ensures in
    (λ yes. begins_whole file (subst V1 first (is.0 yes)), λ begins. is.1 (subst V1 (sym first) (whole_begins file begins)))

pub returns-then-len-lt8-clause-tells : goal.returns-then-len-lt8-clause-tells
returns-then-len-lt8-clause-tells g c = λ file told size. (λ yes. absurd (both_ways false refl yes), λ begins. absurd (too_brief file c.args.len size c.if-len-lt8.true begins))
