use Rattle.std.proofs.Common.{ℕ, ◌∙◌, ◌-◌, ◌≤◌, take, drop, length, sym, ap, subst}
use Rattle.mcap_model.specs.Whole.{EndsWithMagic}
use Rattle.file_check.proofs.Parts.{ends_whole, whole_ends}
use Rattle.file_check.proofs.ends.ends_with_magic.Goals as goal

pub returns-in-Ok-clause-tells : goal.returns-in-Ok-clause-tells
returns-in-Ok-clause-tells g c = λ file told size.
    let long : 8 ≤ length file = subst (λ (n : ℕ). 8 ≤ n) (sym size) c.requires.long in
    let last = c.in-Ok.ensures.gives file told ∙ ap (λ (n : ℕ). take n (drop (c.args.len - 8) file)) c.read_at.auto.out ∙ ap (λ (n : ℕ). take 8 (drop (n - 8) file)) (sym size) in
    let is = c.are_ended.ensures in
    (λ yes. ends_whole file long (subst EndsWithMagic last (is.0 yes)), λ ends. is.1 (subst EndsWithMagic (sym last) (whole_ends file long ends)))
