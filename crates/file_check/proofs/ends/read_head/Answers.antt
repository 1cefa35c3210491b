use Rattle.std.proofs.lemmas.Grind.{common_steps}
use Rattle.std.proofs.Common.{ℕ, ◌∙◌, take, drop, ap, arith}
use Rattle.file_check.proofs.Parts.{head_there}
use Rattle.file_check.proofs.ends.read_head.Goals as goal

pub returns-in-Ok-clause-stands : goal.returns-in-Ok-clause-stands
returns-in-Ok-clause-stands g c = λ file told room within. (
  c.length_in-len.result,
  c.length_in-len.ensures.small,
  head_there file c.read_at.new.out c.args.offset c.args.end c.length_in-len.result
      (c.in-Ok.ensures.gives file told ∙ ap (λ (n : ℕ). take n (drop c.args.offset file)) c.read_at.auto.out) room c.length_in-len.ensures.stands,
)

pub returns-then-offset-end-clause-stands : goal.returns-then-offset-end-clause-stands
returns-then-offset-end-clause-stands g c = grind (arith, common_steps)
