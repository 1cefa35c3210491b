use Rattle.std.proofs.Common.{sym, subst}
use Rattle.std.specs.Prelude.{All}
use Rattle.std.proofs.lemmas.List.Elements.{All-push}
use Rattle.chunk_writer.specs.Waiting.{AreExtra}
use Rattle.chunk_writer.proofs.extras.Extras.push.Goals as goal

pub invariant_of-self : goal.invariant_of-self
invariant_of-self c = subst (All AreExtra) (sym c.in-Ok.ensures.items) (All-push AreExtra c.self.inside.framed.items c.args.framed c.self.invariant c.requires)

pub invariant_of-self-in-Err : goal.invariant_of-self-in-Err
invariant_of-self-in-Err c = subst (All AreExtra) (sym c.in-Err.ensures.items) c.self.invariant
