use Rattle.std.proofs.Common.{◌<◌, ℕ, List, length, sym, subst, ◌∙◌}
use Rattle.chunk_writer.specs.Waiting.{AreExtra}
use Rattle.chunk_writer.proofs.extras.Extras.get.Goals as goal

pub returns-clause-extra : goal.returns-clause-extra
returns-clause-extra c = subst AreExtra (sym (c.as_slice.ensures ∙ c.index.ensures)) (c.self.invariant c.args.place c.index.result.now (subst (λ (l : List (List ℕ)). c.args.place < length l) (sym c.self.view_is) c.requires))
