-- An insert changes the look-up at its own key alone.
use Rattle.std.proofs.Common.{arith}
use Rattle.std.proofs.lemmas.Map.Text.{text_keys}
use Rattle.io_memory.proofs.memory_world.place.Goals as goal

pub returns-clause-others : goal.returns-clause-others
returns-clause-others c = λ other differs. grind (arith, text_keys)
