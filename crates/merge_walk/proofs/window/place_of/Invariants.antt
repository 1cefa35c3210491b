use Rattle.std.proofs.Common.{◌<◌, ℕ}
use Rattle.mcap_model.specs.Places.{At}
use Rattle.merge_walk.specs.declared.window.Loaded.{Loaded}
use Rattle.merge_walk.specs.Parts.{IsPartAt}
use Rattle.merge_walk.proofs.window.place_of.Given as goal

abbrev pub invariant-parts : goal.invariant-parts
invariant-parts l = (k : ℕ) (p : Loaded) → k < l.i → At l.loaded k p → IsPartAt l.input l.offset p → ⊥
