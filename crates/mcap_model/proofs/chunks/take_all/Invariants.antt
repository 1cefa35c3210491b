use Rattle.std.proofs.Common.{List, length}
use Rattle.mcap_model.specs.Tops.{Top}
use Rattle.mcap_model.specs.Declarations.{TablesOf}
use Rattle.mcap_model.specs.Walk.{walk_rest}
use Rattle.mcap_model.proofs.Inside.{Walked}
use Rattle.mcap_model.proofs.chunks.take_all.Given as goal

abbrev pub decreases-records : goal.decreases-records
decreases-records l = length (walk_rest l.walk)

abbrev pub invariant-records : goal.invariant-records
invariant-records l = (before : List Top) → TablesOf before l.fn.tables → (inner : List Top) × Walked before l.records (walk_rest l.walk) l.tables l.times inner
