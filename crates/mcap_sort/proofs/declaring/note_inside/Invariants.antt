use Rattle.std.proofs.Common.{◌≡◌, ◌++◌, List, length}
use Rattle.mcap_model.specs.Tops.{Top, records_in}
use Rattle.mcap_model.specs.Walk.{walk_rest}
use Rattle.mcap_sort.specs.Declaring.{NotesAll}
use Rattle.mcap_sort.proofs.declaring.note_inside.Given as goal

abbrev pub decreases-records : goal.decreases-records
decreases-records l = length (walk_rest l.walk)

-- those in front of the walk were noted
abbrev pub invariant-records : goal.invariant-records
invariant-records l = (done : List Top) × (records_in l.records ≡ done ++ records_in (walk_rest l.walk)) × NotesAll l.fn.tables l.tables done
