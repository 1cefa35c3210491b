-- What a reader knows of its enterings.
use Rattle.std.specs.Prelude.{suc, List, []}
use Rattle.live_directory.specs.declared.front.Added.{Added}
use Rattle.live_directory.specs.declared.visit.Visits.{Visits}

abbrev pub no_visits : {X : Type 0} → Visits X
no_visits = record { entered = 0; found = [] }

-- one entering more, which found this
abbrev pub one_visit : {X : Type 0} → Visits X → List (Added X) → Visits X
one_visit v found = record { entered = suc v.entered; found = found }
