-- What was published.
use Rattle.std.specs.Prelude.{List, [], ◌∷◌, ◌++◌, Option, Some, None}
use Rattle.live_entry.specs.declared.entry.Entry.{Entry}
use Rattle.mcap_model.specs.declared.ends.End.{End}
use Rattle.live_directory.specs.declared.front.Added.{Added}

-- all entries, in their order
abbrev pub entries_of : {X : Type 0} → List (Added X) → List (Entry X)
entries_of [] = []
entries_of (a ∷ more) = a.entries ++ entries_of more

-- the first end
abbrev pub end_or : Option End → Option End → Option End
end_or None later = later
end_or (Some end) later = Some end

abbrev pub end_of : {X : Type 0} → List (Added X) → Option End
end_of [] = None
end_of (a ∷ more) = end_or a.end (end_of more)

-- one element or none
abbrev pub at_most_one : {A : Type 0} → Option A → List A
at_most_one None = []
at_most_one (Some x) = x ∷ []
