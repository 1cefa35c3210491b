-- How many messages each channel has.
use Rattle.std.specs.Prelude.{ℕ, List, [], ◌∷◌, Option, Some, None, ◌==◌, if◌then◌else◌}

-- the count that stands under an id: 0, where none does
abbrev pub count_under : List (ℕ × ℕ) → ℕ → ℕ
count_under [] id = 0
count_under (c ∷ cs) id = if c.0 == id then c.1 else count_under cs id

-- what a map of counts tells of a channel: nothing, where it is empty
abbrev pub told_count : List (ℕ × ℕ) → ℕ → Option ℕ
told_count [] id = None
told_count (c ∷ cs) id = Some (count_under (c ∷ cs) id)
