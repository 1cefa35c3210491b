-- Which input halts, where at most one does.
use Rattle.std.specs.Prelude.{ℕ, List, [], get_or}

-- the name of the input of that number, from 0
abbrev pub name_at : List (List ℕ) → ℕ → List ℕ
name_at inputs n = get_or inputs n []
