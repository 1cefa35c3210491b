-- A list whose members are kept, or only counted.
use Rattle.std.specs.Prelude.{ℕ, List, Bool}

-- its members in their order, whether they are kept, and for how many in all there is room
pub record Listed (X : Type 0) : Type 0 where
  pub items : List X
  pub kept : Bool
  pub capacity : ℕ

-- so many members are counted at most
abbrev pub most_counted : ℕ
most_counted = 9223372036854775807
