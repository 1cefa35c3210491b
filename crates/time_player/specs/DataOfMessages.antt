-- How many bytes of data messages have.
use Rattle.std.specs.Prelude.{ℕ, List, length, sum_by}
use Rattle.mcap_model.specs.declared.replay.Shown.{Shown}

-- how many bytes of data messages have together
abbrev pub data_in : List Shown → ℕ
data_in shown = sum_by (λ s. length s.payload) shown
