-- The log times of messages.
use Rattle.std.specs.Prelude.{◌≡◌, ℕ, ◌≤◌, List, true, false}
use Rattle.mcap_model.specs.Tops.{Top}
use Rattle.mcap_model.specs.Rules.{LogsAt}
use Rattle.mcap_model.specs.declared.times.Times.{Times}

-- these are the least and the greatest log time of messages, or there are none
pub record TimesOf (records : List Top) (times : Times) : Type 0 where
  pub none : times.any ≡ false → (time : ℕ) → LogsAt records time → ⊥
  pub least : times.any ≡ true → LogsAt records times.least
  pub greatest : times.any ≡ true → LogsAt records times.greatest
  pub within : times.any ≡ true → (time : ℕ) → LogsAt records time → (times.least ≤ time) × (time ≤ times.greatest)
