-- On a fully indexed file no rule fails at the ends or in the summary.
use Rattle.std.proofs.Common.{ℕ, ◌^◌, ◌<◌, List, length}
use Rattle.mcap_model.specs.Tops.{Top}
use Rattle.mcap_model.specs.Valid.{FullyIndexed}
use Rattle.mcap_model.proofs.Flaws.{flaws_exclude_validity}
use Rattle.mcap_model.specs.declared.rules.Rule.{Rule}
use Rattle.mcap_laws.proofs.Leading.{ends_of}
use Rattle.summary_read.specs.Reached.{HasNoSummary, FailsLoading}
use Rattle.indexed_replay.proofs.Telling as telling

module _ (file : List ℕ) (tops : List Top) (full : FullyIndexed file tops) where
  pub some_summary : HasNoSummary file → ⊥
  some_summary = let valid = full.valid in telling.some_summary file tops valid.v4 (ends_of file tops full)

  pub none_fails : length file < 2 ^ 64 → (rule : Rule) (offset : ℕ) → FailsLoading file rule offset → ⊥
  none_fails few rule offset fails = let valid = full.valid in flaws_exclude_validity file rule offset (telling.tells file tops valid.v4 (ends_of file tops full) few rule offset fails) (tops, valid)
