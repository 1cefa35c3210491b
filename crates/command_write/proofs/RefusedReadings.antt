-- What is told of an input whose reading was refused, of one and of all.
use Rattle.std.proofs.Common.{◌≡◌, ℕ, Bool, false, List, [], ◌∷◌, Option, Some, None, refl, ap}
use Rattle.command_base.specs.Texts.{Trouble}
use Rattle.command_base.specs.OneFile as one
use Rattle.command_base.specs.Endings.{halts_at}
use Rattle.command_write.specs.Merge.{ending_at}

pub halted_some : (n : ℕ) (trouble : Trouble) (ending : one.Ending) → trouble ∷ [] ≡ one.troubles_in ending → halts_at n trouble ≡ (ending_at n ending).halts
halted_some n trouble (one.was_read text) is = absurd cc
halted_some n trouble (one.halted other) is = let same : trouble ≡ other = cc in ap (halts_at n) same
halted_some n trouble one.failing is = absurd cc
halted_some n trouble one.lacked is = absurd cc

pub halted_none : (n : ℕ) (ending : one.Ending) → [] ≡ one.troubles_in ending → [] ≡ (ending_at n ending).halts
halted_none n (one.was_read text) is = refl
halted_none n (one.halted trouble) is = absurd cc
halted_none n one.failing is = refl
halted_none n one.lacked is = refl

-- it takes the output past no limit
pub halted_unlimited : (n : ℕ) (ending : one.Ending) → (ending_at n ending).passes_limit ≡ false
halted_unlimited n (one.was_read text) = refl
halted_unlimited n (one.halted trouble) = refl
halted_unlimited n one.failing = refl
halted_unlimited n one.lacked = refl

-- memory lacks for all where it does for the one
pub halted_lack : (n : ℕ) (ending : one.Ending) → one.is_lack ending ≡ (ending_at n ending).lacks_memory
halted_lack n (one.was_read text) = refl
halted_lack n (one.halted trouble) = refl
halted_lack n one.failing = refl
halted_lack n one.lacked = refl
