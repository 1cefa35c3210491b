-- The endings of a command: which troubles halt its inputs, and the status of one that halts.
use Rattle.std.proofs.Common.{◌≡◌, ℕ, zero, suc, ◌<◌, ◌≤◌, List, [], ◌∷◌, length, refl, sym, ap, subst, ◌∙◌, arith}
use Rattle.mcap_model.specs.Places.{At, Each}
use Rattle.mcap_model.proofs.Places.{at_none}
use Rattle.command_base.specs.Texts.{Trouble, status_of}
use Rattle.command_base.specs.OneFileSteps.{IsHalt}
use Rattle.command_base.specs.Endings.{WritingEnding, halts_at, halted, all_halts, IsWritingDone}
use Rattle.command_base.specs.OutputSteps.{HaltsByInput}

-- the one trouble of an input that halts
pub joined_at : (n : ℕ) (trouble : Trouble) → all_halts (halts_at n trouble) ≡ trouble ∷ []
joined_at zero trouble = refl
joined_at (suc n) trouble = joined_at n trouble

pub status_halted : (n : ℕ) (trouble : Trouble) → status_of (all_halts (halts_at n trouble)) ≡ status_of (trouble ∷ [])
status_halted n trouble = ap status_of (joined_at n trouble)

halts_long : (n : ℕ) (trouble : Trouble) (names : List (List ℕ)) → n < length names → length (halts_at n trouble) ≤ length names
halts_long zero trouble names within = omega (arith, within)
halts_long (suc n) trouble [] within = absurd (omega (arith, within))
halts_long (suc n) trouble (name ∷ names) within = let more = halts_long n trouble names (omega (arith, within)) in omega (arith, more)

same_first : (a b : Trouble) → At (a ∷ []) 0 b → a ≡ b
same_first a b at = cc

alone : (trouble : Trouble) → IsHalt trouble → Each IsHalt (trouble ∷ [])
alone trouble is zero other at = subst IsHalt (same_first trouble other at) is
alone trouble is (suc n) other at = absurd (at_none n other at)

-- an input halts for such a trouble
pub halts_well : (inputs : List (List ℕ)) (n : ℕ) (trouble : Trouble) → n < length inputs → IsHalt trouble → HaltsByInput inputs (halted n trouble)
halts_well inputs n trouble within is = record {
  few = halts_long n trouble inputs within;
  halt = subst (Each IsHalt) (sym (joined_at n trouble)) (alone trouble is);
}

none : Each IsHalt []
none n other at = absurd (at_none n other at)

-- no input halts
pub none_halts_well : (inputs : List (List ℕ)) (ending : WritingEnding) → ending.halts ≡ [] → HaltsByInput inputs ending
none_halts_well inputs ending is = record {
  few = omega (arith, ap length is);
  halt = subst (λ (l : List (List Trouble)). Each IsHalt (all_halts l)) (sym is) none;
}

some_trouble : (trouble : Trouble) → trouble ∷ [] ≡ [] → ⊥
some_trouble trouble is = absurd cc

-- where an input halts not all was done
pub halted_undone : (n : ℕ) (trouble : Trouble) → IsWritingDone (halted n trouble) → ⊥
halted_undone n trouble done = some_trouble trouble (sym (joined_at n trouble) ∙ done.read)
