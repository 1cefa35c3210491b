-- What a sink takes of the line of sums.
use Rattle.std.proofs.Common.{◌≡◌, ℕ, List, [], ◌∷◌, Result, Ok, Err, subst, inl, inr, arith}
use Rattle.mcap_io.specs.Outside.{SinkState}
use Rattle.mcap_io.specs.OutsideCalls.{WritesAll}
use Rattle.mcap_io.specs.declared.outside.Short.{Short}
use Rattle.command_base.specs.Printing.{Tells, Takes}
use Rattle.command_generate.specs.declared.sums.Sums.{Sums}
use Rattle.command_generate.specs.Lines.{number_text, sums_line}

cons_some : (x : ℕ) (xs : List ℕ) → x ∷ xs ≡ [] → ⊥
cons_some x xs e = absurd cc

-- it isn't empty
line_is_said : (feeds : ℕ) (sums : Sums) → sums_line feeds sums ≡ [] → ⊥
unfolding sums_line number_text
line_is_said feeds sums e = cons_some _ _ e

-- what a sink took of a line in one go
wrote : (before now : SinkState) (line : List ℕ) (result : Result Unit Short) → WritesAll before now line result → Tells before now line
wrote before now line (Ok it) all = inl (record { still = all.0; adds = all.1 })
wrote before now line (Err short) part = inr (record { rises = part.0; adds = λ start is. let took = part.2 start is in (took.0, omega arith, took.2, took.3) })

-- what was printed of a file that was read
pub takes_line : (before now : SinkState) (feeds : ℕ) (line : List ℕ) (result : Result Unit Short) (sums : Sums) → line ≡ sums_line feeds sums → WritesAll before now line result → Takes before now (sums_line feeds sums)
takes_line before now feeds line result sums line_is written =
    record { tells = subst (λ (l : List ℕ). Tells before now l) line_is (wrote before now line result written); silent = λ none. absurd (line_is_said feeds sums none) }
