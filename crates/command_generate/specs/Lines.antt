-- The line that a generation prints.
use Rattle.std.specs.Prelude.{ℕ, List, ◌++◌, codes, decimal}
use Rattle.command_generate.specs.declared.sums.Sums.{Sums}

-- a number behind its name
unfoldable pub number_text : List ℕ → ℕ → List ℕ
number_text name n = name ++ decimal n

-- gen feeds=F messages=M data=B sum=S
unfoldable pub sums_line : ℕ → Sums → List ℕ
sums_line feeds sums = number_text (codes "gen feeds=") feeds
    ++ (number_text (codes " messages=") sums.messages
    ++ (number_text (codes " data=") sums.bytes ++ (number_text (codes " sum=") sums.total ++ codes "\n")))
