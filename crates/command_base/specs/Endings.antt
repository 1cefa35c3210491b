-- How a command ended that reads some files and writes one: what is printed and told of it, and the status that it asks for.
use Rattle.std.specs.Prelude.{◌≡◌, ℕ, zero, suc, List, [], ◌∷◌, ◌++◌, map, Bool, true, false, if◌then◌else◌}
use Rattle.command_base.specs.declared.statuses.Status.{Status}
use Rattle.command_base.specs.declared.statuses.Status.TheVariants as statuses
use Rattle.command_base.specs.Texts.{Trouble, output_limit, status_of}
use Rattle.command_base.specs.Ran.{Files, Findings}

-- ---- endings

-- What is printed of it; where each of the inputs halts, in their order; whether the output would pass a limit, and whether memory
-- lacked; and whether it ended since a part of the outside failed.
pub record WritingEnding : Type 0 where
  pub text : List ℕ
  pub halts : List (List Trouble)
  pub passes_limit : Bool
  pub lacks_memory : Bool
  pub fails : Bool

-- the output was written, and this is printed of it
abbrev pub was_written : List ℕ → WritingEnding
was_written text = record { text = text; halts = []; passes_limit = false; lacks_memory = false; fails = false }

-- the troubles of the inputs, in their order, where the one of that number, from 0, has this one
abbrev pub halts_at : ℕ → Trouble → List (List Trouble)
halts_at zero trouble = (trouble ∷ []) ∷ []
halts_at (suc n) trouble = [] ∷ halts_at n trouble

-- the input of that number can't be read, for that trouble
abbrev pub halted : ℕ → Trouble → WritingEnding
halted n trouble =
    record { text = []; halts = halts_at n trouble; passes_limit = false; lacks_memory = false; fails = false }

-- the output would pass a limit
abbrev pub limited : WritingEnding
limited = record { text = []; halts = []; passes_limit = true; lacks_memory = false; fails = false }

-- an opening or an object failed
abbrev pub failing : WritingEnding
failing = record { text = []; halts = []; passes_limit = false; lacks_memory = false; fails = true }

-- memory lacked
abbrev pub lacked : WritingEnding
lacked = record { text = []; halts = []; passes_limit = false; lacks_memory = true; fails = false }

-- ---- what is told

-- the troubles of all inputs, in their order
abbrev pub all_halts : List (List Trouble) → List Trouble
all_halts [] = []
all_halts (halts ∷ more) = halts ++ all_halts more

-- of each output, where it would pass a limit
abbrev pub limits_of : Bool → List (List ℕ) → List Trouble
limits_of passes outputs = if passes then map output_limit outputs else []

-- what there is to tell of an ending besides faults
abbrev pub writing_findings : Files → WritingEnding → Findings
writing_findings files ending =
    record { halts = ending.halts; limits = limits_of ending.passes_limit files.outputs; lacked = ending.lacks_memory }

-- ---- the status

-- what it asks for besides a want of memory and a fault
abbrev pub status_besides : WritingEnding → Status
status_besides ending = if ending.passes_limit then statuses.Limit else status_of (all_halts ending.halts)

abbrev pub writing_status : WritingEnding → Status
writing_status ending =
    if ending.lacks_memory then statuses.Memory else (if ending.fails then statuses.Fault else status_besides ending)

-- all was written: no input halts, no limit is passed, no memory lacked, and nothing failed
pub record IsWritingDone (ending : WritingEnding) : Type 0 where
  pub read : all_halts ending.halts ≡ []
  pub within : ending.passes_limit ≡ false
  pub memory : ending.lacks_memory ≡ false
  pub well : ending.fails ≡ false
