-- What the program says on standard error, a line for each trouble; and the status that it ends with.
use Rattle.std.specs.Prelude.{ℕ, List, [], ◌∷◌, ◌++◌, codes, decimal, Bool, ◌==◌, find, unwrap_or}
use Rattle.std.specs.List.{flat_map, list_any}
use Rattle.json.specs.Print.{quoted}
use Rattle.command_base.specs.declared.statuses.Status.{Status}
use Rattle.command_base.specs.declared.statuses.Status.TheVariants as statuses
use Rattle.mcap_model.specs.declared.refusals.NotIndexed.{NotIndexed}
use Rattle.mcap_model.specs.declared.refusals.NotIndexed.TheVariants as lacks
use Rattle.mcap_model.specs.RuleNumbers.{rule_number}
use Rattle.mcap_model.specs.declared.rules.Rule.{Rule}
use Rattle.mcap_model.specs.Kept.{Halt, at_end, grammar as breaks, compressed as names, beyond}

-- ---- standard error

-- a trouble that the program complains of
pub data Trouble : Type 0 where
  fault : List ℕ → Trouble
  output_fault : Trouble
  grammar : List ℕ → ℕ → Trouble
  compressed : List ℕ → List ℕ → ℕ → Trouble
  limit : List ℕ → ℕ → Trouble
  -- what was to be written under that name passes a limit, or there are too many lines in it
  output_limit : List ℕ → Trouble
  -- it lacks what a reading by its indexes wants
  not_indexed : List ℕ → NotIndexed → Trouble
  -- that rule fails at that offset
  flaw : List ℕ → Rule → ℕ → Trouble
  -- the line of that number, from 1, isn't one of a script
  bad_line : List ℕ → ℕ → Trouble
  no_memory : Trouble

-- the words for what a file lacks
abbrev pub unindexed_text : NotIndexed → List ℕ
unindexed_text lacks.NoSummary = codes "no summary"
unindexed_text lacks.NoStatistics = codes "no statistics"
unindexed_text (lacks.ChunkCount stated found) = codes "chunk count"
unindexed_text (lacks.NoMessageIndex chunk) = codes "no message index"
unindexed_text (lacks.NoChannel id) = codes "no channel"

-- a name, and what stands behind it
abbrev pub about : List ℕ → List ℕ → List ℕ
about name what = codes "mcaprec: " ++ (quoted name ++ what)

-- an offset ends a line
abbrev pub at_offset : ℕ → List ℕ
at_offset n = codes " at " ++ (decimal n ++ codes "\n")

unfoldable pub trouble_line : Trouble → List ℕ
trouble_line (fault name) = about name (codes ": fault\n")
trouble_line output_fault = codes "mcaprec: output: fault\n"
trouble_line (grammar name n) = about name (codes ": grammar" ++ at_offset n)
trouble_line (compressed name compression n) = about name (codes ": compressed " ++ (quoted compression ++ at_offset n))
trouble_line (limit name n) = about name (codes ": limit" ++ at_offset n)
trouble_line (output_limit name) = about name (codes ": limit\n")
trouble_line (not_indexed name why) = about name (codes ": not indexed: " ++ (unindexed_text why ++ codes "\n"))
trouble_line (flaw name rule n) = about name (codes ": flaw V" ++ (decimal (rule_number rule) ++ at_offset n))
trouble_line (bad_line name n) = about name (codes ": line " ++ (decimal n ++ codes "\n"))
trouble_line no_memory = codes "mcaprec: no memory\n"

abbrev pub said : List Trouble → List ℕ
said troubles = flat_map trouble_line troubles

-- ---- the status

-- the number that the program ends with
abbrev pub status_number : Status → ℕ
status_number statuses.Done = 0
status_number statuses.Refused = 1
status_number statuses.Fault = 3
status_number statuses.Limit = 4
status_number statuses.Memory = 5

-- it is the one that is wanted
abbrev pub is_status : Status → Status → Bool
is_status wanted status = status_number status == status_number wanted

-- the status that a trouble asks for
abbrev pub asked_status : Trouble → Status
asked_status (fault name) = statuses.Fault
asked_status output_fault = statuses.Fault
asked_status (grammar name n) = statuses.Refused
asked_status (compressed name compression n) = statuses.Refused
asked_status (limit name n) = statuses.Limit
asked_status (output_limit name) = statuses.Limit
asked_status (not_indexed name why) = statuses.Refused
asked_status (flaw name rule n) = statuses.Refused
asked_status (bad_line name n) = statuses.Refused
asked_status no_memory = statuses.Memory

-- one of the troubles asks for the status
abbrev pub status_is_asked : List Trouble → Status → Bool
status_is_asked troubles status = list_any (λ t. is_status status (asked_status t)) troubles

-- the first of these that is asked for: that memory lacked, that something failed, that a limit was passed, and that something
-- was refused
abbrev pub status_of : List Trouble → Status
status_of troubles =
    unwrap_or
    (find (status_is_asked troubles) (statuses.Memory ∷ statuses.Fault ∷ statuses.Limit ∷ statuses.Refused ∷ []))
    statuses.Done

-- that of where the reading of a file halts
abbrev pub halt_status : Halt → Status
halt_status (at_end n) = statuses.Done
halt_status (breaks n rule) = statuses.Refused
halt_status (names n name) = statuses.Refused
halt_status (beyond n) = statuses.Limit
