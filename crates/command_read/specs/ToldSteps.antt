-- Why nothing is told of a file.
use Rattle.std.specs.Prelude.{◌≡◌, ◌≢◌, ℕ, List, None, Result, Ok, Err}
use Rattle.summary_read.specs.Parts.{Parts}
use Rattle.mcap_model.specs.declared.refusals.NotIndexed.{NotIndexed}
use Rattle.mcap_model.specs.declared.refusals.NotIndexed.TheVariants as lacks
use Rattle.mcap_model.specs.declared.refusals.IndexedRefused.{IndexedRefused}
use Rattle.mcap_model.specs.declared.refusals.IndexedRefused.TheVariants as by_index
use Rattle.mcap_model.specs.declared.refusals.ReadingRefused.{ReadingRefused}
use Rattle.mcap_model.specs.declared.refusals.ReadingRefused.TheVariants as refusals
use Rattle.command_read.specs.Told.{InfoText}

-- nothing is told for no other reason than that there is no Statistics
abbrev pub IsUnstated : NotIndexed → Type 0
IsUnstated lacks.NoSummary = ⊥
IsUnstated lacks.NoStatistics = Unit {0}
IsUnstated (lacks.ChunkCount stated found) = ⊥
IsUnstated (lacks.NoMessageIndex chunk) = ⊥
IsUnstated (lacks.NoChannel id) = ⊥

-- no other than a want of memory
abbrev pub IsForMemory : ReadingRefused → Type 0
IsForMemory (refusals.Fault faults) = ⊥
IsForMemory (refusals.Grammar offset rule) = ⊥
IsForMemory (refusals.Compressed offset name) = ⊥
IsForMemory (refusals.Limit offset) = ⊥
IsForMemory refusals.Memory = Unit {0}

-- There is no text just where there is no Statistics, or where memory lacks.
abbrev pub Informs : Parts → Result (List ℕ) IndexedRefused → Type 0
Informs p (Ok text) = InfoText p text
Informs p (Err (by_index.NotIndexed why)) = IsUnstated why × (p.statistics ≡ None)
Informs p (Err (by_index.Refused why)) = IsForMemory why × (p.statistics ≢ None)
