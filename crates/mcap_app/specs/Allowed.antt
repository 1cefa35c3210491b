-- When the numbers and texts of a command are in their ranges.
use Rattle.std.specs.Prelude.{◌≡◌, ◌≤◌, ℕ, Some}
use Rattle.command_words.specs.declared.command.Command.{Command}
use Rattle.command_words.specs.declared.command.Command.TheVariants as commands
use Rattle.command_record.specs.RecordSteps.{AreAllowed, AreFew}
use Rattle.mcap_model.specs.declared.options.FileOptions.{FileOptions}
use Rattle.mcap_wire.specs.Limits.{chunk_size_limit}
use Rattle.command_base.specs.OutputSteps.{InputsAreFew}
use Rattle.command_words.specs.Commands.{feed_limit, watcher_limit}

-- so many watchers may read a file of this kind: at most 16, and none where it has no chunks
abbrev pub IsWatchable : FileOptions → ℕ → Type 0
IsWatchable file watchers = (watchers ≤ watcher_limit) × (1 ≤ watchers → (size : ℕ) × (file.chunk ≡ Some size))

-- the numbers and texts of a command are in their ranges
abbrev pub IsAllowed : Command → Type 0
IsAllowed (commands.Record recording) =
    AreAllowed recording.options × AreFew recording.feeds × IsWatchable recording.options.file recording.watchers
IsAllowed (commands.OfFile inspection) = Unit {0}
IsAllowed (commands.Cat printing) = Unit {0}
IsAllowed (commands.Recover recovery) = (1 ≤ recovery.chunk) × (recovery.chunk ≤ chunk_size_limit)
IsAllowed (commands.Merge merge) = (1 ≤ merge.chunk) × (merge.chunk ≤ chunk_size_limit) × InputsAreFew merge.inputs
IsAllowed (commands.Generate generation) = (1 ≤ generation.feeds) × (generation.feeds ≤ feed_limit)
IsAllowed (commands.Filter filtering) = (1 ≤ filtering.chunk) × (filtering.chunk ≤ chunk_size_limit)
IsAllowed (commands.Sort sorting) = (1 ≤ sorting.chunk) × (sorting.chunk ≤ chunk_size_limit)
IsAllowed (commands.Play playing) = Unit {0}
