-- What the program does, command by command.
use Rattle.std.specs.Prelude.{◌≡◌, ◌⊎◌, ℕ, Bool, true, false, List, [], ◌∷◌, Option, None, Some}
use Rattle.command_words.specs.declared.command.Command.{Command}
use Rattle.command_words.specs.declared.command.Command.TheVariants as commands
use Rattle.std.specs.Option.{option_map}
use Rattle.command_record.specs.declared.recording.RecordingReport.{RecordingReport}
use Rattle.command_base.specs.declared.statuses.Status.{Status}
use Rattle.command_base.specs.declared.statuses.Status.TheVariants as statuses
use Rattle.command_base.specs.Texts.{no_memory, said, status_number}
use Rattle.command_base.specs.Printing.{Takes}
use Rattle.command_base.specs.Ran.{Scene}
use Rattle.command_record.specs.Watched.{requested}
use Rattle.command_record.specs.WatchedAnswer.{Records}
use Rattle.command_read.specs.FileCommand.{RunsOnFile}
use Rattle.command_read.specs.Cat.{Selection, selection, Cats}
use Rattle.command_read.specs.Indexed.{IndexedCats}
use Rattle.command_write.specs.Recover.{RecoversFile}
use Rattle.command_write.specs.Merge.{MergesFiles}
use Rattle.command_write.specs.Filter.{filter_request, FiltersFile}
use Rattle.command_write.specs.Sort.{SortsFile}
use Rattle.command_read.specs.Play.{PlaysFile}
use Rattle.mcap_filter.specs.Picked.{asking}
use Rattle.command_words.specs.Defaults.{usual_chunk_size, usual_limit, watch_names}
use Rattle.mcap_model.specs.declared.options.RecordOptions.{RecordOptions}
use Rattle.command_generate.specs.Generating.{Generates}

-- generated feeds are recorded without loss, with no profile and the usual sizes
abbrev pub generate_options : RecordOptions
generate_options = record {
  file = record { profile = []; chunk = Some usual_chunk_size; span = None };
  limit = usual_limit;
  lossless = true;
}

-- a printing in the order of log time, by the file's indexes where they are asked for
abbrev pub PrintsBy : Bool → Selection → List ℕ → Scene → Scene → Status → Type 0
PrintsBy false asked file old new status = Cats asked file old new status
PrintsBy true asked file old new status = IndexedCats asked file old new status

-- a report of a recording without watchers
abbrev pub HasNoWatchers : Option RecordingReport → Type 0
HasNoWatchers report = (r : RecordingReport) → report ≡ Some r → (r.sealed ≡ true) × (r.watchers.items ≡ [])

-- What a command does; only a recording has a report, of feeds that are read or generated. Where there are watchers they write to
-- the files under their names.
abbrev pub Does : Command → Scene → Scene → Option RecordingReport → Status → Type 0
Does (commands.Record recording) old new report status = Records
    (requested recording.options recording.range recording.out (watch_names recording.out recording.watchers)
    recording.feeds) old new report status
Does (commands.OfFile inspection) old new report status =
    RunsOnFile inspection.what inspection.file old new status × (report ≡ None)
Does (commands.Cat printing) old new report status =
    PrintsBy printing.indexed (selection printing.range printing.topic) printing.file old new status × (report ≡ None)
Does (commands.Recover recovery) old new report status =
    RecoversFile recovery.chunk recovery.input recovery.out old new status × (report ≡ None)
Does (commands.Merge merge) old new report status =
    MergesFiles merge.chunk merge.inputs merge.out old new status × (report ≡ None)
Does (commands.Generate generation) old new report status = Generates generate_options
    (record { seed = generation.seed; feeds = generation.feeds; messages = generation.messages })
    generation.out old new (option_map (λ (r : RecordingReport). r.recorded) report) status
    × HasNoWatchers report
Does (commands.Filter filtering) old new report status = FiltersFile
    (filter_request (asking filtering.range filtering.topic) filtering.chunk)
    filtering.input filtering.out old new status × (report ≡ None)
Does (commands.Sort sorting) old new report status =
    SortsFile sorting.chunk sorting.input sorting.out old new status × (report ≡ None)
Does (commands.Play playing) old new report status =
    PlaysFile (selection playing.range playing.topic) playing.file playing.script old new status × (report ≡ None)

-- memory lacked for reading the words or for the names of watchers' files, and nothing else was done
pub record LacksForWords (old new : Scene) (report : Option RecordingReport) (status : Status) : Type 0 where
  pub status_is : status ≡ statuses.Memory
  pub world : new.world ≡ old.world
  pub out : new.out ≡ old.out
  pub told : Takes old.err new.err (said (no_memory ∷ []))
  pub none : report ≡ None

-- What the program does for a command, and the number that it ends with: that of its status.
abbrev pub Runs : Command → Scene → Scene → Option RecordingReport → ℕ → Type 0
Runs command old new report number = (status : Status)
    × (Does command old new report status ⊎ LacksForWords old new report status) × (number ≡ status_number status)
