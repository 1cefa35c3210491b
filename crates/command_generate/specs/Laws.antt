-- A law of generations: what is printed is what the numbers say.
use Rattle.std.proofs.Common.{subst}
use Rattle.std.specs.Prelude.{◌≡◌, ℕ, List, Err, ◌^◌, ◌<◌, ◌≤◌, true, Option, Some, IsUtf8}
use Rattle.mcap_io.specs.Outside.{SourceState, Told}
use Rattle.mcap_model.specs.Tops.{Top}
use Rattle.mcap_model.specs.declared.refusals.ReadingRefused.{ReadingRefused}
use Rattle.mcap_scan.specs.RefusedReadings.{RefusalStands}
use Rattle.command_base.specs.OneFile.{failing, refusal_ending}
use Rattle.command_base.proofs.Refusals.{refusal_fails, rises_some}
use Rattle.command_generate.specs.Back.{SumsComeTo}
use Rattle.std.specs.List.{flat_map, range_with_len}
use Rattle.rec_data.specs.Fields.{MessageFields}
use Rattle.mcap_model.specs.declared.options.RecordOptions.{RecordOptions}
use Rattle.recorder.specs.declared.report.Report.{Report}
use Rattle.command_base.specs.Printing.{TellsAll}
use Rattle.command_base.specs.Ran.{Scene}
use Rattle.command_generate.specs.Generator.{generated}
use Rattle.command_generate.specs.Sums.{sums_of}
use Rattle.command_generate.specs.declared.making.Numbers.{Numbers}
use Rattle.command_generate.specs.Lines.{sums_line}
use Rattle.command_generate.specs.Allowed.{OptionsAllowed}
use Rattle.command_base.specs.declared.statuses.Status.{Status}
use Rattle.command_base.specs.declared.statuses.Status.TheVariants as statuses
use Rattle.command_generate.specs.Generating.{Generates}

-- the messages of one feed, and of all feeds, from that of number 0 on
abbrev pub made_for : Numbers → ℕ → List MessageFields
made_for numbers feed = generated numbers.seed feed numbers.messages

abbrev pub all_made : Numbers → List MessageFields
all_made numbers = flat_map (made_for numbers) (range_with_len 0 numbers.feeds)

-- at most 64 feeds, and a number of messages that fits its type
pub record AreInRange (numbers : Numbers) : Type 0 where
  pub feeds : numbers.feeds ≤ 64
  pub messages : numbers.messages < 2 ^ 32

-- A lossless generation in which all was done, in a world that tells: standard output took the line of the sums of all messages
-- that the numbers say. So what was read back has their number, their length of data and their sum.
abbrev pub GeneratedSumsAreTold : Type 0
GeneratedSumsAreTold = (options : RecordOptions) (numbers : Numbers) (out : List ℕ) (old new : Scene)
    (report : Option Report) (status : Status) (told : Told) → OptionsAllowed options → IsUtf8 options.file.profile
    → AreInRange numbers → options.lossless ≡ true → Generates options numbers out old new report status
    → status ≡ statuses.Done → old.world.told ≡ Some told
    → TellsAll old.out new.out (sums_line numbers.feeds (sums_of (all_made numbers)))

-- ---- reading back

-- a reading back that failed has a source that failed
pub back_fails : (before now : SourceState) (file : List ℕ) (why : ReadingRefused) → SumsComeTo before now (Err why)
    → before.faults ≡ 0 → refusal_ending file why ≡ failing → now.faults ≡ 0 → ⊥
back_fails before now file why comes unused e none =
    let fault = refusal_fails file why e in
    let stands = subst (λ (w : ReadingRefused). (tops : List Top) × RefusalStands w before now tops) fault.1 comes in
    rises_some before.faults now.faults stands.1.rises unused none
