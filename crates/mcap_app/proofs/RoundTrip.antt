-- What is recorded is printed.
use Rattle.std.proofs.Common.{◌≡◌, ◌⊎◌, ℕ, List, [], filter, Some, Result, Ok, refl, sym, ap, subst, inl, inr, ◌∙◌, arith}
use Rattle.std.specs.Prelude.{IsUtf8}
use Rattle.std.specs.List.{AllZip}
use Rattle.rec_data.specs.declared.owned.Rec.{Rec}
use Rattle.mcap_io.specs.Outside.{SourceState, WorldState, Told, Opening}
use Rattle.mcap_model.specs.declared.ends.End.TheVariants as ends
use Rattle.mcap_model.specs.Tops.{Top}
use Rattle.mcap_model.specs.Kept.{at_end}
use Rattle.mcap_model.specs.Scan.{Seen, Scan, Replay}
use Rattle.time_player.specs.Text.{cat_text}
use Rattle.mcap_model.specs.History.{is_message}
use Rattle.mcap_model.specs.File.{file_of}
use Rattle.mcap_model.specs.Laws.{HoldsSeen}
use Rattle.mcap_model.proofs.Halting.{readings_halt_once}
use Rattle.recorder.specs.declared.report.Report.{Report}
use Rattle.recorder.specs.Laws.{ReadsAs}
use Rattle.recorder.specs.Recorded.{AreReadable}
use Rattle.recorder.proofs.ReadBack.{recordings_are_read_back}
use Rattle.command_base.specs.declared.statuses.Status.{Status}
use Rattle.command_base.specs.declared.statuses.Status.TheVariants as statuses
use Rattle.command_base.specs.declared.file_reading.Reading.{Reading}
use Rattle.command_base.specs.declared.file_reading.Reading.TheVariants as readings
use Rattle.command_base.specs.Ran.{Scene, counts_in, AnyRose}
use Rattle.mcap_model.specs.declared.options.RecordOptions.{RecordOptions}
use Rattle.command_record.specs.RecordSteps.{AreAllowed}
use Rattle.mcap_model.specs.declared.refusals.ReadingRefused.{ReadingRefused}
use Rattle.command_base.specs.OneFile.{refusal_ending}
use Rattle.command_base.specs.Readings.{IsSourceRead}
use Rattle.command_base.proofs.ReadNames.{read_is, source_shows}
use Rattle.command_base.proofs.Refusals.{refusal_is}
use Rattle.command_base.specs.Printing.{TellsAll}
use Rattle.command_record.proofs.Held.{output_whole}
use Rattle.command_read.specs.Cat.{ComesTo, IsPrinted, Cats}
use Rattle.mcap_app.specs.Laws.{everything, PrintsHistory, RecordingsArePrinted}
use Rattle.mcap_app.proofs.Recordings.{Recording, of_watched}

-- ---- the printing

-- lines that were read of a file in which a history stands are those of its messages
lines_of : (file : List ℕ) (history : List Rec) (before now : SourceState) (text : List ℕ) → before.left ≡ Some file → IsPrinted everything before now text → (reads : ReadsAs file history)
    → (messages : List Seen) × (shown : List Seen) × AllZip HoldsSeen (filter is_message history) messages × Replay everything.range everything.topic messages shown × (text ≡ cat_text shown) × Scan reads.tops messages
lines_of file history before now text here printed reads =
    let same : printed.tops ≡ reads.tops = (readings_halt_once file printed.tops reads.tops (at_end printed.end) (at_end reads.end) (printed.halts.halts file here) reads.halts).0 in
    let scan : Scan reads.tops printed.messages = subst (λ (ts : List Top). Scan ts printed.messages) same printed.scan in
    (printed.messages, printed.shown, reads.messages_are printed.messages scan, printed.replay, printed.text_is, scan)

same_came : (a b : Result (List ℕ) ReadingRefused) → readings.Opened a ≡ readings.Opened b → a ≡ b
same_came a b e = cc

-- what a reading that gave lines was of
read_of : (name file : List ℕ) (world : WorldState) (told : Told) (entries : List Opening) (reading : Reading (List ℕ) ReadingRefused) (text : List ℕ) → world.told ≡ Some told → told.names name ≡ Some file → IsSourceRead (ComesTo everything) name world entries reading
    → reading ≡ readings.Opened (Ok text) → (before : SourceState) × (now : SourceState) × (before.left ≡ Some file) × IsPrinted everything before now text
read_of name file world told entries reading text here there is lines =
    source_shows (λ (r : Reading (List ℕ) ReadingRefused). r ≡ readings.Opened (Ok text) → (before : SourceState) × (now : SourceState) × (before.left ≡ Some file) × IsPrinted everything before now text)
    name file world told here there (λ why e. absurd cc) (ComesTo everything)
    (λ source now came left comes e. (source, now, left, subst (ComesTo everything source now) (same_came came (Ok text) e) comes)) entries reading is lines

-- what a recording in which all was done left in a world that tells: it is closed, and the file of its history stands under the
-- output's name and is read back
pub closed_left : (options : RecordOptions) (out : List ℕ) (old new : WorldState) (r : Report) (told : Told) → AreAllowed options → IsUtf8 options.file.profile
    → (it : Recording options out old new r statuses.Done) → (here : old.told ≡ Some told)
    → (r.writer.end ≡ ends.Closed) × AreReadable options.file
    × ((it.goes_on told here).0.names out ≡ Some (file_of options.file [] it.recorded.history))
    × ReadsAs (file_of options.file [] it.recorded.history) it.recorded.history
closed_left options out old new r told allowed text it here =
    let closed = it.closed refl in
    let left = it.goes_on told here in
    let readable : AreReadable options.file = record { profile = text; short = omega (arith, allowed.short); size = allowed.size } in (
      closed,
      readable,
      output_whole options.file it.recorded.history r.writer it.live_kept (told.names out) (left.0.names out) (it.file told left.0 here left.1) closed (it.well refl),
      (recordings_are_read_back options it.before it.after r readable it.recorded closed).0,
    )

-- a printing in which no count rises of a file that a history can be read of
pub file_printed : (out file : List ℕ) (history : List Rec) (later last : Scene) (answer : Status) (told : Told) → later.world.told ≡ Some told → told.names out ≡ Some file → ReadsAs file history
    → Cats everything out later last answer → (AnyRose (counts_in later) (counts_in last) → ⊥)
    → ((answer ≡ statuses.Done) × PrintsHistory history later.out last.out) ⊎ (answer ≡ statuses.Memory)
file_printed out file history later last answer told tells held reads cats quiet =
    elim (cats.decided told file reads.tops (at_end reads.end) tells held reads.halts quiet) [
      | inr five ↦ inr five
      | inl done ↦
          let (well, printed) = cats.reads.ran.whole done in
          let (text, read, text_is) = read_is (λ (t : List ℕ). t) (refusal_ending out) (refusal_is out) cats.reads.reading printed.0 printed.1 in
          let source = read_of out file later.world told cats.reads.entries cats.reads.reading text tells held cats.reads.read read in
          let lines = lines_of file history source.0 source.1 text source.2 source.3 reads in
          inl (
            done,
            record {
              tops = reads.tops;
              flat_are = reads.flat_are;
              messages = lines.0;
              scan = lines.5;
              shown = lines.1;
              are = lines.2;
              replay = lines.3;
              lines = subst (λ (t : List ℕ). TellsAll later.out last.out t) (sym text_is ∙ lines.4) printed.2;
            },
          )
    ]

-- one of what a recording left
pub printed_so : (options : RecordOptions) (out : List ℕ) (old new : WorldState) (later last : Scene) (r : Report) (answer : Status) (told : Told) → AreAllowed options → IsUtf8 options.file.profile
    → (it : Recording options out old new r statuses.Done) → old.told ≡ Some told
    → later.world ≡ new → Cats everything out later last answer → (AnyRose (counts_in later) (counts_in last) → ⊥)
    → ((answer ≡ statuses.Done) × PrintsHistory it.recorded.history later.out last.out) ⊎ (answer ≡ statuses.Memory)
printed_so options out old new later last r answer told allowed text it here same cats quiet =
    let left = it.goes_on told here in
    let stands = closed_left options out old new r told allowed text it here in
    file_printed out (file_of options.file [] it.recorded.history) it.recorded.history later last answer left.0 (ap (λ (w : WorldState). w.told) same ∙ left.1) stands.2 stands.3 cats quiet

pub recordings_are_printed : RecordingsArePrinted
recordings_are_printed options range out watches feeds old new later last r answer told allowed text it here same cats quiet =
    printed_so options out old.world new.world later last r.recorded answer told allowed text (of_watched options range out watches feeds old new r statuses.Done it) here same cats quiet
