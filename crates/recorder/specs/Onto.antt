-- What a recording came to beside its tape.
use Rattle.std.specs.Prelude.{◌≡◌, ℕ, List, [], length, map, Bool, true, Option}
use Rattle.rec_data.specs.declared.owned.Rec.{Rec}
use Rattle.mcap_io.specs.Outside.{SourceState}
use Rattle.mcap_model.specs.declared.ends.End.{End}
use Rattle.mcap_model.specs.declared.ends.End.TheVariants as ends
use Rattle.mcap_model.specs.Places.{Each}
use Rattle.record_cache.specs.KeptRecords.{IsKept}
use Rattle.live_entry.specs.declared.entry.Entry.{Entry}
use Rattle.chunk_writer.specs.declared.phase.Phase.{Phase}
use Rattle.chunk_writer.specs.declared.phase.Phase.TheVariants as phases
use Rattle.chunk_writer.specs.declared.tape.Written.{Written}
use Rattle.chunk_writer.specs.Tapes.{EndsFor}
use Rattle.recorder.specs.declared.report.Report.{Report}
use Rattle.recorder.specs.declared.report.WriterReport.{WriterReport}
use Rattle.recorder.specs.Assembled.{Assembled}
use Rattle.recorder.specs.Recorded.{FeedRecorded, lane_of, AreFeeds, answer_of}
use Rattle.recorder.specs.Writing.{SeenTape}

-- how far a tape has come where a writer ended so
abbrev pub phase_at : End → Phase
phase_at ends.Closed = phases.Ended
phase_at (ends.Stopped stop) = phases.Stopped stop

-- so many blocks and bytes are told
abbrev pub written_numbers : WriterReport → Written
written_numbers w = record { blocks = w.blocks; bytes = w.bytes }

-- The tape grew by the history, with the entries of the blocks that were appended, and came to the end that is told, with the
-- numbers that are told: where the writer closed the tape has ended, else it keeps the refusal.
pub record TapeIsWritten {T X : Type 0} (seen : SeenTape T X) (first last : T) (history : List Rec) (w : WriterReport)
    : Type 0 where
  pub mid : T
  pub entries : List (Entry X)
  pub closing : Option (Entry X)
  pub grown : seen.grows first mid history entries
  pub ended : seen.ends mid last closing (written_numbers w) (answer_of w.end)
  pub phase_is : seen.phase last ≡ phase_at w.end
  pub numbers_are : seen.numbers last ≡ written_numbers w
  pub cause : EndsFor (seen.failures first) (seen.failures last) (seen.limit_met last) (answer_of w.end)

-- as many records are told as the history has, and each can be framed and is read back
pub record IsAll (history : List Rec) (w : WriterReport) : Type 0 where
  pub records : w.records ≡ length history
  pub kept : Each IsKept history

-- the lanes of a recording, and its history
pub record IsReported (limit : ℕ) (lossless : Bool) (before now : List SourceState) (history : List Rec) (r : Report)
    : Type 0 where
  pub feeds : List FeedRecorded
  pub are : AreFeeds feeds before now r.feeds.items
  pub assembled : Assembled limit (map lane_of feeds) history r.writer.end
  pub unfull : lossless ≡ true → Each (λ f. f.pass.fulls ≡ []) feeds

-- what is seen of the sources of a recording, and its tape
pub record TapeSides (T : Type 0) : Type 0 where
  pub sources : List SourceState
  pub tape : T

abbrev pub tape_sides : {T : Type 0} → List SourceState → T → TapeSides T
tape_sides sources tape = record { sources = sources; tape = tape }

-- What a recording onto a tape came to: what its lanes read and showed, and the history, which its report describes and by
-- which the tape grew.
pub record RecordedOnto {T X : Type 0} (seen : SeenTape T X) (limit : ℕ) (lossless : Bool) (before now : TapeSides T)
    (r : Report) : Type 0 where
  pub history : List Rec
  pub reported : IsReported limit lossless before.sources now.sources history r
  pub written : TapeIsWritten seen before.tape now.tape history r.writer
  pub all : IsAll history r.writer
