use Rattle.std.proofs.Common.{◌≡◌, ◌≤◌, List}
use Rattle.rec_data.specs.declared.owned.Rec.{Rec}
use Rattle.chunk_build.specs.Chunker.{StandsFor}
use Rattle.recording_tests.proofs.summaries.note_each.Given as goal

abbrev pub invariant-loop-bytes : goal.invariant-loop-bytes
invariant-loop-bytes l = record {
  messages : l.summary.messages ≤ l.bytes-index;
  blocks : l.summary.blocks ≡ 0;
  stands : (history : List Rec) × StandsFor l.chunker history;
}
