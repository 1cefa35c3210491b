-- So far the complaints of the inputs below the index stand there.
use Rattle.std.proofs.Common.{◌≡◌, ◌*◌, ◌++◌, Bool}
use Rattle.std.specs.List.{flat_map}
use Rattle.arrayvec.specs.ArrayVec.{array_vec_len}
use Rattle.command_base.specs.ComplaintTroubles.{complained}
use Rattle.command_base.specs.OutputSteps.{flags_of}
use Rattle.command_base.proofs.DueComplaints.{told_from}
use Rattle.command_base.proofs.file_writing.input_complaints.Given as goal

abbrev pub invariant-inputs : goal.invariant-inputs
invariant-inputs g l = record {
  troubles : (some : Bool) → flat_map complained l.complaints.items ++ told_from l.i l.inputs (g.K.FileWriting.ending l.fn.what l.inputs some).halts (flags_of l.inputs l.fn.failed)
      ≡ told_from 0 l.inputs (g.K.FileWriting.ending l.fn.what l.inputs some).halts (flags_of l.inputs l.fn.failed);
  many : array_vec_len l.complaints ≡ 2 * l.i;
}
