-- So far the complaints of the watchers below the index stand behind the others.
use Rattle.std.proofs.Common.{◌≡◌, ◌+◌, ◌*◌, ◌++◌}
use Rattle.std.specs.List.{flat_map}
use Rattle.arrayvec.specs.ArrayVec.{array_vec_len}
use Rattle.command_base.specs.ComplaintTroubles.{complained}
use Rattle.command_record.specs.WatchedSteps.{watch_flags_of}
use Rattle.command_record.proofs.WatchedDue.{watches_from}
use Rattle.command_record.proofs.watched_answer.put_watch_complaints.Given as goal

abbrev pub invariant-watches : goal.invariant-watches
invariant-watches l = record {
  troubles : flat_map complained l.complaints.items ++ watches_from l.i l.watches l.fn.reports (watch_flags_of l.watches l.fn.failed) ≡ flat_map complained l.fn.complaints.items ++ watches_from 0 l.watches l.fn.reports (watch_flags_of l.watches l.fn.failed);
  many : array_vec_len l.complaints ≡ array_vec_len l.fn.complaints + 2 * l.i;
}
