-- The records in front of the last one were appended, and then that one.
use Rattle.std.proofs.Common.{◌-◌, take}
use Rattle.chunk_writer.proofs.Stopping.{added_err}
use Rattle.chunk_writer.proofs.Plain.{each_added, each_refused}
use Rattle.chunk_writer.proofs.Fronts.{last_added, refused_front, refused_last}
use Rattle.chunk_writer.proofs.buffered.append_records.Goals as goal

pub returns-in-Err-clause-refused : goal.returns-in-Err-clause-refused
returns-in-Err-clause-refused g c =
    let records = c.args.full.now.records in
    let count = c.count-count.result - 1 in
    refused_front _ _ records count c.in-Err.refusal.whole c.refused.result (each_refused _ _ (take count records) c.in-Err.refusal _ c.refused.result c.in-Err.ensures.leaves c.refused.ensures)

pub returns-in-Ok-append_through-clause-adds : goal.returns-in-Ok-append_through-clause-adds
returns-in-Ok-append_through-clause-adds g c =
    let records = c.args.full.now.records in
    last_added _ _ _ records c.last_of-last.result c.record.result.next c.count-count.result c.record.result.framed.now c.last_of-last.ensures c.count-count.ensures c.record.ensures
    (each_added _ _ (take (c.count-count.result - 1) records) c.in-Ok.ensures.adds) c.in-Ok-append_through.ensures.appends.0

pub returns-in-Err-append_through-clause-refused : goal.returns-in-Err-append_through-clause-refused
returns-in-Err-append_through-clause-refused g c =
    let records = c.args.full.now.records in
    let piece = c.record.result.framed.now in
    refused_last _ (g.L.LiveStore.state c.append_each.new.self).held _ records c.last_of-last.result c.record.result.next c.count-count.result piece c.in-Err-append_through.stop c.last_of-last.ensures c.count-count.ensures c.record.ensures
    (each_added _ _ (take (c.count-count.result - 1) records) c.in-Ok.ensures.adds)
    (added_err {X = g.row.L-Extent.Denot} (λ e. g.L.Extent.Extent.tells e) (λ e. g.L.Extent.Extent.size e) (g.L.LiveStore.state c.append_each.new.self) (g.L.LiveStore.state c.append_through.new.store) piece c.in-Err-append_through.stop
    c.in-Err-append_through.ensures.appends)
