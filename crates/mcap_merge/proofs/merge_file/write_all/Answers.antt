use Rattle.std.proofs.Common.{ℕ, [], map, refl, inl, inr}
use Rattle.mcap_io.specs.Stores.{StoreState}
use Rattle.merge_walk.specs.Stores.{files_of}
use Rattle.merge_walk.proofs.Stayed.{stay_so, counts_so}
use Rattle.mcap_merge.specs.declared.answers.Merged.{Merged}
use Rattle.mcap_merge.specs.Putting.{MergeStart}
use Rattle.mcap_merge.proofs.Begun.{put_none, extras_stop, counts_behind_extras, part_stands, whole_stands}
use Rattle.mcap_merge.proofs.merge_file.write_all.Goals as goal

pub returns-in-Err-clause-stopped : goal.returns-in-Err-clause-stopped
returns-in-Err-clause-stopped g c =
    let state : g.row.T.Denot → StoreState = λ s. g.T.Store.state s in
    let start : MergeStart = record { files = files_of (map state c.args.stores.now.items); inputs = c.args.inputs.now; walk = c.args.begun.walk } in
    let new = c.write_extras.new.pen in
    let stands = c.requires.ready.stands in
    inl (record {
      part = extras_stop g.P.Pen.adds g.P.Pen.adds_on start c.args.pen.now new (stands start.files) c.in-Err.ensures.adds (λ records. g.P.Pen.adds_all new c.in-Err.stop [] records c.in-Err.ensures.stopped);
      stopped = c.in-Err.ensures.stopped;
    })

pub returns-in-Err-clause-stay : goal.returns-in-Err-clause-stay
returns-in-Err-clause-stay g c = stay_so _

pub returns-in-Err-clause-counts : goal.returns-in-Err-clause-counts
returns-in-Err-clause-counts g c = (counts_so _, c.in-Err.ensures.cause)

pub put_turns-requires-clause-begun : goal.put_turns-requires-clause-begun
put_turns-requires-clause-begun g c =
    let state : g.row.T.Denot → StoreState = λ s. g.T.Store.state s in
    let files = files_of (map state c.args.stores.now.items) in
    let stands = c.requires.ready.stands in
    put_none g.P.Pen.adds g.P.Pen.adds_none files c.args.inputs.now c.args.begun.walk c.args.begun.joiner c.write_extras.new.pen (stands files) c.requires.ready.none

pub returns-in-Err-put_turns-clause-stopped : goal.returns-in-Err-put_turns-clause-stopped
returns-in-Err-put_turns-clause-stopped g c =
    let state : g.row.T.Denot → StoreState = λ s. g.T.Store.state s in
    let start : MergeStart = record { files = files_of (map state c.args.stores.now.items); inputs = c.args.inputs.now; walk = c.args.begun.walk } in
    inl (record {
      part = part_stands g.P.Pen.adds g.P.Pen.adds_on start c.args.pen.now c.write_extras.new.pen c.put_turns.new.pen c.in-Ok.ensures.adds c.in-Err-put_turns.ensures.some;
      stopped = c.in-Err-put_turns.ensures.stopped;
    })

pub returns-in-Ok-finish-clause-written : goal.returns-in-Ok-finish-clause-written
returns-in-Ok-finish-clause-written g c =
    let state : g.row.T.Denot → StoreState = λ s. g.T.Store.state s in
    let start : MergeStart = record { files = files_of (map state c.args.stores.now.items); inputs = c.args.inputs.now; walk = c.args.begun.walk } in
    let m : Merged = record { messages = c.in-Ok-put_turns.messages; records = c.saturating_add.result; peak = c.peak.result } in
    record {
      all = c.put_turns.new.pen;
      whole = whole_stands g.P.Pen.adds g.P.Pen.adds_on start c.put_turns.new.walk c.in-Ok-put_turns.messages c.declared.result c.put_turns.new.joiner c.args.pen.now c.write_extras.new.pen c.put_turns.new.pen m
          c.in-Ok.ensures.adds c.in-Ok-put_turns.ensures.all c.in-Ok-put_turns.ensures.pieces c.declared.ensures.count refl c.saturating_add.ensures c.peak.ensures;
      ends_file = c.in-Ok-finish.ensures.ends;
    }

pub returns-in-Err-finish-clause-stopped : goal.returns-in-Err-finish-clause-stopped
returns-in-Err-finish-clause-stopped g c =
    let state : g.row.T.Denot → StoreState = λ s. g.T.Store.state s in
    let start : MergeStart = record { files = files_of (map state c.args.stores.now.items); inputs = c.args.inputs.now; walk = c.args.begun.walk } in
    let m : Merged = record { messages = c.in-Ok-put_turns.messages; records = c.saturating_add.result; peak = c.peak.result } in
    inr (
      c.in-Err-finish.stop,
      refl,
      m,
      record {
        all = c.put_turns.new.pen;
        whole = whole_stands g.P.Pen.adds g.P.Pen.adds_on start c.put_turns.new.walk c.in-Ok-put_turns.messages c.declared.result c.put_turns.new.joiner c.args.pen.now c.write_extras.new.pen c.put_turns.new.pen m
            c.in-Ok.ensures.adds c.in-Ok-put_turns.ensures.all c.in-Ok-put_turns.ensures.pieces c.declared.ensures.count refl c.saturating_add.ensures c.peak.ensures;
        ends_file = c.in-Err-finish.ensures.ends;
      },
    )

pub returns-in-Err-put_turns-clause-counts : goal.returns-in-Err-put_turns-clause-counts
returns-in-Err-put_turns-clause-counts g c = counts_behind_extras ℕ Merged _ _ _ _ _ c.in-Err-put_turns.why c.in-Ok.ensures.cause c.in-Err-put_turns.ensures.counts
