use Rattle.std.proofs.Common.{◌<◌, ◌-◌, length, refl, sym, subst, ◌∙◌, arith}
use Rattle.mcap_model.specs.Places.{At}
use Rattle.mcap_model.specs.Made.{top}
use Rattle.mcap_model.proofs.Places.{at_read}
use Rattle.index_check.specs.declared.chunk_indexes.IndexNote.{IndexNote}
use Rattle.index_check.proofs.Tracked.{index_more, none_kept}
use Rattle.index_check.proofs.chunk_indexes.Chunks.add_index.Goals as goal

pub returns-in-Ok-add-clause-kept : goal.returns-in-Ok-add-clause-kept
returns-in-Ok-add-clause-kept c = λ tops content are e there fits sized shows.
    let kept = c.args.self.now in
    let place = c.len-count.result - 1 in
    let old = c.index_mut.result.now in
    let within : place < length kept.notes.items = omega (arith, c.len-count.ensures, kept.notes.ok.0, c.if-count-eq0.false) in
    let at_old : At kept.notes.items place old = subst (At kept.notes.items place) (sym c.index_mut.ensures.value) (at_read kept.notes.items place old within) in
    let note : IndexNote = record { channel = c.args.index.now.channel_id; offset = c.args.offset; entries = length c.args.index.now.entries } in
    index_more tops (top 7 content) place old c.add.new.self note c.args.index.now.entries c.args.length kept _ are e at_old (omega (arith, c.len-count.ensures, kept.notes.ok.0, c.if-count-eq0.false)) c.in-Ok-add.ensures
    (record { kind = refl; layout = shows }) refl there sized fits refl refl

pub returns-then-count-eq0-clause-kept : goal.returns-then-count-eq0-clause-kept
returns-then-count-eq0-clause-kept c = λ tops content are e there fits sized shows. absurd (none_kept tops c.args.self.now are e (sym c.args.self.now.notes.ok.0 ∙ sym c.len-count.ensures ∙ c.if-count-eq0.true))
