use Rattle.std.proofs.Common.{sym, ap, ◌∙◌}
use Rattle.std.proofs.lemmas.List.{take_rest}
use Rattle.mcap_model.specs.Tops.{records_in}
use Rattle.mcap_model.specs.Walk.{inner_top}
use Rattle.merge_walk.proofs.Reached.{text_loaded, inner_within, never_none, message_is}
use Rattle.merge_walk.proofs.walk.Walk.message.Goals as goal

pub bytes-bytes-requires : goal.bytes-bytes-requires
bytes-bytes-requires c = text_loaded c.args.self.now c.args.turn.now c.requires

pub slice_bounds-first_record-count : goal.slice_bounds-first_record-count
slice_bounds-first_record-count c = inner_within c.args.self.now c.args.turn.now c.bytes-bytes.result.now c.requires c.bytes-bytes.ensures

pub slice_bounds-first_record-start : goal.slice_bounds-first_record-start
slice_bounds-first_record-start c = inner_within c.args.self.now c.args.turn.now c.bytes-bytes.result.now c.requires c.bytes-bytes.ensures

pub returns-in-Some-clause-message : goal.returns-in-Some-clause-message
returns-in-Some-clause-message c = λ x holds has.
    let bytes = c.bytes-bytes.result.now in
    let (rest, steps) = c.in-Some.ensures in
    message_is c.args.self.now x c.args.turn.now bytes (inner_top c.in-Some.inner) (records_in rest) holds has c.bytes-bytes.ensures (ap records_in (sym (take_rest bytes c.args.turn.now.inner)) ∙ steps.first)

pub unreachable-requires : goal.unreachable-requires
unreachable-requires c =
    let bytes = c.bytes-bytes.result.now in
    never_none c.args.self.now c.args.turn.now bytes _ c.requires c.bytes-bytes.ensures (take_rest bytes c.args.turn.now.inner) c.in-None.ensures
