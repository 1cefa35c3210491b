use Rattle.std.proofs.Common.{◌<◌, length, sym, subst, arith}
use Rattle.mcap_model.specs.Places.{At}
use Rattle.mcap_model.proofs.Places.{at_read}
use Rattle.index_check.proofs.Heard.{noted}
use Rattle.index_check.proofs.chunk_indexes.Chunks.holds_messages.Goals as goal

pub returns-in-Some : goal.returns-in-Some
returns-in-Some c = λ tops n t of at kind there.
    let notes = c.args.self.now.notes.items in
    let place = c.in-Some.place in
    let note = c.index.result.now in
    let within : place < length notes = omega (arith, c.if-place-len.false, c.len.ensures) in
    noted tops c.args.self.now of n t at kind c.args.offset there place c.in-Some.ensures note (subst (At notes place) (sym c.index.ensures) (at_read notes place note within))
