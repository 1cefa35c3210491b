use Rattle.std.proofs.Common.{◌≡◌}
use Rattle.chunk_writer.specs.Tapes.{HasTaken}
use Rattle.recorder.specs.Writing.{empty_buffer, StopsIntake, seen_tape, WritesOn}
use Rattle.recorder.proofs.writer.write_all.Given as goal

abbrev pub invariant-steps : goal.invariant-steps
invariant-steps g l = (l.drain.seat.table_id ≡ l.fn.drain.seat.table_id) × (l.spare ≡ empty_buffer l.drain.seat.me.0.pass.limit)
    × WritesOn (seen_tape g.T.Tape.grows g.T.Tape.ends g.T.Tape.limit_met g.T.Tape.phase g.T.Tape.numbers g.T.Tape.failures) l.fn.tape l.tape l.fn.drain.seat.me.0.post.taken l.drain.seat.me.0.post
    × StopsIntake l.drain.seat.me.0.pass l.drain.seat.me.0.post (g.T.Tape.phase l.tape)
    × HasTaken g.T.Tape.is_new g.T.Tape.grows l.tape l.drain.seat.me.0.post.taken
