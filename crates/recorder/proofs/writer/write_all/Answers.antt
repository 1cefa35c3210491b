use Rattle.std.proofs.Common.{refl, ◌∙◌}
use Rattle.recorder.specs.Writing.{seen_tape}
use Rattle.recorder.proofs.Draining.{writes_none, writes_on}
use Rattle.recorder.proofs.writer.write_all.Goals as goal

pub steps-init : goal.steps-init
steps-init g c =
    let members = g.T.Tape in
    let drain = c.args.drain.now in
    (refl, c.requires.spare, writes_none (seen_tape members.grows members.ends members.limit_met members.phase members.numbers members.failures) members.grows_none c.args.tape.now drain.seat.me.0.post.taken drain.seat.me.0.post refl c.requires.may c.requires.stops, c.requires.halts, c.requires.has)

pub returns-in-Some-over-clause-writes : goal.returns-in-Some-over-clause-writes
returns-in-Some-over-clause-writes g c =
    let members = g.T.Tape in
    let step = c.write_once-step in
    writes_on (seen_tape members.grows members.ends members.limit_met members.phase members.numbers members.failures) members.grows_on c.args.tape.now c.steps.tape step.new.tape _ _ _ c.steps.invariant.2 step.ensures.writes

pub steps-preserved : goal.steps-preserved
steps-preserved g c =
    let members = g.T.Tape in
    let step = c.write_once-step in (
      step.ensures.turn ∙ c.steps.invariant.0,
      step.ensures.spare,
      writes_on (seen_tape members.grows members.ends members.limit_met members.phase members.numbers members.failures) members.grows_on c.args.tape.now c.steps.tape step.new.tape _ _ _ c.steps.invariant.2 step.ensures.writes,
      step.ensures.halts,
      step.ensures.has,
    )
