use Rattle.std.proofs.lemmas.Result.{on_ok_weaker}
use Rattle.chunk_writer.proofs.Gathered.{noted_some, noted_none}
use Rattle.summary_write.specs.Tally.{with_noted_extra}
use Rattle.chunk_writer.proofs.plan.note_behind.Goals as goal

pub returns-in-Some : goal.returns-in-Some
returns-in-Some c = on_ok_weaker c.note_in.result
    (λ noted t is size n stands. noted_some size n (with_noted_extra n c.args.at t) c.args.body.now c.in-Some.body c.note_in.new.summary c.in-Some.is (noted t is n) stands) c.note_in.ensures

pub returns-in-None : goal.returns-in-None
returns-in-None c = λ t is size n stands. noted_none size n (with_noted_extra n c.args.at t) c.args.body.now c.in-None.is stands
