use Rattle.recording_tests.proofs.Limits.{declared_limit}
use Rattle.recording_tests.proofs.desks.declare.Goals as goal

pub returns : goal.returns
returns c = declared_limit c.args.desk.now c.args.channel.now c.declare-answer.result c.declare-answer.new.self c.declare-answer.ensures.answer
