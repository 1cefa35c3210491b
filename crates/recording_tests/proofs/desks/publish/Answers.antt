use Rattle.record_core.specs.Desk.{fields_of_message}
use Rattle.recording_tests.proofs.Limits.{published_limit}
use Rattle.recording_tests.proofs.desks.publish.Goals as goal

pub returns : goal.returns
returns c = published_limit c.args.desk.now c.args.m.now.channel (fields_of_message c.args.m.now) c.publish-answer.result c.publish-answer.new.self c.publish-answer.ensures.answer
