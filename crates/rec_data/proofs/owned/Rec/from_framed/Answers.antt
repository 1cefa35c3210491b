use Rattle.rec_data.proofs.OwnedReading.{found, found_one}
use Rattle.rec_data.proofs.owned.Rec.from_framed.Goals as goal

pub returns-in-3 : goal.returns-in-3
returns-in-3 c = found c.args.bytes.now c.in-Some.op 3 c.in-Some.content.now c.schema_of.result c.in-3.is c.in-Some.ensures c.schema_of.ensures

pub returns-in-4 : goal.returns-in-4
returns-in-4 c = found c.args.bytes.now c.in-Some.op 4 c.in-Some.content.now c.channel_of.result c.in-4.is c.in-Some.ensures c.channel_of.ensures

pub returns-in-5 : goal.returns-in-5
returns-in-5 c = found c.args.bytes.now c.in-Some.op 5 c.in-Some.content.now c.message_of.result c.in-5.is c.in-Some.ensures c.message_of.ensures

pub returns-in_default-op : goal.returns-in_default-op
returns-in_default-op c = found_one c.args.bytes.now c.in-Some.op c.in-Some.content.now c.extra_of.result c.in-Some.ensures c.extra_of.ensures
