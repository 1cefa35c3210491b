use Rattle.mcap_model.proofs.TakenRecords.{limit_read}
use Rattle.mcap_model.proofs.taking.passes_limit.Goals as goal

pub returns-in-Ok : goal.returns-in-Ok
returns-in-Ok c = limit_read c.args.bytes.now c.args.at c.in-Ok.len _ c.is_beyond.result c.in-Ok.ensures c.if-bytes-at-eq0.false c.is_beyond.ensures
