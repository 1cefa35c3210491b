use Rattle.mcap_wire.proofs.Fields.{bytes_read, bytes_short}
use Rattle.mcap_wire.proofs.reading.take_bytes32.Goals as goal

pub returns-in-Ok-bytes_from : goal.returns-in-Ok-bytes_from
returns-in-Ok-bytes_from c =
    let read = c.in-Ok-bytes_from.ensures in
    bytes_read 4 c.args.content.now c.args.at c.in-Ok.read.0 c.in-Ok.read.1 c.in-Ok-bytes_from.read.0.now c.in-Ok-bytes_from.read.1 c.in-Ok.ensures read.bytes read.end read.within

pub returns-in-Err-bytes_from : goal.returns-in-Err-bytes_from
returns-in-Err-bytes_from c =
    bytes_short 4 c.args.content.now c.args.at c.in-Ok.read.0 c.in-Ok.read.1 c.in-Ok.ensures c.in-Err-bytes_from.ensures.short.1
