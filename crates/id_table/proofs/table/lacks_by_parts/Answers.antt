use Rattle.std.proofs.Common.{arith}
use Rattle.std.proofs.lemmas.List.{length-map}
use Rattle.id_table.specs.Keys.{stocked, content_at}
use Rattle.id_table.proofs.Keyed.{lacks_part}
use Rattle.id_table.proofs.table.lacks_by_parts.Goals as goal

pub returns-in-None-clause-channels : goal.returns-in-None-clause-channels
returns-in-None-clause-channels c = λ yes.
    let stock = stocked c.args.schemas.now.keys c.args.parts.now.texts.keys c.args.parts.now.maps.keys in
    let many = length-map c.args.channels.now.keys (content_at stock) in (
      lacks_part stock c.args.channels.now.keys c.requires c.args.d.now c.in-None.ensures,
      omega (arith, many, c.len-else-len-ge-MAX_IDS.ensures.len, c.if-len-lt-MAX_IDS.false),
    )
