use Rattle.std.proofs.Common.{◌<◌, subst, sym, rules, arith}
use Rattle.record_core.specs.Desk.{DeskView, bytes_held}
use Rattle.record_core.proofs.Lacking.{lacks_none, lacks_schemas, lacks_channels}
use Rattle.record_core.proofs.desk.Desk.give.Goals as goal

pub returns-in-Err-TooManySchemas : goal.returns-in-Err-TooManySchemas
returns-in-Err-TooManySchemas c = search (rules, lacks_schemas)

pub returns-in-Err-TooManyChannels : goal.returns-in-Err-TooManyChannels
returns-in-Err-TooManyChannels c = search (rules, lacks_channels)

pub returns-in-Err-Memory : goal.returns-in-Err-Memory
returns-in-Err-Memory c = search (rules, lacks_none)

pub returns-in-Ok-offer_declared : goal.returns-in-Ok-offer_declared
returns-in-Ok-offer_declared c = search (rules, lacks_none)

pub give_ids_sharing-requires-clause-schemas : goal.give_ids_sharing-requires-clause-schemas
give_ids_sharing-requires-clause-schemas c = search rules

pub give_ids_sharing-requires-clause-is_new : goal.give_ids_sharing-requires-clause-is_new
give_ids_sharing-requires-clause-is_new c = search rules

pub offer_declared-requires-clause-fits : goal.offer_declared-requires-clause-fits
offer_declared-requires-clause-fits c = search rules

pub offer_declared-requires-clause-small : goal.offer_declared-requires-clause-small
offer_declared-requires-clause-small c = search rules

pub unreachable-requires : goal.unreachable-requires
unreachable-requires c =
    let room = subst (λ (d : DeskView). bytes_held d < d.limit) (sym c.self.view_is) c.requires.is_open.room in
    omega (arith, c.in-Err.ensures.0, room)
