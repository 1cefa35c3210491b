use Rattle.std.proofs.Common.{sym, subst, arith}
use Rattle.mcap_merge.specs.Schemas.{AreBare}
use Rattle.mcap_merge.proofs.SeenSchemas.{enters, lacks_place}
use Rattle.mcap_merge.proofs.schemas.enter_schema.Goals as goal

pub returns-in-Ok-declare-clause-bare : goal.returns-in-Ok-declare-clause-bare
returns-in-Ok-declare-clause-bare c = (enters c.args.table.now c.declare.new.self c.args.schema c.in-Ok.channel _ c.requires c.in-Ok.ensures c.in-Ok-declare.ensures.ok).0

pub returns-in-Ok-declare-clause-entered : goal.returns-in-Ok-declare-clause-entered
returns-in-Ok-declare-clause-entered c = (enters c.args.table.now c.declare.new.self c.args.schema c.in-Ok.channel _ c.requires c.in-Ok.ensures c.in-Ok-declare.ensures.ok).1

pub returns-in-Err-declare-clause-refused : goal.returns-in-Err-declare-clause-refused
returns-in-Err-declare-clause-refused c =
    lacks_place c.args.table.now c.args.schema c.in-Ok.channel c.in-Err-declare.refused c.requires c.in-Ok.ensures c.schemas-before.ensures.once (omega (arith, c.schemas-before.ensures.count, c.schemas-before.ensures.few)) c.in-Err-declare.ensures.why

pub returns-in-Err-declare-clause-bare : goal.returns-in-Err-declare-clause-bare
returns-in-Err-declare-clause-bare c = subst AreBare (sym c.in-Err-declare.ensures.err) c.requires
