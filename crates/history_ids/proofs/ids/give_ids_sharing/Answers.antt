use Rattle.std.proofs.Common.{◌≤◌, length, arith}
use Rattle.history_ids.proofs.Giving.{answers_by}
use Rattle.history_ids.proofs.ids.give_ids_sharing.Goals as goal

pub returns-clause-given : goal.returns-clause-given
returns-clause-given c =
    let schemas : length c.declare-given.new.table.schemas ≤ 65535 = omega (arith, c.schemas-schemas.ensures.count, c.schemas-schemas.ensures.few) in
    let channels : length c.declare-given.new.table.channels ≤ 65535 = omega (arith, c.channels-channels.ensures.count, c.channels-channels.ensures.few) in
    (answers_by c.args.table.now c.declare-given.new.table c.args.channel.now c.declare-given.result c.requires.schemas c.schemas-before.ensures.once c.requires.is_new schemas channels c.declare-given.ensures.ok c.declare-given.ensures.why c.declare-given.ensures.err).declared

pub returns-clause-schemas : goal.returns-clause-schemas
returns-clause-schemas c =
    let schemas : length c.declare-given.new.table.schemas ≤ 65535 = omega (arith, c.schemas-schemas.ensures.count, c.schemas-schemas.ensures.few) in
    let channels : length c.declare-given.new.table.channels ≤ 65535 = omega (arith, c.channels-channels.ensures.count, c.channels-channels.ensures.few) in
    (answers_by c.args.table.now c.declare-given.new.table c.args.channel.now c.declare-given.result c.requires.schemas c.schemas-before.ensures.once c.requires.is_new schemas channels c.declare-given.ensures.ok c.declare-given.ensures.why c.declare-given.ensures.err).schemas
