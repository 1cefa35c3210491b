use Rattle.std.proofs.Common.{ap, ◌∙◌}
use Rattle.std.specs.Prelude.{filter, nat_le}
use Rattle.live_replay.proofs.IndexTables.{among_both}
use Rattle.live_replay.proofs.index_table.IndexTable.between.Goals as goal

pub returns-in-Some-clause-among : goal.returns-in-Some-clause-among
returns-in-Some-clause-among c =
    among_both c.args.self.now c.late-from_start.result.now c.early.result.now c.args.range c.in-Some.end
    (c.late-from_start.ensures.late ∙ ap (filter (λ e. nat_le c.args.range.start e.time)) (c.deref.ensures.value ∙ c.self.view_is)) c.early.ensures.early c.in-Some.is
