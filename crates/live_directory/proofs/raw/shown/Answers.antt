use Rattle.std.proofs.Common.{drop, ◌∙◌}
use Rattle.left_right.specs.Sides.{view}
use Rattle.live_directory.proofs.Histories.{fold_snoc, both_ways}
use Rattle.live_directory.proofs.raw.shown.Goals as goal

pub publish_as-requires : goal.publish_as-requires
publish_as-requires g c next is views holds at = (view c.args.writer.desk.place, tt, tt)

pub returns : goal.returns
returns g c = both_ways c.publish_as.result.1 c.publish_as.ensures.values
    (λ a. (a.0 ∙ fold_snoc c.args.writer.desk.shown.value (drop c.args.writer.behind c.args.writer.log.items), a.1))
    (λ b. (b.0, b.1))
