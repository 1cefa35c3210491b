use Rattle.std.proofs.Common.{false, refl}
use Rattle.std.proofs.lemmas.Bool.{both_ways}
use Rattle.index_check.proofs.Ends.{places_named, named_start, named_first}
use Rattle.index_check.proofs.summary_places.SummaryPlaces.are_named.Goals as goal

pub returns-then-not-is_start : goal.returns-then-not-is_start
returns-then-not-is_start c = λ tops n are. (
  λ e. absurd (both_ways false refl e),
  λ names. absurd (both_ways c.is_start.result c.if-not-is_start.true (c.is_start.ensures.1 (named_start tops n c.args.footer.now.summary_start c.args.footer.now.summary_offset_start c.args.self.now are names))),
)

pub returns : goal.returns
returns c = λ tops n are. (
  λ e. places_named tops n c.args.footer.now.summary_start c.args.footer.now.summary_offset_start c.args.self.now are (c.is_start.ensures.0 c.if-not-is_start.false) (c.is_first.ensures.0 e),
  λ names. c.is_first.ensures.1 (named_first tops n c.args.footer.now.summary_start c.args.footer.now.summary_offset_start c.args.self.now are names),
)
