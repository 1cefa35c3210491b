use Rattle.index_check.proofs.Runs.{run_rises, run_is}
use Rattle.index_check.proofs.chunk_messages.run_of.Goals as goal

pub slice_bounds-result-count : goal.slice_bounds-result-count
slice_bounds-result-count c = run_rises c.args.messages.now c.args.channel c.count_below-from.result c.count_below-to.result c.count_below-from.ensures.within c.count_below-to.ensures.within c.count_below-from.ensures.parts c.count_below-to.ensures.parts

pub slice_bounds-result-start : goal.slice_bounds-result-start
slice_bounds-result-start c = run_rises c.args.messages.now c.args.channel c.count_below-from.result c.count_below-to.result c.count_below-from.ensures.within c.count_below-to.ensures.within c.count_below-from.ensures.parts c.count_below-to.ensures.parts

pub returns : goal.returns
returns c = run_is c.args.messages.now c.args.channel c.count_below-from.result c.count_below-to.result c.count_below-from.ensures.within c.count_below-to.ensures.within c.count_below-from.ensures.parts c.count_below-to.ensures.parts
