use Rattle.summary_check.proofs.Numbering.{tally_whole}
use Rattle.summary_check.proofs.counting.count_ids.Goals as goal

pub returns : goal.returns
returns c = λ tops section all was is are.
    tally_whole tops section all c.args.tally.now c.args.tables.now c.len.result c.len-2.result was is are c.len.ensures.apart c.len-2.ensures.apart c.len.ensures.count c.len-2.ensures.count
