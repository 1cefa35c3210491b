use Rattle.std.proofs.Common.{ℕ, ◌+◌, List, ap}
use Rattle.summary_write.specs.Fields.{tally_of}
use Rattle.summary_write.specs.Tally.{Tally}
use Rattle.summary_write.proofs.Tallying.{stands_block}
use Rattle.summary_write.proofs.summary.Summary.note_block.Goals as goal

pub returns-clause-ok : goal.returns-clause-ok
returns-clause-ok c records is n stands =
    let s : Tally = tally_of c.self.inside in
    stands_block s c.args.self.now _ n c.args.at records c.self.view_is
    (ap (λ (l : List ℕ). record s { blocks = s.blocks + 1; chunk_indexes = l }) (c.in-Ok.ensures.ok records is)) stands
