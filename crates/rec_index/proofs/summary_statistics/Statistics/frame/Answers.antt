use Rattle.std.proofs.Common.{◌+◌, arith}
use Rattle.rec_index.specs.Parsed.{statistics_fields}
use Rattle.rec_index.proofs.MapContents.{statistics_framed}
use Rattle.rec_index.proofs.summary_statistics.Statistics.frame.Goals as goal

pub returns-clause-ok : goal.returns-clause-ok
returns-clause-ok c =
    let self = c.args.self.now in
    rw (
      c.add_counts.ensures.items,
      c.add_u64-3.ensures.items,
      c.add_u64-2.ensures.items,
      c.add_u32-4.ensures.items,
      c.add_u32-3.ensures.items,
      c.add_u32-2.ensures.items,
      c.add_u32.ensures.items,
      c.add_u16.ensures.items,
      c.add_u64.ensures.items,
      c.add_head.ensures.items,
      c.make_room.ensures.items,
    )
    (statistics_framed c.args.out.now.items (46 + c.byte_len-len.result) (statistics_fields self) (omega (arith, c.byte_len-len.ensures)))
