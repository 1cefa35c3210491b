-- A record was put, or its piece was refused.
use Rattle.std.proofs.Common.{arith}
use Rattle.std.proofs.lemmas.Grind.{common_steps}
use Rattle.live_entry.specs.declared.entry.Entry.{Entry}
use Rattle.live_entry.specs.Entries.{seen_before}
use Rattle.chunk_writer.proofs.Stopping.{added_err}
use Rattle.chunk_writer.proofs.Through.{stopped_through, plain_through}
use Rattle.chunk_writer.proofs.Writing.{put_block, block_entry, put_record, put_aside, block_refused, record_refused, aside_refused, add_refused, waits_same, put_waits}
use Rattle.chunk_writer.proofs.scribe.Scribe.put_framed.Goals as goal

pub returns-in-Ok-clause-grows : goal.returns-in-Ok-clause-grows
returns-in-Ok-clause-grows g c = λ r framed options extras opened history (stands, waits, through). (
  put_block options opened.held _ _ history r c.args.self.now.plan c.add.new.self c.append_block.new.self.plan _ c.in-Ok-Block.block c.in-Ok-Block.field-0-is (c.in-Ok-Block.ensures.ok r framed)
      c.in-Ok-Block.ensures.going c.in-Ok.ensures.ok c.requires.going c.in-Ok.ensures.appends.0 stands,
  waits_same c.args.self.now.plan.phase _ extras _ _ c.in-Ok.ensures.waiting c.requires.going waits,
  λ going some. c.in-Ok.ensures.through,
)

pub returns-in-Ok-clause-entry : goal.returns-in-Ok-clause-entry
returns-in-Ok-clause-entry g c = λ r framed options extras opened history (stands, waits, through).
    block_entry {X = g.row.L-Extent.Denot} (seen_before (λ e. g.L.Extent.Extent.tells e) (λ e. g.L.Extent.Extent.size e) (g.L.LiveStore.state c.args.self.now.store)) options opened.held (g.L.LiveStore.state c.args.self.now.store).held history r c.args.self.now.plan c.add.new.self _ c.in-Ok-Block.block
    c.in-Ok.entry _ c.in-Ok-Block.field-0-is (c.in-Ok-Block.ensures.ok r framed) c.requires.going c.bytes-bytes.ensures.value c.in-Ok.ensures.entry c.in-Ok.ensures.appends.1 c.in-Ok.ensures.appends.2 stands

pub returns-in-Err-append_block-clause-grows : goal.returns-in-Err-append_block-clause-grows
returns-in-Err-append_block-clause-grows g c = λ r framed options extras opened history (stands, waits, through). (
  block_refused options opened.held _ (g.L.LiveStore.state c.append_block.new.self.store).held history r c.args.self.now.plan c.add.new.self c.append_block.new.self.plan _ c.args.framed.now c.in-Ok-Block.block c.in-Err-append_block.stop _ _ c.in-Ok-Block.field-0-is
      (c.in-Ok-Block.ensures.ok r framed) c.in-Ok-Block.ensures.room c.blocks-blocks.ensures.value c.bytes-bytes.ensures.value c.in-Err-append_block.ensures.err c.requires.going
      (added_err {X = Entry g.row.L-Extent.Denot} (λ e. g.L.Extent.Extent.tells e.extent) (λ e. g.L.Extent.Extent.size e.extent) (g.L.LiveStore.state c.args.self.now.store) (g.L.LiveStore.state c.append_block.new.self.store) c.in-Ok-Block.block.bytes
      c.in-Err-append_block.stop c.in-Err-append_block.ensures.appends) stands,
  waits_same c.args.self.now.plan.phase _ extras _ _ c.in-Err-append_block.ensures.waiting c.requires.going waits,
  stopped_through options c.append_block.new.self.plan.phase c.in-Err-append_block.stop _ c.in-Err-append_block.ensures.err.phase,
)

pub returns-in-Ok-append_record-clause-grows : goal.returns-in-Ok-append_record-clause-grows
returns-in-Ok-append_record-clause-grows g c = λ r framed options extras opened history (stands, waits, through). (
  put_record options opened.held _ _ history r c.args.self.now.plan c.add.new.self c.append_record.new.self.plan _ c.args.framed.now c.in-Ok-Record.field-0-is framed.spelled (c.in-Ok-Record.ensures.ok r framed)
      c.in-Ok-Record.ensures.going c.in-Ok-append_record.ensures.ok c.requires.going c.in-Ok-append_record.ensures.appends stands,
  waits_same c.args.self.now.plan.phase _ extras _ _ c.in-Ok-append_record.ensures.waiting c.requires.going waits,
  plain_through options opened.held _ history c.args.self.now.plan c.append_record.new.self.plan.phase _ (c.in-Ok-Record.ensures.plain c.in-Ok-Record.field-0-is) c.requires.going stands,
)

pub returns-in-Ok-append_record-clause-keeps : goal.returns-in-Ok-append_record-clause-keeps
returns-in-Ok-append_record-clause-keeps g c = λ before told. (c.args.framed.now, c.in-Ok-append_record.ensures.appends before told)

pub returns-in-Err-append_record-clause-grows : goal.returns-in-Err-append_record-clause-grows
returns-in-Err-append_record-clause-grows g c = λ r framed options extras opened history (stands, waits, through). (
  record_refused options opened.held _ (g.L.LiveStore.state c.append_record.new.self.store).held history r c.args.self.now.plan c.add.new.self c.append_record.new.self.plan _ c.args.framed.now c.in-Err-append_record.stop _ _ c.in-Ok-Record.field-0-is framed.spelled
      (c.in-Ok-Record.ensures.ok r framed) c.in-Ok-Record.ensures.room c.blocks-blocks.ensures.value c.bytes-bytes.ensures.value c.in-Err-append_record.ensures.err c.requires.going
      c.in-Err-append_record.ensures.appends stands,
  waits_same c.args.self.now.plan.phase _ extras _ _ c.in-Err-append_record.ensures.waiting c.requires.going waits,
  stopped_through options c.append_record.new.self.plan.phase c.in-Err-append_record.stop _ c.in-Err-append_record.ensures.err.phase,
)

pub returns-in-Err-clause-grows : goal.returns-in-Err-clause-grows
returns-in-Err-clause-grows g c = λ r framed options extras opened history (stands, waits, through). (
  add_refused options opened.held _ history r c.args.self.now.plan c.add.new.self c.in-Err.stop c.requires.going (c.in-Err.ensures.err r framed) c.in-Err.ensures.stopped stands,
  λ going. waits c.requires.going,
  stopped_through options c.add.new.self.phase c.in-Err.stop _ c.in-Err.ensures.stopped.phase,
)

pub returns-in-Ok-append_record-clause-entry : goal.returns-in-Ok-append_record-clause-entry
returns-in-Ok-append_record-clause-entry g c = grind (arith, common_steps)

pub returns-in-Ok-Waits-clause-grows : goal.returns-in-Ok-Waits-clause-grows
returns-in-Ok-Waits-clause-grows g c = λ r framed options extras opened history (stands, waits, through). (
  put_waits options opened.held _ history r c.args.self.now.plan c.add.new.self _ c.in-Ok-Waits.field-0-is (c.in-Ok-Waits.ensures.ok r framed) c.in-Ok-Waits.ensures.going c.requires.going stands,
  λ going. waits c.requires.going,
  λ going. through c.requires.going,
)

pub returns-in-Ok-append_aside-clause-grows : goal.returns-in-Ok-append_aside-clause-grows
returns-in-Ok-append_aside-clause-grows g c = λ r framed options extras opened history (stands, waits, through). (
  put_aside options opened.held _ _ history r c.args.self.now.plan c.add.new.self c.append_aside.new.self.plan _ c.args.framed.now c.in-Ok-Aside.field-0-is framed.spelled (c.in-Ok-Aside.ensures.ok r framed)
      c.in-Ok-Aside.ensures.going c.in-Ok-append_aside.ensures.ok c.requires.going c.in-Ok-append_aside.ensures.appends stands,
  waits_same c.args.self.now.plan.phase _ extras _ _ c.in-Ok-append_aside.ensures.waiting c.requires.going waits,
  λ going some. c.in-Ok-append_aside.ensures.through,
)

pub returns-in-Ok-append_aside-clause-keeps : goal.returns-in-Ok-append_aside-clause-keeps
returns-in-Ok-append_aside-clause-keeps g c = λ before told. (c.args.framed.now, c.in-Ok-append_aside.ensures.appends before told)

pub returns-in-Err-append_aside-clause-grows : goal.returns-in-Err-append_aside-clause-grows
returns-in-Err-append_aside-clause-grows g c = λ r framed options extras opened history (stands, waits, through). (
  aside_refused options opened.held _ (g.L.LiveStore.state c.append_aside.new.self.store).held history r c.args.self.now.plan c.add.new.self c.append_aside.new.self.plan _ c.args.framed.now c.in-Err-append_aside.stop _ _ c.in-Ok-Aside.field-0-is framed.spelled
      (c.in-Ok-Aside.ensures.ok r framed) c.in-Ok-Aside.ensures.room c.blocks-blocks.ensures.value c.bytes-bytes.ensures.value c.in-Err-append_aside.ensures.err c.requires.going
      c.in-Err-append_aside.ensures.appends stands,
  waits_same c.args.self.now.plan.phase _ extras _ _ c.in-Err-append_aside.ensures.waiting c.requires.going waits,
  stopped_through options c.append_aside.new.self.plan.phase c.in-Err-append_aside.stop _ c.in-Err-append_aside.ensures.err.phase,
)

pub returns-in-Ok-append_aside-clause-entry : goal.returns-in-Ok-append_aside-clause-entry
returns-in-Ok-append_aside-clause-entry g c = grind (arith, common_steps)
